-- The compact JSON text of a value (RFC 8259). Identifiers are in the lower-case hyphenated form of RFC 9562.
use Rattle.std.specs.Prelude.{ℕ, List, [], ◌∷◌, ◌++◌, true, false, codes}
use Rattle.std.specs.Fmt.{signed_decimal}
use Rattle.std.specs.Int.{w128, to_be_bytes}
use Rattle.json.specs.Print.{quoted}
use Rattle.uuid.specs.Text.{hyphenated_text, lower}
use Rattle.scalar_val.specs.declared.val.Val.{Val}
use Rattle.scalar_val.specs.declared.val.Val.TheVariants as val

-- 32 hexadecimal digits and four hyphens
abbrev pub uuid_text : ℕ → List ℕ
uuid_text n = hyphenated_text lower (to_be_bytes w128 n)

abbrev pub val_text : Val → List ℕ
val_text val.Null = codes "null"
val_text (val.Bool true) = codes "true"
val_text (val.Bool false) = codes "false"
val_text (val.Int z) = signed_decimal z
val_text (val.Big z) = signed_decimal z
val_text (val.Text t) = quoted t
val_text (val.Uuid n) = 34 ∷ uuid_text n ++ 34 ∷ []
