-- Which texts spell a value of a kind, and which JSON scalars fit it. Identifiers are spelled as RFC 9562 says, in any of
-- the forms that the `uuid` crate reads; the rest is this project's own.
use Rattle.std.specs.Prelude.{ℕ, ℤ, pos, neg_ℤ, ◌-◌, ◌^◌, ◌&&◌, Bool, true, false, if◌then◌else◌, List, length, drop, nat_lt, nat_le, int_le, int_lt, Option, Some, None, option_map, codes}
use Rattle.std.specs.Int.{w128, from_be_bytes}
use Rattle.std.specs.Str.{all_ascii_digits, bytes_eq}
use Rattle.std.specs.Str.Parse.{digits_value, starts_with_minus}
use Rattle.uuid.specs.Text.{parsed}
use Rattle.scalar_val.specs.declared.val.Val.{Val}
use Rattle.scalar_val.specs.declared.val.Val.TheVariants as val
use Rattle.scalar_val.specs.declared.val.Kind.{Kind}
use Rattle.scalar_val.specs.declared.val.Kind.TheVariants as kind

-- 1 to 19 decimal digits
abbrev pub are_digits : List ℕ → Bool
are_digits ds = nat_lt 0 (length ds) && nat_le (length ds) 19 && all_ascii_digits ds

-- their number, where it is not above the most
abbrev pub digits_up_to : ℕ → List ℕ → Option ℕ
digits_up_to most ds = if are_digits ds && nat_le (digits_value 10 ds) most then Some (digits_value 10 ds) else None

-- digits with `-` before them or nothing, from -2^bits up to 2^bits - 1
abbrev pub integer_spelled : ℕ → List ℕ → Option ℤ
integer_spelled bits text =
    if starts_with_minus text then option_map (λ n. neg_ℤ (pos n)) (digits_up_to (2 ^ bits) (drop 1 text))
    else option_map pos (digits_up_to (2 ^ bits - 1) text)

abbrev pub bool_spelled : List ℕ → Option Bool
bool_spelled text =
    if bytes_eq text (codes "true") then Some true
    else if bytes_eq text (codes "false") then Some false
    else None

-- the value of a kind that a text spells
abbrev pub spelled : Kind → List ℕ → Option Val
spelled kind.Bool text = option_map val.Bool (bool_spelled text)
spelled kind.Int text = option_map val.Int (integer_spelled 31 text)
spelled kind.Big text = option_map val.Big (integer_spelled 63 text)
spelled kind.Text text = Some (val.Text text)
spelled kind.Uuid text = option_map (λ bytes. val.Uuid (from_be_bytes w128 bytes)) (parsed text)

abbrev pub within : ℕ → ℤ → Option ℤ
within bits z = if int_le (neg_ℤ (pos (2 ^ bits))) z && int_lt z (pos (2 ^ bits)) then Some z else None

-- what a JSON scalar gives in a column of a kind; an integer is a bigint and a string a text before that
abbrev pub fitted : Kind → Val → Option Val
fitted kind.Bool (val.Bool b) = Some (val.Bool b)
fitted kind.Int (val.Big z) = option_map val.Int (within 31 z)
fitted kind.Big (val.Big z) = Some (val.Big z)
fitted kind.Big (val.Text text) = spelled kind.Big text
fitted kind.Text (val.Text text) = Some (val.Text text)
fitted kind.Uuid (val.Text text) = spelled kind.Uuid text
fitted _ _ = None
