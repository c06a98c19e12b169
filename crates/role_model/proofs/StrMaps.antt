-- A map of strings beside the list that it stands for.
use Rattle.std.proofs.Common.{◌≡◌, List, [], ◌∷◌, map, Option, Some, String, Global, Ordering, Less, Equal, Greater, string_bytes, nat_cmp, cond, is_eq, refl, ap}
use Rattle.std.specs.Cmp.Lexicographic.{slice_cmp}
use Rattle.std.specs.Map.{lookup}
use Rattle.std.specs.Ordering.{match_ordering}
use Rattle.std.specs.BTreeMap.{is_at, insert_entry}
use Rattle.std.specs.String.{string_cmp}
use Rattle.role_model.specs.Texts.{Text, Texts, value_of, with_value}

abbrev pub Entry : Type 0
Entry = String Global × Text

abbrev pub shown : List Entry → Texts
shown es = map (λ e. (string_bytes e.0, e.1)) es

found_at : (o : Ordering) (x : Text) (a b : Option Text) → a ≡ b → match_ordering o a (Some x) a ≡ cond (is_eq o) (Some x) b
found_at Less x a b h = h
found_at Equal x a b h = refl
found_at Greater x a b h = h

pub value_of-shown : (name : Text) (es : List Entry) → value_of name (shown es) ≡ lookup (is_at (λ k. slice_cmp nat_cmp name (string_bytes k))) es
value_of-shown name [] = refl
value_of-shown name (e ∷ es) = found_at (slice_cmp nat_cmp name (string_bytes e.0)) e.1 _ _ (value_of-shown name es)

put_at : (o : Ordering) (key : String Global) (value : Text) (e : Entry) (es : List Entry) → with_value (string_bytes key) value (shown es) ≡ shown (insert_entry string_cmp es key value)
    → match_ordering o ((string_bytes key, value) ∷ shown (e ∷ es)) ((string_bytes e.0, value) ∷ shown es) ((string_bytes e.0, e.1) ∷ with_value (string_bytes key) value (shown es))
    ≡ shown (match_ordering o ((key, value) ∷ e ∷ es) ((e.0, value) ∷ es) (e ∷ insert_entry string_cmp es key value))
put_at Less key value e es h = refl
put_at Equal key value e es h = refl
put_at Greater key value e es h = ap (λ (rest : Texts). (string_bytes e.0, e.1) ∷ rest) h

pub with_value-shown : (key : String Global) (value : Text) (es : List Entry) → with_value (string_bytes key) value (shown es) ≡ shown (insert_entry string_cmp es key value)
with_value-shown key value [] = refl
with_value-shown key value (e ∷ es) = put_at (string_cmp key e.0) key value e es (with_value-shown key value es)
