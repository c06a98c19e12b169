-- The first place that passes a test, and tests over lists.
use Rattle.std.proofs.Common.{◌≡◌, ℕ, ◌≤◌, Bool, cond, true, false, ◌||◌, ◌==◌, nat_lt, List, [], ◌∷◌, ◌++◌, length, refl, subst, ◌∙◌, ap, append-nil, arith, Option, Some, None, unwrap_or}
use Rattle.std.proofs.lemmas.Bool.{ltb-false, eqb-true}
use Rattle.std.proofs.lemmas.List.Folds.{list_any-append}
use Rattle.std.proofs.lemmas.List.Sums.{prefix_len-le-length}
use Rattle.std.specs.List.{cons_option, filter_map, find, list_any, position, position_or_len, slice_get}
use Rattle.data_model.proofs.Lists.{or_false}

within : (b : Bool) (n len : ℕ) → (b ≡ false → len ≤ n) → n ≤ len → unwrap_or (cond b (Some n) None) len ≡ n
within true n len past most = refl
within false n len past most = omega (arith, past refl)

pub first_place : {A : Type 0} (p : A → Bool) (xs : List A) → unwrap_or (position p xs) (length xs) ≡ position_or_len p xs
first_place p xs = within (nat_lt (position_or_len p xs) (length xs)) (position_or_len p xs) (length xs) (ltb-false (position_or_len p xs) (length xs)) (prefix_len-le-length _ xs)

pub nothing_more : {A : Type 0} (xs : List A) → xs ++ [] ≡ xs
nothing_more xs = append-nil xs
