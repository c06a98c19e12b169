-- Places of items in a list.
use Rattle.std.proofs.Common.{◌≡◌, ℕ, ◌<◌, Bool, true, false, Option, Some, None, IfSome, List, length, nat_lt, cond}
use Rattle.std.proofs.Common.{refl, subst, sym, position, arith}
use Rattle.std.specs.List.{position_or_len}
use Rattle.std.proofs.lemmas.Bool.Decides.{nat_tests}

above : (n m : ℕ) → nat_lt n m ≡ true → n < m
above n m h = grind (arith, nat_tests)

within_by : (n m : ℕ) (b : Bool) → nat_lt n m ≡ b → IfSome (cond {A = Option ℕ} b (Some n) None) (λ at. at < m)
within_by n m true h = above n m h
within_by n m false h = tt

-- the first place at which a test passes is one of the list
pub place_within : {X : Type 0} (p : X → Bool) (xs : List X) (r : Option ℕ) → r ≡ position p xs
    → IfSome r (λ at. at < length xs)
place_within p xs r e =
    let n = position_or_len p xs in
    subst (λ o. IfSome o (λ at. at < length xs)) (sym e) (within_by n (length xs) (nat_lt n (length xs)) refl)
