-- The words on calls and items, over two lists one after the other.
use Rattle.std.proofs.Common.{◌≡◌, ℕ, ◌+◌, Bool, true, false, cond, List, [], ◌∷◌, ◌++◌, refl, arith}
use Rattle.std.specs.List.{AllByRecursion, AllZip, count_by}
use Rattle.std.proofs.lemmas.List.Sums.{sum_by-append}
use Rattle.subs_engine.specs.Calls.{Call}
use Rattle.connection_server.specs.Steps.{InOrder, quiet_after, is_quiet}

module _ {X : Type 0} where
  pub all_append : (P : X → Type 0) (xs ys : List X) → AllByRecursion P xs → AllByRecursion P ys → AllByRecursion P (xs ++ ys)
  all_append P [] ys a b = b
  all_append P (x ∷ xs) ys a b = (a.0, all_append P xs ys a.1 b)

  pub count-append : (p : X → Bool) (xs ys : List X) → count_by p (xs ++ ys) ≡ count_by p xs + count_by p ys
  count-append p xs ys = sum_by-append (λ (x : X). cond (p x) 1 0) xs ys

pub zip_append : {A B : Type 0} (R : A → B → Type 0) (xs xs' : List A) (ys ys' : List B) →
    AllZip R xs ys → AllZip R xs' ys' → AllZip R (xs ++ xs') (ys ++ ys')
zip_append R [] xs' [] ys' a b = b
zip_append R [] xs' (y ∷ ys) ys' a b = absurd a
zip_append R (x ∷ xs) xs' [] ys' a b = absurd a
zip_append R (x ∷ xs) xs' (y ∷ ys) ys' a b = (a.0, zip_append R xs xs' ys ys' a.1 b)

pub order-append : (quiet : Bool) (xs ys : List Call) → InOrder quiet xs → InOrder (quiet_after quiet xs) ys → InOrder quiet (xs ++ ys)
order-append quiet [] ys a b = b
order-append quiet (x ∷ xs) ys a b = (a.0, order-append (is_quiet x) xs ys a.1 b)

pub quiet-append : (quiet : Bool) (xs ys : List Call) → quiet_after quiet (xs ++ ys) ≡ quiet_after (quiet_after quiet xs) ys
quiet-append quiet [] ys = refl
quiet-append quiet (x ∷ xs) ys = quiet-append (is_quiet x) xs ys
