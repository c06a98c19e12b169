-- The words on a worker's calls and a clock's times, over two lists one after the other.
use Rattle.std.proofs.Common.{◌≡◌, ℕ, ◌+◌, Bool, cond, Option, List, [], ◌∷◌, ◌++◌, refl, arith}
use Rattle.std.specs.List.{AllByRecursion, count_by}
use Rattle.std.proofs.lemmas.List.Sums.{sum_by-append}
use Rattle.subs_engine.specs.Calls.{Call}
use Rattle.polling_worker.specs.Ticks.{is_tick, ticks_in, is_nobody, nobodies, InTurn, ticked_after, last_by, counted}
use Rattle.polling_worker.specs.Ticks.{last_after}

module _ {X : Type 0} where
  pub all_append : (P : X → Type 0) (xs ys : List X) → AllByRecursion P xs → AllByRecursion P ys →
      AllByRecursion P (xs ++ ys)
  all_append P [] ys a b = b
  all_append P (x ∷ xs) ys a b = (a.0, all_append P xs ys a.1 b)

  pub all_then : (P Q : X → Type 0) → ((x : X) → P x → Q x) → (xs : List X) → AllByRecursion P xs → AllByRecursion Q xs
  all_then P Q h [] a = tt
  all_then P Q h (x ∷ xs) a = (h x a.0, all_then P Q h xs a.1)

  count-append : (p : X → Bool) (xs ys : List X) → count_by p (xs ++ ys) ≡ count_by p xs + count_by p ys
  count-append p xs ys = sum_by-append (λ (x : X). cond (p x) 1 0) xs ys

pub ticks-append : (xs ys : List Call) → ticks_in (xs ++ ys) ≡ ticks_in xs + ticks_in ys
ticks-append xs ys = count-append is_tick xs ys

pub nobodies-append : (xs ys : List Call) → nobodies (xs ++ ys) ≡ nobodies xs + nobodies ys
nobodies-append xs ys = count-append is_nobody xs ys

pub turn-append : (ticked : Bool) (xs ys : List Call) → InTurn ticked xs → InTurn (ticked_after ticked xs) ys →
    InTurn ticked (xs ++ ys)
turn-append ticked [] ys a b = b
turn-append ticked (x ∷ xs) ys a b = (a.0, turn-append (is_tick x) xs ys a.1 b)

pub ticked-append : (ticked : Bool) (xs ys : List Call) → ticked_after ticked (xs ++ ys) ≡ ticked_after
    (ticked_after ticked xs) ys
ticked-append ticked [] ys = refl
ticked-append ticked (x ∷ xs) ys = ticked-append (is_tick x) xs ys

pub counted-append : (refetch : ℕ) (last : Option ℕ) (xs ys : List ℕ) →
    counted refetch last (xs ++ ys) ≡ counted refetch last xs + counted refetch (last_after refetch last xs) ys
counted-append refetch last [] ys = omega arith
counted-append refetch last (x ∷ xs) ys = omega (arith, counted-append refetch (last_by refetch last x) xs ys)

pub last-append : (refetch : ℕ) (last : Option ℕ) (xs ys : List ℕ) →
    last_after refetch last (xs ++ ys) ≡ last_after refetch (last_after refetch last xs) ys
last-append refetch last [] ys = refl
last-append refetch last (x ∷ xs) ys = last-append refetch (last_by refetch last x) xs ys
