-- Subscriptions are told apart by their numbers.
use Rattle.std.proofs.Common.{◌≡◌, sym, subst, ℕ, zero, suc, ◌+◌, ◌<◌, ◌≤◌, length, map, arith}
use Rattle.std.specs.List.{range_with_len, AllByRecursion}
use Rattle.machine.specs.State.{State, Subscription}
use Rattle.hub_model.proofs.Items.{Among, Ascend, map_among, all_among, ascend_apart}
use Rattle.hub_model.proofs.Reached.{IsRun}

range_low : (a b n : ℕ) → a < b → AllByRecursion (λ m. a < m) (range_with_len b n)
range_low a b zero h = tt
range_low a b (suc n) h = (h, range_low a (b + 1) n (omega (arith, h)))

range_high : (a n : ℕ) → AllByRecursion (λ m. m < a + n) (range_with_len a n)
range_high a zero = tt
range_high a (suc n) =
    (omega arith, subst (λ (c : ℕ). AllByRecursion (λ m. m < c) (range_with_len (a + 1) n)) (omega arith) (range_high (a + 1) n))

pub range_ascends : (a n : ℕ) → Ascend (range_with_len a n)
range_ascends a zero = tt
range_ascends a (suc n) = (range_low a (a + 1) n (omega arith), range_ascends (a + 1) n)

-- subscriptions of one number are one
pub one_subscription : (s : State) → IsRun s → (x y : Subscription) → Among x s.subscriptions →
    Among y s.subscriptions → x.number ≡ y.number → x ≡ y
one_subscription s w x y a b e =
    ascend_apart (λ (sub : Subscription). sub.number) s.subscriptions
    (subst Ascend (sym w.numbered) (range_ascends 1 (length s.subscriptions))) x y a b e

-- a number is at most the count of subscriptions
pub number_low : (s : State) → IsRun s → (x : Subscription) → Among x s.subscriptions →
    x.number ≤ length s.subscriptions
number_low s w x a =
    let low = all_among (λ m. m < 1 + length s.subscriptions) (map (λ (sub : Subscription). sub.number) s.subscriptions)
    x.number (map_among (λ (sub : Subscription). sub.number) s.subscriptions x a)
    (subst (AllByRecursion (λ m. m < 1 + length s.subscriptions)) (sym w.numbered)
    (range_high 1 (length s.subscriptions))) in
    omega (arith, low)
