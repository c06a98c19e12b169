-- What of a state ticks, takes and ends of jobs go by, beside what `IsRun` has.
use Rattle.std.proofs.Common.{◌≡◌, ◌∙◌, sym, ap, refl, subst, ℕ, ◌==◌, Bool, true, false, Some, List, length, map}
use Rattle.std.specs.List.{list_any, filter, range_with_len}
use Rattle.std.proofs.lemmas.Bool.{eqb-true, eq-eqb}
use Rattle.machine.specs.State.{State, Subscription, Job}
use Rattle.machine.specs.Batches.{numbers, is_subscription, subscription_at, is_member, is_busy, is_due}
use Rattle.hub_model.proofs.Items.{Among, Ascend, ascend_apart, among_filter, filter_among, among_map, map_among}
use Rattle.hub_model.proofs.Items.{any_among, among_any, found_among, same_test}
use Rattle.hub_model.proofs.Numbered.{range_ascends}
use Rattle.hub_model.proofs.Filtered.{among_found}

-- subscriptions have the numbers from 1 on, in order
abbrev pub AreNumbered : List Subscription → Type 0
AreNumbered subs = map (λ sub. sub.number) subs ≡ range_with_len 1 (length subs)

pub record JobsApart (s : State) : Type 0 where
  -- a subscription is a member of one open job at most
  pub members : (i j : Job) → Among i s.jobs → Among j s.jobs → (number : ℕ) → is_member number i ≡ true →
      is_member number j ≡ true → i.number ≡ j.number
  -- who is due is of a cohort that has no member in an open job
  pub idle : (x : Subscription) → Among x s.subscriptions → is_due s.due x ≡ true →
      is_busy s.subscriptions s.jobs x ≡ false

-- ---- numbers

-- no number is that of two
pub one_of_number : (subs : List Subscription) → AreNumbered subs → (x y : Subscription) → Among x subs → Among y subs →
    x.number ≡ y.number → x ≡ y
one_of_number subs h =
    ascend_apart (λ (sub : Subscription). sub.number) subs (subst Ascend (sym h) (range_ascends 1 (length subs)))

pub numbered_is : (x : Subscription) (number : ℕ) → is_subscription number x ≡ true → x.number ≡ number
numbered_is x number h = eqb-true x.number number h

-- it is the one that its number stands for
pub at_own_number : (subs : List Subscription) → AreNumbered subs → (x : Subscription) → Among x subs →
    subscription_at x.number subs ≡ Some x
at_own_number subs h x a =
    let found = among_found (is_subscription x.number) x subs a (eq-eqb x.number x.number refl) in
    let is = found_among (is_subscription x.number) subs found.0 found.1 in
    found.1 ∙ ap (λ (y : Subscription). Some y)
    (one_of_number subs h found.0 x is.0 a (numbered_is found.0 x.number is.1))

-- a number that a test leaves is one whose subscription passes it
pub number_left : (subs : List Subscription) → AreNumbered subs → (p : Subscription → Bool) (x : Subscription) →
    Among x subs →
    list_any (λ n. n == x.number) (numbers (filter p subs)) ≡ p x
number_left subs h p x a =
    same_test _ _
    (λ e.
    let n = any_among (λ n. n == x.number) (numbers (filter p subs)) e in
    let y = among_map (λ (sub : Subscription). sub.number) (filter p subs) n.0 n.1 in
    let left = among_filter p y.0 subs y.1 in
    let same = one_of_number subs h y.0 x left.0 a (sym y.2 ∙ eqb-true n.0 x.number n.2) in
    ap p (sym same) ∙ left.1)
    (λ e. among_any (λ n. n == x.number) x.number (numbers (filter p subs))
    (map_among (λ (sub : Subscription). sub.number) (filter p subs) x (filter_among p x subs a e))
    (eq-eqb x.number x.number refl))
