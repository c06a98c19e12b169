-- Ends of several subscriptions, and of those of a connection.
use Rattle.std.proofs.Common.{◌≡◌, ◌∙◌, sym, ap, refl, subst, ℕ, ◌==◌, Bool, true, false, not, ◌&&◌, ◌||◌, List, [], ◌∷◌, map, filter}
use Rattle.std.specs.List.{list_any}
use Rattle.machine.specs.State.{State, Subscription}
use Rattle.machine.specs.Connections.{end_where, ended_if}
use Rattle.machine.specs.Batches.{is_subscription}
use Rattle.hub_model.specs.Kept.{Kept}
use Rattle.hub_model.specs.Steps.{ends_one, ends_all}
use Rattle.hub_model.proofs.Items.{and_no, any_mapped, any_same, map_mapped, map_own, map_same, filter_all, filter_both, filter_same}
use Rattle.hub_model.proofs.Ends.{Mirrors, one_ends}

-- its number is one of these
abbrev pub has_number : List ℕ → Subscription → Bool
has_number ns x = list_any (λ n. x.number == n) ns

-- ---- one end after another

if_either : (p q : Subscription → Bool) (x : Subscription) (a b : Bool) → p x ≡ a → q x ≡ b → q (record x { live = false }) ≡ q x →
    ended_if q (ended_if p x) ≡ ended_if (λ y. p y || q y) x
if_either p q x true true e f h = rw (e, h, f) refl
if_either p q x true false e f h = rw (e, h, f) refl
if_either p q x false true e f h = rw (e, f) refl
if_either p q x false false e f h = rw (e, f) refl

any_either : (a p q : Subscription → Bool) (xs : List Subscription) →
    list_any (λ x. a x && (p x || q x)) xs ≡ (list_any (λ x. a x && p x) xs || list_any (λ x. a x && q x) xs)
any_either a p q [] = refl
any_either a p q (x ∷ xs) = ap (λ (b : Bool). (a x && (p x || q x)) || b) (any_either a p q xs)
    ∙ parts (a x) (p x) (q x) (list_any (λ x. a x && p x) xs) (list_any (λ x. a x && q x) xs)
  where
    parts : (a p q u v : Bool) → ((a && (p || q)) || (u || v)) ≡ (((a && p) || u) || ((a && q) || v))
    parts true true q u v = refl
    parts true false true true v = refl
    parts true false true false v = refl
    parts true false false u v = refl
    parts false p q u v = refl

not_either : (u v : Bool) → (not u && not v) ≡ not (u || v)
not_either true v = refl
not_either false v = refl

number_off : (p : Subscription → Bool) (x : Subscription) (b : Bool) → p x ≡ b → (ended_if p x).number ≡ x.number
number_off p x true e = rw e refl
number_off p x false e = rw e refl

test_off : (p q : Subscription → Bool) (x : Subscription) (b : Bool) → p x ≡ b → q (record x { live = false }) ≡ q x →
    q (ended_if p x) ≡ q x
test_off p q x true e h = rw e h
test_off p q x false e h = rw e refl

-- ends by a test that doesn't ask what is live, after others
pub end_then : (p q : Subscription → Bool) (s : State) → ((x : Subscription) → q (record x { live = false }) ≡ q x) →
    end_where q (end_where p s) ≡ end_where (λ x. p x || q x) s
end_then p q s h =
    let subs : map (ended_if q) (map (ended_if p) s.subscriptions) ≡ map (ended_if (λ x. p x || q x)) s.subscriptions =
    map_mapped (ended_if q) (ended_if p) s.subscriptions
    ∙ map_same (λ x. ended_if q (ended_if p x)) (ended_if (λ x. p x || q x)) s.subscriptions
    (λ x a. if_either p q x (p x) (q x) refl refl (h x)) in
    let later : (d : ℕ) → list_any (λ sub. sub.number == d && q sub) (map (ended_if p) s.subscriptions)
    ≡ list_any (λ sub. sub.number == d && q sub) s.subscriptions =
    (λ d. any_mapped (λ sub. sub.number == d && q sub) (ended_if p) s.subscriptions
    ∙ any_same (λ x. (ended_if p x).number == d && q (ended_if p x)) (λ x. x.number == d && q x) s.subscriptions
    (λ x a. ap (λ (n : ℕ). n == d && q (ended_if p x)) (number_off p x (p x) refl)
    ∙ ap (λ (b : Bool). x.number == d && b) (test_off p q x (p x) refl (h x)))) in
    let due : filter (λ d. not (list_any (λ sub. sub.number == d && q sub) (map (ended_if p) s.subscriptions)))
    (filter (λ d. not (list_any (λ sub. sub.number == d && p sub) s.subscriptions)) s.due)
    ≡ filter (λ d. not (list_any (λ sub. sub.number == d && (p sub || q sub)) s.subscriptions)) s.due =
    filter_both (λ d. not (list_any (λ sub. sub.number == d && q sub) (map (ended_if p) s.subscriptions)))
    (λ d. not (list_any (λ sub. sub.number == d && p sub) s.subscriptions)) s.due
    ∙ filter_same
    (λ d. not (list_any (λ sub. sub.number == d && p sub) s.subscriptions)
    && not (list_any (λ sub. sub.number == d && q sub) (map (ended_if p) s.subscriptions)))
    (λ d. not (list_any (λ sub. sub.number == d && (p sub || q sub)) s.subscriptions)) s.due
    (λ d a. ap (λ (b : Bool). not (list_any (λ sub. sub.number == d && p sub) s.subscriptions) && not b) (later d)
    ∙ not_either (list_any (λ sub. sub.number == d && p sub) s.subscriptions)
    (list_any (λ sub. sub.number == d && q sub) s.subscriptions)
    ∙ ap not (sym (any_either (λ sub. sub.number == d) p q s.subscriptions))) in
    ap (λ (l : List Subscription). record s { subscriptions = l; due = (end_where q (end_where p s)).due }) subs
    ∙ ap (λ (l : List ℕ). record s { subscriptions = map (ended_if (λ x. p x || q x)) s.subscriptions; due = l }) due

-- no end
pub end_none : (s : State) → end_where (λ x. false) s ≡ s
end_none s =
    let subs : map (ended_if (λ x. false)) s.subscriptions ≡ s.subscriptions =
    map_own (ended_if (λ x. false)) s.subscriptions (λ x a. refl) in
    let due : filter (λ d. not (list_any (λ sub. sub.number == d && false) s.subscriptions)) s.due ≡ s.due =
    filter_all (λ d. not (list_any (λ sub. sub.number == d && false) s.subscriptions)) s.due
    (λ d a. ap not (any_same (λ sub. sub.number == d && false) (λ sub. false) s.subscriptions
    (λ x b. and_no (x.number == d)) ∙ none s.subscriptions)) in
    ap (λ (l : List Subscription). record s { subscriptions = l; due = (end_where (λ x. false) s).due }) subs
    ∙ ap (λ (l : List ℕ). record s { due = l }) due
  where
    none : (xs : List Subscription) → list_any (λ (x : Subscription). false) xs ≡ false
    none [] = refl
    none (x ∷ xs) = none xs

pub all_end : (ns : List ℕ) (k : Kept) (s : State) → Mirrors k s → Mirrors (ends_all ns k) (end_where (has_number ns) s)
all_end [] k s m = subst (Mirrors k) (sym (end_none s)) m
all_end (n ∷ ns) k s m =
    subst (Mirrors (ends_all ns (ends_one n k))) (end_then (is_subscription n) (has_number ns) s (λ x. refl))
    (all_end ns (ends_one n k) (end_where (is_subscription n) s) (one_ends n k s m))

-- what ends don't change
pub all_connections : (ns : List ℕ) (k : Kept) → (ends_all ns k).connections ≡ k.connections
all_connections [] k = refl
all_connections (n ∷ ns) k = all_connections ns (ends_one n k)

pub all_meta : (ns : List ℕ) (k : Kept) → (ends_all ns k).meta ≡ k.meta
all_meta [] k = refl
all_meta (n ∷ ns) k = all_meta ns (ends_one n k)

pub all_events : (ns : List ℕ) (k : Kept) → (ends_all ns k).events ≡ k.events
all_events [] k = refl
all_events (n ∷ ns) k = all_events ns (ends_one n k)
