-- Subscriptions are numbered from 1 on.
use Rattle.std.proofs.Common.{◌≡◌, ◌∙◌, sym, ap, refl, subst, ℕ, zero, suc, ◌+◌, ◌<◌, List, [], ◌∷◌, ◌++◌, append-nil, length, map, arith}
use Rattle.std.specs.List.{range_with_len, AllByRecursion}
use Rattle.std.proofs.lemmas.List.{length-map, length-append, map-append}
use Rattle.role_model.specs.declared.metadata.Metadata.{Metadata}
use Rattle.machine.specs.State.{State, Subscription, Event, opening}
use Rattle.machine.specs.Run.{happens, after_all}
use Rattle.run_laws.specs.Laws.{EachPair, AreNumberedInOrder}
use Rattle.run_laws.proofs.Among.{pairs_unmapped}
use Rattle.run_laws.proofs.Following.{Alike, Proceeds, IsNewer, event_proceeds}
use Rattle.run_laws.proofs.Cases.{IsOther}

abbrev pub numbers_of : List Subscription → List ℕ
numbers_of subs = map (λ sub. sub.number) subs

abbrev pub AreInOrder : List Subscription → Type 0
AreInOrder subs = numbers_of subs ≡ range_with_len 1 (length subs)

numbers_mapped : (f : Subscription → Subscription) → Alike f → (subs : List Subscription) → numbers_of (map f subs) ≡ numbers_of subs
numbers_mapped f a [] = refl
numbers_mapped f a (x ∷ xs) = ap (λ (n : ℕ). n ∷ numbers_of (map f xs)) (a.number x) ∙ ap (λ (ns : List ℕ). x.number ∷ ns) (numbers_mapped f a xs)

range_push : (a n : ℕ) → range_with_len a n ++ (a + n) ∷ [] ≡ range_with_len a (suc n)
range_push a zero = ap (λ (k : ℕ). k ∷ []) (omega arith)
range_push a (suc n) = ap (λ (k : ℕ). a ∷ range_with_len (a + 1) n ++ k ∷ []) (omega arith) ∙ ap (λ (ns : List ℕ). a ∷ ns) (range_push (a + 1) n)

newer_in_order : (subs more : List Subscription) → IsNewer (length subs) more → AreInOrder subs → AreInOrder (subs ++ more)
newer_in_order subs [] new h = ap numbers_of (append-nil subs) ∙ h ∙ ap (λ (l : List Subscription). range_with_len 1 (length l)) (sym (append-nil subs))
newer_in_order subs (n ∷ []) new h =
    let number : n.number ≡ 1 + length subs = (let e = new.0 in omega (arith, e)) in
    let count : suc (length subs) ≡ length (subs ++ n ∷ []) = (let e = length-append subs (n ∷ []) in omega (arith, e)) in
    map-append (λ (sub : Subscription). sub.number) subs (n ∷ [])
    ∙ ap (λ (ns : List ℕ). ns ++ n.number ∷ []) h
    ∙ ap (λ (k : ℕ). range_with_len 1 (length subs) ++ k ∷ []) number
    ∙ range_push 1 (length subs)
    ∙ ap (λ (k : ℕ). range_with_len 1 k) count
newer_in_order subs (a ∷ b ∷ more) new h = absurd new

pub in_order_after : (still : Type 0) (subs after : List Subscription) → Proceeds still subs after → AreInOrder subs → AreInOrder after
in_order_after still subs after p h =
    let same = length-map subs p.change in
    let mapped : AreInOrder (map p.change subs) = numbers_mapped p.change p.alike subs ∙ h ∙ ap (λ (k : ℕ). range_with_len 1 k) (sym same) in
    subst AreInOrder (sym p.is) (newer_in_order (map p.change subs) p.more (subst (λ (k : ℕ). IsNewer k p.more) (sym same) p.newer) mapped)

pub in_order_from : (meta : Metadata) (h : List Event) (s : State) → AreInOrder s.subscriptions → AreInOrder (after_all meta s h).subscriptions
in_order_from meta [] s w = w
in_order_from meta (e ∷ h) s w = let after = (happens meta s e).state in in_order_from meta h after (in_order_after (IsOther e) s.subscriptions after.subscriptions (event_proceeds meta s e) w)

pub are_numbered_in_order : (meta : Metadata) → AreNumberedInOrder meta
are_numbered_in_order meta h = in_order_from meta h opening refl

-- numbers in order ascend

range_above : (b a n : ℕ) → b < a → AllByRecursion (λ k. b < k) (range_with_len a n)
range_above b a zero h = tt
range_above b a (suc n) h = (h, range_above b (a + 1) n (omega arith))

range_ascends : (a n : ℕ) → EachPair ◌<◌ (range_with_len a n)
range_ascends a zero = tt
range_ascends a (suc n) = (range_above a (a + 1) n (omega arith), range_ascends (a + 1) n)

abbrev pub IsEarlier : Subscription → Subscription → Type 0
IsEarlier x y = x.number < y.number

pub in_order_ascends : (subs : List Subscription) → AreInOrder subs → EachPair IsEarlier subs
in_order_ascends subs h = pairs_unmapped ◌<◌ (λ (x : Subscription). x.number) subs (subst (λ (ns : List ℕ). EachPair ◌<◌ ns) (sym h) (range_ascends 1 (length subs)))
