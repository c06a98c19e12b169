-- What is held of a subscription, by its number and by its id.
use Rattle.std.proofs.Common.{◌≡◌, ◌∙◌, sym, ap, refl, subst, ℕ, ◌==◌, Bool, true, false, Some, None, Option, List, filter}
use Rattle.std.specs.List.{list_any}
use Rattle.std.specs.Str.{bytes_eq}
use Rattle.std.proofs.lemmas.Bool.{eqb-true, eq-eqb}
use Rattle.machine.specs.State.{State, Subscription}
use Rattle.machine.specs.Connections.{is_live_id}
use Rattle.connection_table.specs.Connected.{Connected}
use Rattle.subscription_table.specs.declared.held.Held.{Held}
use Rattle.subscription_table.specs.Kept.{held_at}
use Rattle.hub_model.specs.Kept.{Kept, Represents, Holds, is_kept, kept_of, live_of, is_live_on}
use Rattle.hub_model.specs.Steps.{known}
use Rattle.hub_model.proofs.Items.{Among, and_true, and_both, any_among, among_any, among_filter, filter_among, among_map, map_among, found_among, found_none, not_both, or_true_left, same_test}
use Rattle.hub_model.proofs.Reached.{IsRun}
use Rattle.hub_model.proofs.Numbered.{one_subscription}
use Rattle.hub_model.proofs.Zipped.{zip_beside, zip_opposite}
use Rattle.hub_model.proofs.Connections.{known_some}
use Rattle.hub_model.proofs.Closed.{IsLiveId, live_id}

-- the subscription that something held stands for
pub record HeldFor (k : Kept) (s : State) (h : Held) : Type 0 where
  pub sub : Subscription
  pub among : Among sub s.subscriptions
  pub kept : is_kept s.jobs sub ≡ true
  pub holds : Holds k.meta sub h

pub held_for : (n : ℕ) (k : Kept) (s : State) (h : Held) → Represents k s → held_at n k.held ≡ Some h →
    HeldFor k s h × (h.number ≡ n)
held_for n k s h r e =
    let found = found_among (λ (h : Held). h.number == n) k.held h e in
    let y = zip_beside (Holds k.meta) (kept_of s) k.held r.held h found.0 in
    let f = among_filter (is_kept s.jobs) y.left s.subscriptions y.among in
    (record { sub = y.left; among = f.0; kept = f.1; holds = y.related }, eqb-true h.number n found.1)

-- what is held of a subscription
pub record HeldOf (k : Kept) (n : ℕ) (sub : Subscription) : Type 0 where
  pub held : Held
  pub at : held_at n k.held ≡ Some held
  pub holds : Holds k.meta sub held

held_by : (n : ℕ) (k : Kept) (s : State) → Represents k s → IsRun s → (x : Subscription) → Among x s.subscriptions →
    is_kept s.jobs x ≡ true → x.number ≡ n → (o : Option Held) → held_at n k.held ≡ o → HeldOf k n x
held_by n k s r w x a kept e (Some h) at =
    let f = held_for n k s h r at in
    let same = one_subscription s w f.0.sub x f.0.among a (sym f.0.holds.number ∙ f.1 ∙ sym e) in
    record { held = h; at = at; holds = subst (λ (y : Subscription). Holds k.meta y h) same f.0.holds }
held_by n k s r w x a kept e None at =
    let o = zip_opposite (Holds k.meta) (kept_of s) k.held r.held x (filter_among (is_kept s.jobs) x s.subscriptions a kept) in
    absurd (not_both (o.right.number == n) (eq-eqb o.right.number n (o.related.number ∙ e))
    (found_none (λ (h : Held). h.number == n) k.held at o.right o.among))

-- a subscription that is kept is held
pub held_of : (n : ℕ) (k : Kept) (s : State) → Represents k s → IsRun s → (x : Subscription) → Among x s.subscriptions →
    is_kept s.jobs x ≡ true → x.number ≡ n → HeldOf k n x
held_of n k s r w x a kept e = held_by n k s r w x a kept e (held_at n k.held) refl

-- ---- ids

abbrev pub is_asked_as : List ℕ → Option Held → Bool
is_asked_as id (Some h) = bytes_eq h.id id
is_asked_as id None = false

-- what is held under a number has this id
abbrev pub has_id : Kept → List ℕ → ℕ → Bool
has_id k id n = is_asked_as id (held_at n k.held)

-- the id is that of a live subscription of a connection
abbrev pub has_live_id : Kept → List ℕ → Connected → Bool
has_live_id k id x = list_any (has_id k id) x.live

pub record AskedAs (k : Kept) (id : List ℕ) (n : ℕ) : Type 0 where
  pub held : Held
  pub at : held_at n k.held ≡ Some held
  pub is : bytes_eq held.id id ≡ true

asked_by : (k : Kept) (id : List ℕ) (n : ℕ) (o : Option Held) → held_at n k.held ≡ o → is_asked_as id o ≡ true →
    AskedAs k id n
asked_by k id n (Some h) at e = record { held = h; at = at; is = e }
asked_by k id n None at e = absurd (cc)

pub asked_as : (k : Kept) (id : List ℕ) (n : ℕ) → has_id k id n ≡ true → AskedAs k id n
asked_as k id n e = asked_by k id n (held_at n k.held) refl e

-- a number among those that are live, with the id of what is held under it
pub live_found : (conn : ℕ) (id : List ℕ) (k : Kept) (s : State) → Represents k s → IsRun s → (x : Connected) →
    known conn k ≡ Some x → (n : ℕ) → Among n x.live → (h : Held) → held_at n k.held ≡ Some h → bytes_eq h.id id ≡ true →
    IsLiveId conn id n s
live_found conn id k s r w x e n a h at is =
    let c = known_some conn k s x r e in
    let in_live : Among n (live_of s.subscriptions conn) =
    subst (λ (l : List ℕ). Among n l)
    (ap (λ (d : Connected). d.live) c.is ∙ ap (live_of s.subscriptions) c.number) a in
    let y = among_map (λ (sub : Subscription). sub.number) (filter (is_live_on conn) s.subscriptions) n in_live in
    let f = among_filter (is_live_on conn) y.0 s.subscriptions y.1 in
    let g = held_for n k s h r at in
    let same = one_subscription s w g.0.sub y.0 g.0.among f.0 (sym g.0.holds.number ∙ g.1 ∙ y.2) in
    let its : h.id ≡ y.0.id = g.0.holds.id ∙ ap (λ (sub : Subscription). sub.id) same in
    record {
      sub = y.0;
      among = f.0;
      is = and_both (is_live_on conn y.0) (bytes_eq y.0.id id) f.1 (ap (λ (i : List ℕ). bytes_eq i id) (sym its) ∙ is);
      number = sym y.2;
    }

-- the live subscription of an id is found
pub id_found : (conn : ℕ) (id : List ℕ) (k : Kept) (s : State) → Represents k s → IsRun s → (x : Connected) →
    known conn k ≡ Some x → (sub : Subscription) → Among sub s.subscriptions → is_live_id conn id sub ≡ true →
    Among sub.number x.live × (has_id k id sub.number ≡ true)
id_found conn id k s r w x e sub a is =
    let c = known_some conn k s x r e in
    let both = and_true (is_live_on conn sub) (bytes_eq sub.id id) is in
    let i = live_id conn id sub is in
    let kept = filter_among (is_live_on conn) sub s.subscriptions a both.0 in
    let h = held_of sub.number k s r w sub a (or_true_left sub.live _ i.live) refl in (
      subst (λ (l : List ℕ). Among sub.number l)
          (sym (ap (λ (d : Connected). d.live) c.is ∙ ap (live_of s.subscriptions) c.number))
          (map_among (λ (y : Subscription). y.number) (filter (is_live_on conn) s.subscriptions) sub kept),
      ap (is_asked_as id) h.at ∙ ap (λ (j : List ℕ). bytes_eq j id) h.holds.id ∙ both.1,
    )

pub live_is : (conn : ℕ) (id : List ℕ) (k : Kept) (s : State) → Represents k s → IsRun s → (x : Connected) →
    known conn k ≡ Some x → has_live_id k id x ≡ list_any (is_live_id conn id) s.subscriptions
live_is conn id k s r w x e =
    same_test (has_live_id k id x) (list_any (is_live_id conn id) s.subscriptions)
    (λ t.
    let n = any_among (has_id k id) x.live t in
    let h = asked_as k id n.0 n.2 in
    let i = live_found conn id k s r w x e n.0 n.1 h.held h.at h.is in
    among_any (is_live_id conn id) i.sub s.subscriptions i.among i.is)
    (λ t.
    let sub = any_among (is_live_id conn id) s.subscriptions t in
    let f = id_found conn id k s r w x e sub.0 sub.1 sub.2 in
    among_any (has_id k id) sub.0.number x.live f.0 f.1)
