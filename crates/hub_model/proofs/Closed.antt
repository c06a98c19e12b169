-- A subscription ends, a connection closes, and a connection is no longer known.
use Rattle.std.proofs.Common.{◌≡◌, ◌∙◌, sym, ap, refl, subst, ℕ, ◌==◌, if◌then◌else◌, Bool, true, false, not, ◌&&◌, Some, Option, List, [], ◌∷◌, map, filter}
use Rattle.std.specs.Prelude.{unwrap_or}
use Rattle.std.specs.List.{list_any}
use Rattle.std.specs.Option.{option_map}
use Rattle.std.specs.Str.{bytes_eq}
use Rattle.std.proofs.lemmas.Bool.{eqb-true, eq-eqb}
use Rattle.std.proofs.lemmas.Slice.Eq.{bytes_eq-Decides}
use Rattle.wire_model.specs.declared.close.CloseReason.{CloseReason}
use Rattle.machine.specs.declared.phase.Phase.TheVariants as phase
use Rattle.machine.specs.State.{State, Connection, Subscription}
use Rattle.machine.specs.Connections as machine
use Rattle.machine.specs.Connections.{connection_at, end_where, ended_if, is_of, is_live_id, close_connection, closes}
use Rattle.machine.specs.Batches.{is_subscription}
use Rattle.connection_table.specs.Connected.{Connected, changed, without}
use Rattle.hub_model.specs.Kept.{Kept, Represents, connected, live_of, is_live_on}
use Rattle.hub_model.specs.Steps.{known, ends_one, ends_all, forgets, ended, live_on, closed, gone}
use Rattle.hub_model.proofs.Items.{Among, and_true, and_both, any_same, map_mapped, map_same, map_among, among_map, among_filter, filter_among, among_any, any_among, filter_none, filter_both, filter_mapped, filter_same, and_no, and_yes, same_test, not_true, not_not, not_both}
use Rattle.hub_model.proofs.Reached.{IsRun, IsLiveIn}
use Rattle.hub_model.proofs.Numbered.{one_subscription}
use Rattle.hub_model.proofs.Connections.{known_some}
use Rattle.hub_model.proofs.Ends.{Mirrors, mirrors, with_connections, one_ends}
use Rattle.hub_model.proofs.Closing.{has_number, all_end, all_connections}

-- ---- ends that are the same

off_dead : (p : Subscription → Bool) (x : Subscription) (b : Bool) → p x ≡ b → x.live ≡ false → ended_if p x ≡ x
off_dead p x true e l = rw e (ap (λ (b : Bool). record x { live = b }) (sym l))
off_dead p x false e l = rw e refl

and_if : (a p q : Bool) → (a ≡ true → p ≡ q) → (a && p) ≡ (a && q)
and_if true p q h = h refl
and_if false p q h = refl

module _ (s : State) (w : IsRun s) (p q : Subscription → Bool)
    (h : (x : Subscription) → Among x s.subscriptions → x.live ≡ true → p x ≡ q x) where
  off_same : (x : Subscription) (live : Bool) → Among x s.subscriptions → x.live ≡ live → ended_if p x ≡ ended_if q x
  off_same x true a e = ap (λ (b : Bool). if b then record x { live = false } else x) (h x a e)
  off_same x false a e = off_dead p x (p x) refl e ∙ sym (off_dead q x (q x) refl e)

  due_same : (d : ℕ) → Among d s.due → list_any (λ sub. sub.number == d && p sub) s.subscriptions
      ≡ list_any (λ sub. sub.number == d && q sub) s.subscriptions
  due_same d a =
      let who : IsLiveIn s d = w.due d a in
      any_same (λ sub. sub.number == d && p sub) (λ sub. sub.number == d && q sub) s.subscriptions
      (λ x b. and_if (x.number == d) (p x) (q x)
      (λ e.
      let same = one_subscription s w x who.sub b who.among (eqb-true x.number d e ∙ sym who.number) in
      h x b (ap (λ (sub : Subscription). sub.live) same ∙ who.live)))

  -- tests that agree on what is live end the same
  pub ends_same : end_where p s ≡ end_where q s
  ends_same =
      ap (λ (l : List Subscription). record s { subscriptions = l; due = (end_where p s).due })
      (map_same (ended_if p) (ended_if q) s.subscriptions (λ x a. off_same x x.live a refl))
      ∙ ap (λ (l : List ℕ). record s { subscriptions = map (ended_if q) s.subscriptions; due = l })
      (filter_same (λ d. not (list_any (λ sub. sub.number == d && p sub) s.subscriptions))
      (λ d. not (list_any (λ sub. sub.number == d && q sub) s.subscriptions)) s.due
      (λ d a. ap not (due_same d a)))

-- the live subscription of an id
pub record IsLiveId (conn : ℕ) (id : List ℕ) (n : ℕ) (s : State) : Type 0 where
  pub sub : Subscription
  pub among : Among sub s.subscriptions
  pub is : is_live_id conn id sub ≡ true
  pub number : sub.number ≡ n

pub same_id : (xs ys : List ℕ) → bytes_eq xs ys ≡ true → xs ≡ ys
same_id xs ys e = (bytes_eq-Decides xs ys).0 e

pub record LiveId (conn : ℕ) (asked : List ℕ) (sub : Subscription) : Type 0 where
  pub live : sub.live ≡ true
  pub connection : sub.connection ≡ conn
  pub id : sub.id ≡ asked

-- what its test says
pub live_id : (conn : ℕ) (id : List ℕ) (x : Subscription) → is_live_id conn id x ≡ true → LiveId conn id x
live_id conn id x e =
    let first = and_true (x.live && x.connection == conn) (bytes_eq x.id id) e in
    let rest = and_true x.live (x.connection == conn) first.0 in
    record { live = rest.0; connection = eqb-true x.connection conn rest.1; id = same_id x.id id first.1 }

pub one_live_id : (conn : ℕ) (id : List ℕ) (s : State) → IsRun s → (x y : Subscription) → Among x s.subscriptions →
    Among y s.subscriptions → is_live_id conn id x ≡ true → is_live_id conn id y ≡ true → x ≡ y
one_live_id conn id s w x y a b e f =
    let p = live_id conn id x e in
    let q = live_id conn id y f in
    w.ids x y a b p.live q.live (p.connection ∙ sym q.connection) (p.id ∙ sym q.id)

pub id_ends : (conn : ℕ) (id : List ℕ) (n : ℕ) (s : State) → IsRun s → IsLiveId conn id n s →
    end_where (is_subscription n) s ≡ end_where (is_live_id conn id) s
id_ends conn id n s w i =
    ends_same s w (is_subscription n) (is_live_id conn id) (λ x a l. same_test (x.number == n) (is_live_id conn id x)
    (λ e. ap (is_live_id conn id)
    (one_subscription s w x i.sub a i.among (eqb-true x.number n e ∙ sym i.number)) ∙ i.is)
    (λ e. eq-eqb x.number n
    (ap (λ (sub : Subscription). sub.number) (one_live_id conn id s w x i.sub a i.among e i.is) ∙ i.number)))

-- the live subscriptions of a connection are those of their numbers
live_numbers : (conn : ℕ) (s : State) → IsRun s → (x : Subscription) → Among x s.subscriptions → x.live ≡ true →
    has_number (live_of s.subscriptions conn) x ≡ is_of conn x
live_numbers conn s w x a l =
    same_test (has_number (live_of s.subscriptions conn) x) (is_of conn x)
    (λ e.
    let n = any_among (λ m. x.number == m) (live_of s.subscriptions conn) e in
    let y = among_map (λ (sub : Subscription). sub.number) (filter (is_live_on conn) s.subscriptions) n.0 n.1 in
    let f = among_filter (is_live_on conn) y.0 s.subscriptions y.1 in
    let same = one_subscription s w x y.0 a f.0 (eqb-true x.number n.0 n.2 ∙ y.2) in
    ap (is_of conn) same ∙ (and_true y.0.live (y.0.connection == conn) f.1).1)
    (λ e.
    let kept = filter_among (is_live_on conn) x s.subscriptions a (and_both x.live (x.connection == conn) l e) in
    among_any (λ m. x.number == m) x.number (live_of s.subscriptions conn)
    (map_among (λ (sub : Subscription). sub.number) (filter (is_live_on conn) s.subscriptions) x kept)
    (eq-eqb x.number x.number refl))

pub connection_ends : (conn : ℕ) (s : State) → IsRun s →
    end_where (has_number (live_of s.subscriptions conn)) s ≡ end_where (is_of conn) s
connection_ends conn s w = ends_same s w (has_number (live_of s.subscriptions conn)) (is_of conn) (live_numbers conn s w)

-- ---- the live subscriptions of connections

live_by : (p : Subscription → Bool) (c : ℕ) (x : Subscription) (b : Bool) → p x ≡ b →
    is_live_on c (ended_if p x) ≡ (is_live_on c x && not (p x))
live_by p c x true e = rw e (sym (and_no (is_live_on c x)))
live_by p c x false e = rw e (sym (and_yes (is_live_on c x)))

number_off : (p : Subscription → Bool) (x : Subscription) (b : Bool) → p x ≡ b → (ended_if p x).number ≡ x.number
number_off p x true e = rw e refl
number_off p x false e = rw e refl

-- those that have ended are gone
pub live_off : (p : Subscription → Bool) (subs : List Subscription) (c : ℕ) →
    live_of (map (ended_if p) subs) c
    ≡ map (λ (sub : Subscription). sub.number) (filter (λ x. is_live_on c x && not (p x)) subs)
live_off p subs c =
    ap (λ (l : List Subscription). map (λ (sub : Subscription). sub.number) l)
    (filter_mapped (is_live_on c) (ended_if p) subs
    ∙ ap (λ (l : List Subscription). map (ended_if p) l)
    (filter_same (λ x. is_live_on c (ended_if p x)) (λ x. is_live_on c x && not (p x)) subs
    (λ x a. live_by p c x (p x) refl)))
    ∙ map_mapped (λ (sub : Subscription). sub.number) (ended_if p) (filter (λ x. is_live_on c x && not (p x)) subs)
    ∙ map_same (λ x. (ended_if p x).number) (λ (sub : Subscription). sub.number)
    (filter (λ x. is_live_on c x && not (p x)) subs) (λ x a. number_off p x (p x) refl)

and_not : (a b : Bool) → (a ≡ true → b ≡ false) → (a && not b) ≡ a
and_not true b h = ap not (h refl)
and_not false b h = refl

-- a connection none of whose live subscriptions has ended
pub live_still : (p : Subscription → Bool) (subs : List Subscription) (c : ℕ) →
    ((x : Subscription) → Among x subs → x.connection ≡ c → p x ≡ false) →
    live_of (map (ended_if p) subs) c ≡ live_of subs c
live_still p subs c h =
    live_off p subs c
    ∙ ap (λ (l : List Subscription). map (λ (sub : Subscription). sub.number) l)
    (filter_same (λ x. is_live_on c x && not (p x)) (is_live_on c) subs
    (λ x a. and_not (is_live_on c x) (p x)
    (λ e. h x a (eqb-true x.connection c (and_true x.live (x.connection == c) e).1))))

-- a connection all of whose subscriptions have ended
pub live_none : (subs : List Subscription) (c : ℕ) → live_of (map (ended_if (is_of c)) subs) c ≡ []
live_none subs c =
    live_off (is_of c) subs c
    ∙ ap (λ (l : List Subscription). map (λ (sub : Subscription). sub.number) l)
    (filter_none (λ x. is_live_on c x && not (is_of c x)) subs (λ x a. none x.live (x.connection == c)))
  where
    none : (a b : Bool) → ((a && b) && not b) ≡ false
    none true true = refl
    none true false = refl
    none false b = refl

-- one of its subscriptions has ended
pub live_less : (n : ℕ) (subs : List Subscription) (c : ℕ) →
    filter (λ m. not (m == n)) (live_of subs c) ≡ live_of (map (ended_if (is_subscription n)) subs) c
live_less n subs c =
    filter_mapped (λ m. not (m == n)) (λ (sub : Subscription). sub.number) (filter (is_live_on c) subs)
    ∙ ap (λ (l : List Subscription). map (λ (sub : Subscription). sub.number) l)
    (filter_both (λ x. not (x.number == n)) (is_live_on c) subs)
    ∙ sym (live_off (is_subscription n) subs c)

-- ---- connections after ends

-- a change of one connection as it is kept, while the live subscriptions of others stay
module _ (subs : List Subscription) (conn : ℕ) (f : Connected → Connected) (t : Connection → Connected) where
  turn : (c : Connection) (b : Bool) → c.number == conn ≡ b → (c.number ≡ conn → f (connected subs c) ≡ t c) →
      (c.number == conn ≡ false → connected subs c ≡ t c) →
      (if b then f (connected subs c) else connected subs c) ≡ t c
  turn c true e h i = h (eqb-true c.number conn e)
  turn c false e h i = i e

  pub turn_each : (cs : List Connection) → ((c : Connection) → c.number ≡ conn → f (connected subs c) ≡ t c) →
      ((c : Connection) → c.number == conn ≡ false → connected subs c ≡ t c) →
      changed conn f (map (connected subs) cs) ≡ map t cs
  turn_each [] h i = refl
  turn_each (c ∷ cs) h i =
      let one = turn c (c.number == conn) refl (h c) (i c) in
      let more = turn_each cs h i in cc

abbrev pub with_live : (c : Connection) (ns : List ℕ) → Connected
with_live c ns = record { number = c.number; phase = c.phase; queue = c.queue; live = ns }

-- what ends change but for connections
elsewhere : (k : Kept) (s : State) (cs : List Connected) (ds : List Connection) → Mirrors k s →
    Mirrors (record k { connections = cs }) (record s { connections = ds })
elsewhere k s cs ds m = record {
  version = m.version;
  tables = m.tables;
  entries = m.entries;
  held = m.held;
  jobs = m.jobs;
  subscribed = m.subscribed;
  jobs_made = m.jobs_made;
}

-- the subscription of a number ends, which is of this connection
pub one_ended : (conn n : ℕ) (k : Kept) (s : State) → Represents k s →
    ((x : Subscription) → Among x s.subscriptions → x.number ≡ n → x.connection ≡ conn) →
    Represents (ended conn n k) (end_where (is_subscription n) s)
one_ended conn n k s r own =
    with_connections (ended conn n k) (end_where (is_subscription n) s)
    (elsewhere (ends_one n k) (end_where (is_subscription n) s) _ s.connections (one_ends n k s (mirrors k s r)))
    (ap (changed conn (forgets n)) r.connections
    ∙ turn_each s.subscriptions conn (forgets n) (connected (map (ended_if (is_subscription n)) s.subscriptions))
    s.connections
    (λ c e. ap (with_live c) (live_less n s.subscriptions c.number))
    (λ c e. ap (with_live c) (sym (live_still (is_subscription n) s.subscriptions c.number
    (λ x a f. not_true (x.number == n)
    (λ g. not_both (c.number == conn) (eq-eqb c.number conn (sym f ∙ own x a (eqb-true x.number n g))) e))))))

-- the live subscription of an id ends
pub id_ended : (conn : ℕ) (id : List ℕ) (n : ℕ) (k : Kept) (s : State) → Represents k s → IsRun s →
    IsLiveId conn id n s → Represents (ended conn n k) (end_where (is_live_id conn id) s)
id_ended conn id n k s r w i =
    subst (Represents (ended conn n k)) (id_ends conn id n s w i)
    (one_ended conn n k s r (λ x a e.
    ap (λ (sub : Subscription). sub.connection) (one_subscription s w x i.sub a i.among (e ∙ sym i.number))
    ∙ (live_id conn id i.sub i.is).connection))

-- ---- all subscriptions of a connection

live_on_by : (conn : ℕ) (k : Kept) (x : Connected) (o : Option Connected) → o ≡ Some x →
    unwrap_or (option_map (λ (c : Connected). c.live) o) [] ≡ x.live
live_on_by conn k x o e = ap (λ (p : Option Connected). unwrap_or (option_map (λ (c : Connected). c.live) p) []) e

pub live_on_is : (conn : ℕ) (k : Kept) (s : State) → Represents k s → (x : Connected) → known conn k ≡ Some x →
    live_on conn k ≡ live_of s.subscriptions conn
live_on_is conn k s r x e =
    let c = known_some conn k s x r e in
    live_on_by conn k x (known conn k) e
    ∙ ap (λ (d : Connected). d.live) c.is
    ∙ ap (live_of s.subscriptions) c.number

connection_off : (conn : ℕ) (k : Kept) (s : State) → Represents k s → IsRun s → (x : Connected) →
    known conn k ≡ Some x → Mirrors (ends_all (live_on conn k) k) (end_where (is_of conn) s)
connection_off conn k s r w x e =
    subst (Mirrors (ends_all (live_on conn k) k))
    (ap (λ (ns : List ℕ). end_where (has_number ns) s) (live_on_is conn k s r x e) ∙ connection_ends conn s w)
    (all_end (live_on conn k) k s (mirrors k s r))

-- its subscriptions end, and those of others stay
others_still : (conn : ℕ) (subs : List Subscription) (c : ℕ) → c == conn ≡ false →
    live_of subs c ≡ live_of (map (ended_if (is_of conn)) subs) c
others_still conn subs c e =
    sym (live_still (is_of conn) subs c (λ x a f. ap (λ (m : ℕ). m == conn) f ∙ e))

pub connection_closed : (conn : ℕ) (reason : CloseReason) (k : Kept) (s : State) → Represents k s → IsRun s →
    (x : Connected) → known conn k ≡ Some x → Represents (closed conn reason k) (close_connection conn reason s).state
connection_closed conn reason k s r w x e =
    let after = map (ended_if (is_of conn)) s.subscriptions in
    let close = λ (c : Connected). record c { phase = phase.Closed reason; live = [] } in
    let t = λ (c : Connection). connected after (machine.at_connection conn (closes reason) c) in
    let off = connection_off conn k s r w x e in
    with_connections (closed conn reason k) (close_connection conn reason s).state
    (elsewhere (ends_all (live_on conn k) k) (end_where (is_of conn) s) _ _ off)
    (ap (changed conn close) (all_connections (live_on conn k) k ∙ r.connections)
    ∙ turn_each s.subscriptions conn close t s.connections
    (λ c f. ap (with_live (closes reason c))
    (sym (ap (λ (n : ℕ). live_of after n) f ∙ live_none s.subscriptions conn)) ∙ at_own c f)
    (λ c f. ap (with_live c) (others_still conn s.subscriptions c.number f) ∙ at_other c f)
    ∙ sym (map_mapped (connected after) (machine.at_connection conn (closes reason)) s.connections))
  where
    at_own : (c : Connection) → c.number ≡ conn →
        connected (map (ended_if (is_of conn)) s.subscriptions) (closes reason c)
        ≡ connected (map (ended_if (is_of conn)) s.subscriptions) (machine.at_connection conn (closes reason) c)
    at_own c f = rw (eq-eqb c.number conn f) refl

    at_other : (c : Connection) → c.number == conn ≡ false →
        connected (map (ended_if (is_of conn)) s.subscriptions) c
        ≡ connected (map (ended_if (is_of conn)) s.subscriptions) (machine.at_connection conn (closes reason) c)
    at_other c f = rw f refl

pub connection_gone : (conn : ℕ) (k : Kept) (s : State) → Represents k s → IsRun s → (x : Connected) →
    known conn k ≡ Some x → Represents (gone conn k) (machine.gone conn s).state
connection_gone conn k s r w x e =
    let after = map (ended_if (is_of conn)) s.subscriptions in
    let stays = λ (c : Connection). not (c.number == conn) in
    let off = connection_off conn k s r w x e in
    with_connections (gone conn k) (machine.gone conn s).state
    (elsewhere (ends_all (live_on conn k) k) (end_where (is_of conn) s) _ _ off)
    (ap (without conn) (all_connections (live_on conn k) k ∙ r.connections)
    ∙ filter_mapped (λ (c : Connected). not (c.number == conn)) (connected s.subscriptions) s.connections
    ∙ map_same (connected s.subscriptions) (connected after) (filter stays s.connections)
    (λ c a. ap (with_live c) (others_still conn s.subscriptions c.number
    (not_not (c.number == conn) (among_filter stays c s.connections a).1))))
