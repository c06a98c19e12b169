-- Connections as they are kept: which are known, and what changes them alone.
use Rattle.std.proofs.Common.{◌≡◌, inl, inr, ◌∙◌, sym, ap, refl, ℕ, ◌==◌, nat_lt, if◌then◌else◌, Bool, true, false, Some, None, Option, List, [], ◌∷◌, map}
use Rattle.std.specs.Prelude.{drop}
use Rattle.std.specs.Option.{is_some, option_map}
use Rattle.std.proofs.lemmas.Bool.{eqb-true}
use Rattle.role_model.specs.declared.session.Session.{Session}
use Rattle.machine.specs.declared.phase.Phase.TheVariants.{Fresh}
use Rattle.machine.specs.State.{State, Connection, Subscription}
use Rattle.machine.specs.Connections as machine
use Rattle.machine.specs.Connections.{connection_at, is_connection}
use Rattle.connection_table.specs.Connected.{Connected, connected_at, changed, with_new}
use Rattle.hub_model.specs.Kept.{Kept, Represents, connected, live_of, is_live_on}
use Rattle.hub_model.specs.Steps.{known, knows, with_connection, opens, queued, queues, drained, acknowledged}
use Rattle.hub_model.proofs.Items.{Among, and_true, filter_none, find_mapped, found_among, ascend_apart, none_of, not_true, not_both}
use Rattle.hub_model.proofs.Reached.{IsRun}

-- ---- which are known

pub known_is : (conn : ℕ) (k : Kept) (s : State) → Represents k s →
    known conn k ≡ option_map (connected s.subscriptions) (connection_at conn s)
known_is conn k s r =
    ap (λ (l : List Connected). connected_at conn l) r.connections
    ∙ find_mapped (λ (c : Connected). c.number == conn) (connected s.subscriptions) s.connections

some_mapped : {X Y : Type 0} (f : X → Y) (o : Option X) → is_some (option_map f o) ≡ is_some o
some_mapped f (Some x) = refl
some_mapped f None = refl

pub knows_is : (conn : ℕ) (k : Kept) (s : State) → Represents k s → knows conn k ≡ is_some (connection_at conn s)
knows_is conn k s r =
    ap is_some (known_is conn k s r) ∙ some_mapped (connected s.subscriptions) (connection_at conn s)

-- a connection as it is kept, and the machine's
pub record IsConnection (conn : ℕ) (s : State) (x : Connected) : Type 0 where
  pub its : Connection
  pub at : connection_at conn s ≡ Some its
  pub is : x ≡ connected s.subscriptions its
  pub among : Among its s.connections
  pub number : its.number ≡ conn

mapped_some : (conn : ℕ) (s : State) (x : Connected) (o : Option Connection) → connection_at conn s ≡ o →
    option_map (connected s.subscriptions) o ≡ Some x → IsConnection conn s x
mapped_some conn s x (Some c) at e =
    let found = found_among (is_connection conn) s.connections c at in
    record { its = c; at = at; is = cc; among = found.0; number = eqb-true c.number conn found.1 }
mapped_some conn s x None at e = absurd (cc)

pub known_some : (conn : ℕ) (k : Kept) (s : State) (x : Connected) → Represents k s → known conn k ≡ Some x →
    IsConnection conn s x
known_some conn k s x r e =
    mapped_some conn s x (connection_at conn s) refl (sym (known_is conn k s r) ∙ e)

pub known_none : (conn : ℕ) (k : Kept) (s : State) → Represents k s → knows conn k ≡ false → connection_at conn s ≡ None
known_none conn k s r e = none_of (connection_at conn s) (sym (knows_is conn k s r) ∙ e)

-- connections of one number are one
pub one_connection : (s : State) → IsRun s → (c d : Connection) → Among c s.connections → Among d s.connections →
    c.number ≡ d.number → c ≡ d
one_connection s w c d a b e = ascend_apart (λ (c : Connection). c.number) s.connections w.connections_ascend c d a b e

-- a connection that isn't known has no live subscription
pub none_live : (conn : ℕ) (s : State) → IsRun s → connection_at conn s ≡ None → live_of s.subscriptions conn ≡ []
none_live conn s w e =
    ap (λ (l : List Subscription). map (λ sub. sub.number) l) (filter_none (is_live_on conn) s.subscriptions
    (λ x a. not_true (is_live_on conn x) (λ h.
    let both = and_true x.live (x.connection == conn) h in
    let there = w.known x a both.0 in
    let gone : is_some (connection_at x.connection s) ≡ false =
    ap (λ (n : ℕ). is_some (connection_at n s)) (eqb-true x.connection conn both.1) ∙ ap is_some e in
    not_both (is_some (connection_at x.connection s)) there gone)))

-- ---- changes of one connection

module _ (subs : List Subscription) (conn : ℕ) (f : Connected → Connected) (g : Connection → Connection) where
  at_one : (c : Connection) (b : Bool) → c.number == conn ≡ b →
      (c.number ≡ conn → f (connected subs c) ≡ connected subs (g c)) →
      (if b then f (connected subs c) else connected subs c) ≡ connected subs (if b then g c else c)
  at_one c true e h = h (eqb-true c.number conn e)
  at_one c false e h = refl

  pub at_each : (cs : List Connection) →
      ((c : Connection) → Among c cs → c.number ≡ conn → f (connected subs c) ≡ connected subs (g c)) →
      changed conn f (map (connected subs) cs) ≡ map (connected subs) (map (machine.at_connection conn g) cs)
  at_each [] h = refl
  at_each (c ∷ cs) h =
      let one = at_one c (c.number == conn) refl (h c (inl refl)) in
      let more = at_each cs (λ d a. h d (inr a)) in cc

-- a change of a connection as it is kept is a change of the machine's
pub connection_changed : (conn : ℕ) (f : Connected → Connected) (g : Connection → Connection) (k : Kept) (s : State) →
    Represents k s →
    ((c : Connection) → Among c s.connections → c.number ≡ conn →
    f (connected s.subscriptions c) ≡ connected s.subscriptions (g c)) →
    Represents (with_connection conn f k) (machine.with_connection conn g s)
connection_changed conn f g k s r h = record {
  version = r.version;
  tables = r.tables;
  connections = ap (λ (l : List Connected). changed conn f l) r.connections
      ∙ at_each s.subscriptions conn f g s.connections h;
  entries = r.entries;
  held = r.held;
  jobs = r.jobs;
  subscribed = r.subscribed;
  jobs_made = r.jobs_made;
}

-- a text is queued
pub text_queued : (conn : ℕ) (text : List ℕ) (k : Kept) (s : State) → Represents k s →
    Represents (queued conn text k) (machine.with_connection conn (machine.queues text) s)
text_queued conn text k s r = connection_changed conn (queues text) (machine.queues text) k s r (λ c a e. refl)

-- the first text leaves a queue
pub text_left : (conn : ℕ) (text : List ℕ) (rest : List (List ℕ)) (k : Kept) (s : State) → Represents k s → IsRun s →
    (c : Connection) → connection_at conn s ≡ Some c → c.queue ≡ text ∷ rest →
    Represents (drained conn k) (machine.with_connection conn (machine.leaves rest) s)
text_left conn text rest k s r w c at e =
    let found = found_among (is_connection conn) s.connections c at in
    connection_changed conn (λ d. record d { queue = drop 1 d.queue }) (machine.leaves rest) k s r
    (λ d a n.
    let same = one_connection s w d c a found.0 (n ∙ sym (eqb-true c.number conn found.1)) in
    let its : d.queue ≡ text ∷ rest = ap (λ (x : Connection). x.queue) same ∙ e in
    ap (λ (q : List (List ℕ)). connected s.subscriptions (record d { queue = drop 1 q })) its)

-- a connection is acknowledged
pub session_given : (conn : ℕ) (session : Session) (k : Kept) (s : State) → Represents k s →
    Represents (acknowledged conn session k) (machine.with_connection conn (machine.acknowledges session) s)
session_given conn session k s r =
    connection_changed conn _ (machine.acknowledges session) k s r (λ c a e. refl)

-- ---- one more connection

new_at : (subs : List Subscription) (c d : Connection) (ds : List Connection) (b : Bool) →
    with_new (connected subs c) (map (connected subs) ds) ≡ map (connected subs) (machine.with_new c ds) →
    (if b then connected subs c ∷ connected subs d ∷ map (connected subs) ds
    else connected subs d ∷ with_new (connected subs c) (map (connected subs) ds))
    ≡ map (connected subs) (if b then c ∷ d ∷ ds else d ∷ machine.with_new c ds)
new_at subs c d ds true h = refl
new_at subs c d ds false h = cc

pub new_in : (subs : List Subscription) (c : Connection) (cs : List Connection) →
    with_new (connected subs c) (map (connected subs) cs) ≡ map (connected subs) (machine.with_new c cs)
new_in subs c [] = refl
new_in subs c (d ∷ ds) = new_at subs c d ds (nat_lt c.number d.number) (new_in subs c ds)

-- a connection opens
pub opened : (conn : ℕ) (k : Kept) (s : State) → Represents k s → IsRun s → connection_at conn s ≡ None →
    Represents (opens conn k) (record s {
      connections = machine.with_new (record { number = conn; phase = Fresh; queue = [] }) s.connections;
    })
opened conn k s r w e = record {
  version = r.version;
  tables = r.tables;
  connections =
      ap (λ (ns : List ℕ). with_new (record { number = conn; phase = Fresh; queue = []; live = ns }) k.connections)
      (sym (none_live conn s w e))
      ∙ ap (λ (l : List Connected). with_new (connected s.subscriptions (record { number = conn; phase = Fresh; queue = [] })) l)
      r.connections
      ∙ new_in s.subscriptions (record { number = conn; phase = Fresh; queue = [] }) s.connections;
  entries = r.entries;
  held = r.held;
  jobs = r.jobs;
  subscribed = r.subscribed;
  jobs_made = r.jobs_made;
}
