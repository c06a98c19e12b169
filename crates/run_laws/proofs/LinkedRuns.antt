-- Each live subscription is of an acknowledged connection.
use Rattle.std.proofs.Common.{◌≡◌, inl, inr, ◌∙◌, sym, ap, refl, ℕ, ◌==◌, nat_lt, Bool, true, false, not, cond, if◌then◌else◌, Some, None, Option, List, [], ◌∷◌, ◌++◌, map, filter}
use Rattle.std.specs.Option.{option_map}
use Rattle.std.specs.List.{find}
use Rattle.std.proofs.lemmas.Bool.{eqb-true, eqb-false, ne_eqb, true≢false}
use Rattle.data_model.specs.Rows.{Database}
use Rattle.role_model.specs.declared.metadata.Metadata.{Metadata}
use Rattle.query_model.specs.Results.{result}
use Rattle.wire_model.specs.declared.close.CloseReason.{CloseReason}
use Rattle.wire_model.specs.ServerMessages.{next_text}
use Rattle.machine.specs.declared.phase.Phase.TheVariants.{Fresh, Acknowledged}
use Rattle.machine.specs.State.{State, Connection, Subscription, Member, Job, Event, opening}
use Rattle.machine.specs.Connections.{connection_at, with_new, is_connection, at_connection, queues, closes, acknowledges, leaves, is_of, is_live_id, ended_if, subscription_of}
use Rattle.machine.specs.Batches.{is_subscription, subscription_at}
use Rattle.machine.specs.Publication.{publish_member, publish_members, publish, database_of, remembers, moves_to, at_subscription}
use Rattle.machine.specs.Run.{happens, after_all, run}
use Rattle.role_model.specs.declared.session.Session.{Session}
use Rattle.wire_model.specs.ServerMessages.{ack_text, complete_text}
use Rattle.run_laws.proofs.Cases.{by_event, member_case}
use Rattle.run_laws.specs.Laws.{is_acknowledged, is_acknowledged_phase, LiveAreAcknowledged}
use Rattle.run_laws.proofs.Among.{Among, among_append, among_map, found_among, all_from_among}
use Rattle.run_laws.proofs.Following.{Alike, at_alike, remembers_alike, moves_alike, ended_alike}

-- live subscriptions over some connections
abbrev Linked : List Subscription → List Connection → Type 0
Linked subs cs = (x : Subscription) → Among x subs → x.live ≡ true → is_acknowledged (find (is_connection x.connection) cs) ≡ true

abbrev LinkedIn : State → Type 0
LinkedIn s = Linked s.subscriptions s.connections

-- Subscriptions change

followed : (f : Subscription → Subscription) → Alike f → (subs : List Subscription) (cs : List Connection) → Linked subs cs → Linked (map f subs) cs
followed f a subs cs h x b live =
    let r = among_map f subs x b in
    let connection = ap (λ (u : Subscription). u.connection) r.2 ∙ a.connection r.0 in
    ap (λ (n : ℕ). is_acknowledged (find (is_connection n) cs)) connection
    ∙ h r.0 r.1 (a.live r.0 (sym (ap (λ (u : Subscription). u.live) r.2) ∙ live))

-- Connections change

find_map : (q : Connection → Bool) (g : Connection → Connection) → ((c : Connection) → q (g c) ≡ q c) → (cs : List Connection) → find q (map g cs) ≡ option_map g (find q cs)
find_map q g h [] = refl
find_map q g h (c ∷ cs) =
    ap (λ (b : Bool). cond b (Some (g c)) (find q (map g cs))) (h c)
    ∙ ap (λ (o : Option Connection). cond (q c) (Some (g c)) o) (find_map q g h cs)
    ∙ mapped_by (q c) (find q cs)
  where
    mapped_by : (b : Bool) (o : Option Connection) → cond b (Some (g c)) (option_map g o) ≡ option_map g (cond b (Some c) o)
    mapped_by true o = refl
    mapped_by false o = refl

-- a change of one connection that keeps its number
at_number : (number : ℕ) (f : Connection → Connection) (b : Bool) (c : Connection) → (f c).number ≡ c.number → (if b then f c else c).number ≡ c.number
at_number number f true c h = h
at_number number f false c h = refl

found_at : (number of : ℕ) (f : Connection → Connection) → ((c : Connection) → (f c).number ≡ c.number) → (cs : List Connection) →
    find (is_connection of) (map (at_connection number f) cs) ≡ option_map (at_connection number f) (find (is_connection of) cs)
found_at number of f h cs = find_map (is_connection of) (at_connection number f) (λ c. ap (λ (n : ℕ). n == of) (at_number number f (is_connection number c) c (h c))) cs

-- one that keeps a connection acknowledged
kept_by : (f : Connection → Connection) (b : Bool) (c : Connection) → (is_acknowledged_phase c.phase ≡ true → is_acknowledged_phase (f c).phase ≡ true) → is_acknowledged_phase c.phase ≡ true →
    is_acknowledged_phase (if b then f c else c).phase ≡ true
kept_by f true c h e = h e
kept_by f false c h e = e

kept_at : (number : ℕ) (f : Connection → Connection) → ((c : Connection) → is_acknowledged_phase c.phase ≡ true → is_acknowledged_phase (f c).phase ≡ true) → (o : Option Connection) → is_acknowledged o ≡ true →
    is_acknowledged (option_map (at_connection number f) o) ≡ true
kept_at number f h (Some c) e = kept_by f (is_connection number c) c (h c) e
kept_at number f h None e = absurd (cc)

reached : (number : ℕ) (f : Connection → Connection) → ((c : Connection) → (f c).number ≡ c.number) → ((c : Connection) → is_acknowledged_phase c.phase ≡ true → is_acknowledged_phase (f c).phase ≡ true) →
    (subs : List Subscription) (cs : List Connection) → Linked subs cs → Linked subs (map (at_connection number f) cs)
reached number f n k subs cs h x a live =
    ap (λ (o : Option Connection). is_acknowledged o) (found_at number x.connection f n cs) ∙ kept_at number f k (find (is_connection x.connection) cs) (h x a live)

queued_on : (number : ℕ) (text : List ℕ) (subs : List Subscription) (cs : List Connection) → Linked subs cs → Linked subs (map (at_connection number (queues text)) cs)
queued_on number text subs cs h = reached number (queues text) (λ c. refl) (λ c e. e) subs cs h

-- who is live and of another connection, after the subscriptions of one ended
other_by : (number : ℕ) (y : Subscription) (b : Bool) → is_of number y ≡ b → (if b then record y { live = false } else y).live ≡ true → (y.live ≡ true) × ((y.connection == number) ≡ false)
other_by number y true e live = absurd (cc)
other_by number y false e live = (live, e)

-- a closed connection, without its subscriptions
unclosed : (number : ℕ) (r : CloseReason) (b : Bool) (c : Connection) → b ≡ false → is_acknowledged_phase c.phase ≡ true → is_acknowledged_phase (if b then closes r c else c).phase ≡ true
unclosed number r true c e h = absurd (cc)
unclosed number r false c e h = h

still_open : (number of : ℕ) (r : CloseReason) (o : Option Connection) → ((c : Connection) → o ≡ Some c → (c.number == number) ≡ false) → is_acknowledged o ≡ true → is_acknowledged (option_map (at_connection number (closes r)) o) ≡ true
still_open number of r (Some c) h e = unclosed number r (is_connection number c) c (h c refl) e
still_open number of r None h e = absurd (cc)

-- what is found is of the number asked for, so not of another one
found_other : (number of : ℕ) (cs : List Connection) (c : Connection) → (of == number) ≡ false → find (is_connection of) cs ≡ Some c → (c.number == number) ≡ false
found_other number of cs c e h = ap (λ (n : ℕ). n == number) (eqb-true c.number of (found_among (is_connection of) cs c h).1) ∙ e

closed_linked : (number : ℕ) (r : CloseReason) (subs : List Subscription) (cs : List Connection) → Linked subs cs → Linked (map (ended_if (is_of number)) subs) (map (at_connection number (closes r)) cs)
closed_linked number r subs cs h x a live =
    let p = among_map (ended_if (is_of number)) subs x a in
    let y = p.0 in
    let both = other_by number y (is_of number y) refl (sym (ap (λ (u : Subscription). u.live) p.2) ∙ live) in
    let connection = ap (λ (u : Subscription). u.connection) p.2 ∙ (ended_alike (is_of number)).connection y in
    ap (λ (n : ℕ). is_acknowledged (find (is_connection n) (map (at_connection number (closes r)) cs))) connection
    ∙ ap (λ (o : Option Connection). is_acknowledged o) (found_at number y.connection (closes r) (λ c. refl) cs)
    ∙ still_open number y.connection r (find (is_connection y.connection) cs) (λ c e. found_other number y.connection cs c both.1 e) (h y p.1 both.0)

-- a connection that is gone, without its subscriptions
find_left : (number of : ℕ) → (of == number) ≡ false → (cs : List Connection) → find (is_connection of) (filter (λ c. not (is_connection number c)) cs) ≡ find (is_connection of) cs
find_left number of e [] = refl
find_left number of e (c ∷ cs) = left_by number of e c cs (is_connection number c) refl (find_left number of e cs)
  where
    left_by : (number of : ℕ) → (of == number) ≡ false → (c : Connection) (cs : List Connection) (b : Bool) → is_connection number c ≡ b →
        find (is_connection of) (filter (λ d. not (is_connection number d)) cs) ≡ find (is_connection of) cs →
        find (is_connection of) (cond (not b) (c ∷ filter (λ d. not (is_connection number d)) cs) (filter (λ d. not (is_connection number d)) cs)) ≡ cond (is_connection of c) (Some c) (find (is_connection of) cs)
    left_by number of e c cs false h rest = ap (λ (o : Option Connection). cond (is_connection of c) (Some c) o) rest
    left_by number of e c cs true h rest =
        rest ∙ ap (λ (b : Bool). cond b (Some c) (find (is_connection of) cs)) (sym (ne_eqb c.number of (λ same. eqb-false of number e (sym same ∙ eqb-true c.number number h))))

gone_linked : (number : ℕ) (subs : List Subscription) (cs : List Connection) → Linked subs cs → Linked (map (ended_if (is_of number)) subs) (filter (λ c. not (is_connection number c)) cs)
gone_linked number subs cs h x a live =
    let p = among_map (ended_if (is_of number)) subs x a in
    let y = p.0 in
    let both = other_by number y (is_of number y) refl (sym (ap (λ (u : Subscription). u.live) p.2) ∙ live) in
    let connection = ap (λ (u : Subscription). u.connection) p.2 ∙ (ended_alike (is_of number)).connection y in
    ap (λ (n : ℕ). is_acknowledged (find (is_connection n) (filter (λ c. not (is_connection number c)) cs))) connection
    ∙ ap (λ (o : Option Connection). is_acknowledged o) (find_left number y.connection both.1 cs)
    ∙ h y p.1 both.0

-- a new connection
pub find_new : (c : Connection) (of : ℕ) → (c.number == of) ≡ false → (cs : List Connection) → find (is_connection of) (with_new c cs) ≡ find (is_connection of) cs
find_new c of e [] = ap (λ (b : Bool). cond b (Some c) None) e
find_new c of e (d ∷ ds) = new_by (nat_lt c.number d.number) (find_new c of e ds)
  where
    new_by : (b : Bool) → find (is_connection of) (with_new c ds) ≡ find (is_connection of) ds → find (is_connection of) (if b then c ∷ d ∷ ds else d ∷ with_new c ds) ≡ find (is_connection of) (d ∷ ds)
    new_by true h = ap (λ (b : Bool). cond b (Some c) (find (is_connection of) (d ∷ ds))) e
    new_by false h = ap (λ (o : Option Connection). cond (is_connection of d) (Some d) o) h

opened_linked : (subs : List Subscription) (c : Connection) (cs : List Connection) → find (is_connection c.number) cs ≡ None → Linked subs cs → Linked subs (with_new c cs)
opened_linked subs c cs new h x a live =
    ap (λ (o : Option Connection). is_acknowledged o)
    (find_new c x.connection
    (ne_eqb c.number x.connection (λ same. true≢false (sym (h x a live) ∙ ap (λ (n : ℕ). is_acknowledged (find (is_connection n) cs)) (sym same) ∙ ap is_acknowledged new))) cs)
    ∙ h x a live

-- a new subscription
joined_linked : (subs : List Subscription) (n : Subscription) (cs : List Connection) → Linked subs cs → is_acknowledged (find (is_connection n.connection) cs) ≡ true → Linked (subs ++ n ∷ []) cs
joined_linked subs n cs h e x a live = elim (among_append x subs (n ∷ []) a) [ inl b ↦ h x b live | inr b ↦ joined_by b ]
  where
    joined_by : Among x (n ∷ []) → is_acknowledged (find (is_connection x.connection) cs) ≡ true
    joined_by (inl same) = ap (λ (y : Subscription). is_acknowledged (find (is_connection y.connection) cs)) same ∙ e
    joined_by (inr b) = absurd b

-- Events

if_known : (number : ℕ) (s : State) (c : Connection) (session : Session) → connection_at number s ≡ Some c → c.phase ≡ Acknowledged session → is_acknowledged (connection_at number s) ≡ true
if_known number s c session at phase = ap is_acknowledged at ∙ ap is_acknowledged_phase phase

member_linked : (meta : Metadata) (db : Database) (s : State) (o : Option Subscription) → LinkedIn s → LinkedIn (publish_member meta db s o).state
member_linked meta db s o h =
    member_case meta db s (λ e. LinkedIn e.state) h o
    (λ sub is live.
    let r = result meta sub.query sub.cursor db in
    let queue_on = λ (text : List ℕ) (cs : List Connection). map (at_connection sub.connection (queues text)) cs in
    let told : Linked s.subscriptions (queue_on (next_text sub.id r.text) s.connections) = queued_on sub.connection _ s.subscriptions s.connections h in
    record {
      live = followed (at_subscription sub.number (remembers r.text)) (at_alike sub.number (remembers r.text) (remembers_alike r.text)) s.subscriptions _ told;
      once =
          followed (ended_if (is_subscription sub.number)) (ended_alike (is_subscription sub.number)) s.subscriptions _
          (queued_on sub.connection (complete_text sub.id) s.subscriptions (queue_on (next_text sub.id r.text) s.connections) told);
      stream = λ kind. followed (at_subscription sub.number (moves_to r.last)) (at_alike sub.number (moves_to r.last) (moves_alike r.last)) s.subscriptions _ told;
    })

members_linked : (meta : Metadata) (db : Database) (ms : List Member) (s : State) → LinkedIn s → LinkedIn (publish_members meta db ms s).state
members_linked meta db [] s h = h
members_linked meta db (m ∷ ms) s h =
    let sub = subscription_at m.subscription s.subscriptions in members_linked meta db ms (publish_member meta db s sub).state (member_linked meta db s sub h)

publish_linked : (meta : Metadata) (number : ℕ) (s : State) (o : Option Job) → LinkedIn s → LinkedIn (publish meta number s o).state
publish_linked meta number s (Some job) h = members_linked meta (database_of meta s job) job.members s h
publish_linked meta number s None h = h

pub event_linked : (meta : Metadata) (s : State) (e : Event) → LinkedIn s → LinkedIn (happens meta s e).state
event_linked meta s e h =
    by_event meta s e (λ t. LinkedIn t.state)
    (record {
      still = λ reply none. h;
      opens = λ number new. opened_linked s.subscriptions (record { number = number; phase = Fresh; queue = [] }) s.connections new h;
      closes = λ number reason. closed_linked number reason s.subscriptions s.connections h;
      acknowledges = λ number session.
          reached number (acknowledges session) (λ c. refl) (λ c e. refl) s.subscriptions (map (at_connection number (queues ack_text)) s.connections) (queued_on number _ s.subscriptions s.connections h);
      pongs = λ number. queued_on number _ s.subscriptions s.connections h;
      refuses = λ number id fault. queued_on number _ s.subscriptions s.connections h;
      joins = λ number id a j. joined_linked s.subscriptions (subscription_of number id a.query a.cursor s) s.connections h (if_known number s j.connection j.session j.known j.phase);
      completes = λ number id. followed (ended_if (is_live_id number id)) (ended_alike (is_live_id number id)) s.subscriptions s.connections h;
      goes = λ number. gone_linked number s.subscriptions s.connections h;
      commits = λ tx db e. h;
      ticks = h;
      takes = λ first e. h;
      abandons = λ number job at. h;
      drains = λ number rest text. reached number (leaves rest) (λ c. refl) (λ c e. e) s.subscriptions s.connections h;
    }) (λ number job at. publish_linked meta number s (Some job) h)

all_linked : (meta : Metadata) (h : List Event) (s : State) → LinkedIn s → LinkedIn (after_all meta s h)
all_linked meta [] s w = w
all_linked meta (e ∷ h) s w = all_linked meta h (happens meta s e).state (event_linked meta s e w)

pub live_are_acknowledged : (meta : Metadata) → LiveAreAcknowledged meta
live_are_acknowledged meta h = all_from_among _ (run meta h).subscriptions (λ x a live. all_linked meta h opening (λ y b l. absurd b) x a live)
