-- What one event may do, case by case. A law that holds in each of these cases holds of every event.
use Rattle.std.proofs.Common.{◌≡◌, ◌∙◌, ap, refl, ℕ, nat_lt, if◌then◌else◌, Bool, true, false, Some, None, Option, List, [], ◌∷◌, ◌++◌, Result, Ok, Err}
use Rattle.std.specs.Bool.{⊤}
use Rattle.std.specs.List.{list_any, find}
use Rattle.data_model.specs.Rows.{Database}
use Rattle.data_model.specs.declared.transaction.TxChange.{TxChange}
use Rattle.data_model.specs.declared.transaction.TxFault.{TxFault}
use Rattle.data_model.specs.Transactions.{apply}
use Rattle.role_model.specs.declared.metadata.Metadata.{Metadata}
use Rattle.role_model.specs.declared.session.Session.{Session}
use Rattle.role_model.specs.declared.session.Identity.{Identity}
use Rattle.role_model.specs.declared.session.Identity.TheVariants as identity
use Rattle.role_model.specs.Sessions.{identity_of}
use Rattle.query_model.specs.declared.fault.QueryFault.{QueryFault}
use Rattle.query_model.specs.Refusals.{code_of, message_of}
use Rattle.query_model.specs.Admission.{Admitted}
use Rattle.query_model.specs.Selecting.{Asked, answered}
use Rattle.wire_model.specs.declared.close.CloseReason.{CloseReason}
use Rattle.wire_model.specs.declared.close.CloseReason.TheVariants as close
use Rattle.wire_model.specs.declared.step.Action.TheVariants as act
use Rattle.wire_model.specs.CloseReasons.{close_exists}
use Rattle.wire_model.specs.ServerMessages.{ack_text, pong_text, error_text}
use Rattle.machine.specs.Messages.{Message, Init, Subscribe, Complete, Ping, Pong, Bad}
use Rattle.machine.specs.declared.phase.Phase.{Phase}
use Rattle.machine.specs.declared.phase.Phase.TheVariants.{Fresh, Acknowledged, Closed}
use Rattle.machine.specs.State.{State, Connection, Subscription, Member, Job, Event, Connect, Receive, Binary, Timeout, Gone, Commit, Tick, Take, Publish, Abandon, Drain, Report, Skip, Reply, ConnectionUnknown, ConnectionKnown, Did, Declined, Nobody, Taken, NotOpen, Sent, Empty, Done, Reported, Skipped, Effect, Step, silent, with_reply, nothing}
use Rattle.machine.specs.Connections.{connection_at, with_connection, connect, on_known, queue_then, leaves, drained, end_where, is_live_id, close_connection, gone, acknowledges, initialised, subscription_of, subscribed, acts, receive, timed_out}
use Rattle.machine.specs.Batches.{subscription_at, is_due, tick, take_from, abandon, job_at}
use Rattle.plan_model.specs.Outcomes.{Outcome}
use Rattle.query_model.specs.declared.kind.SubKind.{SubKind}
use Rattle.query_model.specs.declared.kind.SubKind.TheVariants.{Live, Once, Stream}
use Rattle.query_model.specs.Results.{result}
use Rattle.machine.specs.Publication.{queue_next, with_subscription, remembers, moves_to, is_new, publish_once, publish_kind, publish_member, publish_members, publish}
use Rattle.machine.specs.Run.{happens, commit, database_now, counts}

-- every event but a publication
abbrev pub IsOther : Event → Type 0
IsOther (Publish job) = ⊥
IsOther _ = ⊤

-- every reply but that of a take that gave a job
abbrev pub IsNoJob : Reply → Type 0
IsNoJob (Taken job) = ⊥
IsNoJob _ = ⊤

-- a subscribe that is admitted, on an acknowledged connection where its id isn't live
pub record Joins (meta : Metadata) (s : State) (e : Event) (number : ℕ) (id : List ℕ) (a : Admitted) : Type 0 where
  pub connection : Connection
  pub known : connection_at number s ≡ Some connection
  pub session : Session
  pub phase : connection.phase ≡ Acknowledged session
  pub free : list_any (is_live_id number id) s.subscriptions ≡ false
  pub asked : Asked
  pub admitted : answered meta session asked ≡ Ok a
  pub event : e ≡ Receive number (Subscribe id asked)

abbrev pub joined : State → ℕ → List ℕ → Admitted → State
joined s number id a = record s { subscriptions = s.subscriptions ++ subscription_of number id a.query a.cursor s ∷ [] }

abbrev pub refused : State → ℕ → List ℕ → QueryFault → Effect
refused s number id fault = queue_then number (error_text id (message_of fault) (code_of fault.kind)) nothing s

abbrev pub acknowledged : State → ℕ → Session → Effect
acknowledged s number session = queue_then number ack_text (λ t. nothing (with_connection number (acknowledges session) t)) s

-- what P holds of, so that it holds of every event but a publication
pub record Cases (meta : Metadata) (s : State) (e : Event) (P : Step → Type 0) : Type 0 where
  pub still : (reply : Reply) → IsNoJob reply → P (silent s reply)
  pub opens : (number : ℕ) → connection_at number s ≡ None → P (connect number s None)
  pub closes : (number : ℕ) (reason : CloseReason) → P (with_reply Did (close_connection number reason s))
  pub acknowledges : (number : ℕ) (session : Session) → P (with_reply Did (acknowledged s number session))
  pub pongs : (number : ℕ) → P (with_reply Did (queue_then number pong_text nothing s))
  pub refuses : (number : ℕ) (id : List ℕ) (fault : QueryFault) → P (with_reply Did (refused s number id fault))
  pub joins : (number : ℕ) (id : List ℕ) (a : Admitted) → Joins meta s e number id a → P (silent (joined s number id a) Did)
  pub completes : (number : ℕ) (id : List ℕ) → P (silent (end_where (is_live_id number id) s) Did)
  pub goes : (number : ℕ) → P (with_reply Did (gone number s))
  pub commits : (tx : List TxChange) (db : Database) → apply meta.catalog (database_now meta s) tx ≡ Ok db → P (commit tx s (Ok db))
  pub ticks : P (tick s)
  pub takes : (first : Subscription) → find (is_due s.due) s.subscriptions ≡ Some first → P (take_from meta s (Some first))
  pub abandons : (number : ℕ) (job : Job) → job_at number s.jobs ≡ Some job → P (abandon number s (Some job))
  pub drains : (number : ℕ) (rest : List (List ℕ)) (text : List ℕ) → P (silent (with_connection number (leaves rest) s) (Sent text))

module _ (meta : Metadata) (s : State) (event : Event) (P : Step → Type 0) (cases : Cases meta s event P) where
  -- messages

  initialised_case : (number : ℕ) (i : Identity) → P (with_reply Did (initialised number s i))
  initialised_case number (identity.Allowed session) = cases.acknowledges number session
  initialised_case number identity.Forbidden = cases.closes number close.Forbidden

  subscribed_case : (number : ℕ) (id : List ℕ) (r : Result Admitted QueryFault) → ((a : Admitted) → r ≡ Ok a → Joins meta s event number id a) → P (with_reply Did (subscribed number id s r))
  subscribed_case number id (Ok a) h = cases.joins number id a (h a refl)
  subscribed_case number id (Err fault) h = cases.refuses number id fault

  subscribe_case : (number : ℕ) (id : List ℕ) (asked : Asked) (session : Session) (known : Connection) (p : Phase) (live : Bool) → connection_at number s ≡ Some known → known.phase ≡ p → p ≡ Acknowledged session →
      list_any (is_live_id number id) s.subscriptions ≡ live → event ≡ Receive number (Subscribe id asked) →
      P (with_reply Did (acts meta number (Subscribe id asked) s (Acknowledged session) (if live then act.Exists else act.Admit)))
  subscribe_case number id asked session known p true at phase is e said = cases.closes number (close_exists id)
  subscribe_case number id asked session known p false at phase is e said =
      subscribed_case number id (answered meta session asked)
      (λ a admitted. record { connection = known; known = at; session = session; phase = phase ∙ is; free = e; asked = asked; admitted = admitted; event = said })

  complete_case : (number : ℕ) (id : List ℕ) (session : Session) (live : Bool) → P (with_reply Did (acts meta number (Complete id) s (Acknowledged session) (if live then act.End else act.Ignore)))
  complete_case number id session true = cases.completes number id
  complete_case number id session false = cases.still Did tt

  receive_case : (number : ℕ) (m : Message) (known : Connection) (p : Phase) → connection_at number s ≡ Some known → known.phase ≡ p →
      ((id : List ℕ) (asked : Asked) → m ≡ Subscribe id asked → event ≡ Receive number (Subscribe id asked)) → P (with_reply Did (receive meta number m s p))
  receive_case number (Init payload) known Fresh at phase said = initialised_case number (identity_of meta payload)
  receive_case number (Subscribe id asked) known Fresh at phase said = cases.closes number close.Unauthorized
  receive_case number (Complete id) known Fresh at phase said = cases.still Did tt
  receive_case number Ping known Fresh at phase said = cases.pongs number
  receive_case number Pong known Fresh at phase said = cases.still Did tt
  receive_case number Bad known Fresh at phase said = cases.closes number close.Invalid
  receive_case number (Init payload) known (Acknowledged session) at phase said = cases.closes number close.TooManyInits
  receive_case number (Subscribe id asked) known (Acknowledged session) at phase said =
      subscribe_case number id asked session known (Acknowledged session) (list_any (is_live_id number id) s.subscriptions) at phase refl refl (said id asked refl)
  receive_case number (Complete id) known (Acknowledged session) at phase said = complete_case number id session (list_any (is_live_id number id) s.subscriptions)
  receive_case number Ping known (Acknowledged session) at phase said = cases.pongs number
  receive_case number Pong known (Acknowledged session) at phase said = cases.still Did tt
  receive_case number Bad known (Acknowledged session) at phase said = cases.closes number close.Invalid
  receive_case number m known (Closed reason) at phase said = cases.still Did tt

  -- the other events

  timed_out_case : (number : ℕ) (p : Phase) → P (with_reply Did (timed_out number s p))
  timed_out_case number Fresh = cases.closes number close.InitTimeout
  timed_out_case number (Acknowledged session) = cases.still Did tt
  timed_out_case number (Closed reason) = cases.still Did tt

  drained_case : (number : ℕ) (p : Phase) (queue : List (List ℕ)) → P (drained number s p queue)
  drained_case number p (text ∷ rest) = cases.drains number rest text
  drained_case number Fresh [] = cases.still Empty tt
  drained_case number (Acknowledged session) [] = cases.still Empty tt
  drained_case number (Closed reason) [] = cases.still (Done reason) tt

  connect_case : (number : ℕ) (o : Option Connection) → connection_at number s ≡ o → P (connect number s o)
  connect_case number (Some known) at = cases.still ConnectionKnown tt
  connect_case number None at = cases.opens number at

  known_case : (f : Connection → Step) (o : Option Connection) → ((c : Connection) → o ≡ Some c → P (f c)) → P (on_known f s o)
  known_case f (Some c) h = h c refl
  known_case f None h = cases.still ConnectionUnknown tt

  commit_case : (tx : List TxChange) (r : Result Database TxFault) → apply meta.catalog (database_now meta s) tx ≡ r → P (commit tx s r)
  commit_case tx (Ok db) e = cases.commits tx db e
  commit_case tx (Err fault) e = cases.still (Declined fault) tt

  take_case : (o : Option Subscription) → find (is_due s.due) s.subscriptions ≡ o → P (take_from meta s o)
  take_case (Some first) e = cases.takes first e
  take_case None e = cases.still Nobody tt

  abandon_case : (number : ℕ) (o : Option Job) → job_at number s.jobs ≡ o → P (abandon number s o)
  abandon_case number (Some job) e = cases.abandons number job e
  abandon_case number None e = cases.still NotOpen tt

pub by_cases : (meta : Metadata) (s : State) (e : Event) (P : Step → Type 0) → Cases meta s e P → IsOther e → P (happens meta s e)
by_cases meta s (Connect c) P cases other = connect_case meta s (Connect c) P cases c (connection_at c s) refl
by_cases meta s (Receive c m) P cases other =
    known_case meta s (Receive c m) P cases _ (connection_at c s)
    (λ known at. receive_case meta s (Receive c m) P cases c m known known.phase at refl (λ id asked is. ap (λ (n : Message). Receive c n) is))
by_cases meta s (Binary c) P cases other =
    known_case meta s (Binary c) P cases _ (connection_at c s) (λ known at. receive_case meta s (Binary c) P cases c Bad known known.phase at refl (λ id asked is. absurd (cc)))
by_cases meta s (Timeout c) P cases other = known_case meta s (Timeout c) P cases _ (connection_at c s) (λ known at. timed_out_case meta s (Timeout c) P cases c known.phase)
by_cases meta s (Gone c) P cases other = known_case meta s (Gone c) P cases (λ known. with_reply Did (gone c s)) (connection_at c s) (λ known at. cases.goes c)
by_cases meta s (Commit tx) P cases other = commit_case meta s (Commit tx) P cases tx (apply meta.catalog (database_now meta s) tx) refl
by_cases meta s Tick P cases other = cases.ticks
by_cases meta s Take P cases other = take_case meta s Take P cases (find (is_due s.due) s.subscriptions) refl
by_cases meta s (Publish job) P cases other = absurd other
by_cases meta s (Abandon job) P cases other = abandon_case meta s (Abandon job) P cases job (job_at job s.jobs) refl
by_cases meta s (Drain c) P cases other = known_case meta s (Drain c) P cases _ (connection_at c s) (λ known at. drained_case meta s (Drain c) P cases c known.phase known.queue)
by_cases meta s Report P cases other = cases.still (Reported (counts s)) tt
by_cases meta s Skip P cases other = cases.still Skipped tt

-- a publication, of an open job or of none
pub publish_case : (meta : Metadata) (s : State) (P : Step → Type 0) (number : ℕ) (o : Option Job) → job_at number s.jobs ≡ o → P (silent s NotOpen) → ((job : Job) → job_at number s.jobs ≡ Some job → P (publish meta number s (Some job))) → P (publish meta number s o)
publish_case meta s P number (Some job) at h k = k job at
publish_case meta s P number None at h k = h

-- every event
pub by_event : (meta : Metadata) (s : State) (e : Event) (P : Step → Type 0) → Cases meta s e P → ((number : ℕ) (job : Job) → job_at number s.jobs ≡ Some job → P (publish meta number s (Some job))) → P (happens meta s e)
by_event meta s (Publish job) P cases publishes = publish_case meta s P job (job_at job s.jobs) refl (cases.still NotOpen tt) (λ j at. publishes job j at)
by_event meta s e P cases publishes = by_cases meta s e P cases tt

-- Turns

-- a live query is told its result, which it remembers
abbrev pub told_live : Subscription → Outcome → State → Effect
told_live sub r s = queue_next sub r.text (λ t. nothing (with_subscription sub.number (remembers r.text) t)) s

-- a stream is told its next rows, and moves to the last of them
abbrev pub told_rows : Subscription → Outcome → State → Effect
told_rows sub r s = queue_next sub r.text (λ t. nothing (with_subscription sub.number (moves_to r.last) t)) s

-- what P holds of, so that it holds of every turn
pub record Turns (s : State) (sub : Subscription) (r : Outcome) (P : Effect → Type 0) : Type 0 where
  pub live : P (told_live sub r s)
  pub once : P (publish_once sub r s)
  pub stream : sub.query.kind ≡ Stream → P (told_rows sub r s)

either : (P : Effect → Type 0) (b : Bool) (e f : Effect) → P e → P f → P (if b then e else f)
either P true e f h i = h
either P false e f h i = i

pub kind_case : (s : State) (sub : Subscription) (r : Outcome) (P : Effect → Type 0) → P (nothing s) → Turns s sub r P → (k : SubKind) → sub.query.kind ≡ k → P (publish_kind k sub r s)
kind_case s sub r P h turns Live is = either P (is_new sub.last r.text) (told_live sub r s) (nothing s) turns.live h
kind_case s sub r P h turns Once is = turns.once
kind_case s sub r P h turns Stream is = either P (nat_lt 0 r.rows) (told_rows sub r s) (nothing s) (turns.stream is) h

live_case : (P : Effect → Type 0) (b live : Bool) (e f : Effect) → b ≡ live → (b ≡ true → P e) → P f → P (if live then e else f)
live_case P b true e f is h i = h is
live_case P b false e f is h i = i

pub member_case : (meta : Metadata) (db : Database) (s : State) (P : Effect → Type 0) → P (nothing s) → (o : Option Subscription) →
    ((sub : Subscription) → o ≡ Some sub → sub.live ≡ true → Turns s sub (result meta sub.query sub.cursor db) P) → P (publish_member meta db s o)
member_case meta db s P h (Some sub) turns =
    let r = result meta sub.query sub.cursor db in
    live_case P sub.live sub.live (publish_kind sub.query.kind sub r s) (nothing s) refl (λ live. kind_case s sub r P h (turns sub refl live) sub.query.kind refl) h
member_case meta db s P h None turns = h

-- what each turn keeps, all turns of a publication keep
pub members_keep : (meta : Metadata) (db : Database) (P : State → Type 0) → ((s : State) (number : ℕ) (sub : Subscription) → subscription_at number s.subscriptions ≡ Some sub → (r : Outcome) → P s → Turns s sub r (λ e. P e.state)) →
    (ms : List Member) (s : State) → P s → P (publish_members meta db ms s).state
members_keep meta db P keeps [] s h = h
members_keep meta db P keeps (m ∷ ms) s h =
    let sub = subscription_at m.subscription s.subscriptions in
    members_keep meta db P keeps ms (publish_member meta db s sub).state (member_case meta db s (λ e. P e.state) h sub (λ x is live. keeps s m.subscription x is (result meta x.query x.cursor db) h))
