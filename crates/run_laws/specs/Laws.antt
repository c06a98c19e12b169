-- Laws over whole runs: what is told to each subscription, in which order and until when, and which jobs may be open
-- together. They speak of any list of events. This project's own, after the `graphql-transport-ws` protocol and
-- Hasura's live query architecture.
use Rattle.std.specs.Prelude.{
  ◌≡◌,
  ◌≢◌,
  ◌≤◌,
  ◌<◌,
  ℕ,
  Bool,
  true,
  false,
  ◌&&◌,
  ◌==◌,
  nat_lt,
  ⊤,
  if◌then◌else◌,
  is_some,
  Option,
  Some,
  None,
  Ok,
  Err,
  List,
  [],
  ◌∷◌,
  ◌++◌,
  length,
  map,
  filter,
  codes,
}
use Rattle.std.specs.List.{list_any, flat_map, range_with_len, starts_with, AllByRecursion}
use Rattle.scalar_val.specs.declared.val.Val.{Val}
use Rattle.data_model.specs.Rows.{Database}
use Rattle.role_model.specs.declared.metadata.Metadata.{Metadata}
use Rattle.role_model.specs.declared.session.Session.{Session}
use Rattle.data_model.specs.Transactions.{snapshot}
use Rattle.query_model.specs.declared.fault.QueryFault.{QueryFault}
use Rattle.query_model.specs.Refusals.{code_of, message_of}
use Rattle.query_model.specs.Admission.{Admitted}
use Rattle.query_model.specs.Selecting.{Asked, answered}
use Rattle.query_model.specs.declared.kind.SubKind.{SubKind}
use Rattle.query_model.specs.declared.kind.SubKind.TheVariants.{Live, Once, Stream}
use Rattle.plan_model.specs.Outcomes.{Outcome}
use Rattle.query_model.specs.Results.{result}
use Rattle.machine.specs.Messages.{Subscribe}
use Rattle.wire_model.specs.ServerMessages.{next_text, complete_text, error_text}
use Rattle.machine.specs.declared.phase.Phase.{Phase}
use Rattle.machine.specs.declared.phase.Phase.TheVariants.{Fresh, Acknowledged, Closed}
use Rattle.machine.specs.State.{
  State,
  Connection,
  Subscription,
  Member,
  Job,
  Event,
  Receive,
  Publish,
  Gone,
  Step,
  opening,
}
use Rattle.machine.specs.Connections.{connection_at, is_live_id, subscription_of}
use Rattle.machine.specs.Batches.{are_of_one_cohort, subscription_at, is_member, is_busy, job_at}
use Rattle.machine.specs.Publication.{is_new, publish_member, database_of}
use Rattle.machine.specs.Run.{happens, run, steps}
use Rattle.machine.specs.declared.queued.Queued.{Queued}

-- Turns

-- A live member's turn in the publication of a job: the job's version, the subscription as it stands at its turn, and
-- what is queued for it then.
pub record Turn : Type 0 where
  pub version : ℕ
  pub subscription : Subscription
  pub queued : List Queued

abbrev pub turn_of : Metadata → Database → ℕ → State → Option Subscription → List Turn
turn_of meta db version s (Some sub) =
    if sub.live
    then record { version = version; subscription = sub; queued = (publish_member meta db s (Some sub)).queued }
    ∷ [] else []
turn_of meta db version s None = []

-- members in order, each in the state that the one before left
abbrev pub turns_in : Metadata → Database → ℕ → List Member → State → List Turn
turns_in meta db version [] s = []
turns_in meta db version (m ∷ ms) s =
    turn_of meta db version s (subscription_at m.subscription s.subscriptions)
    ++ turns_in meta db version ms (publish_member meta db s (subscription_at m.subscription s.subscriptions)).state

abbrev pub turns_of_job : Metadata → State → Option Job → List Turn
turns_of_job meta s (Some job) = turns_in meta (database_of meta s job) job.version job.members s
turns_of_job meta s None = []

-- the turns of an event: those of the job that it publishes, and none where it is no publication
abbrev pub turns_at : Metadata → State → Event → List Turn
turns_at meta s (Publish job) = turns_of_job meta s (job_at job s.jobs)
turns_at meta s _ = []

abbrev pub turns_from : Metadata → State → List Event → List Turn
turns_from meta s [] = []
turns_from meta s (e ∷ es) = turns_at meta s e ++ turns_from meta (happens meta s e).state es

-- all turns of a run, in order
abbrev pub turns : Metadata → List Event → List Turn
turns meta h = turns_from meta opening h

abbrev pub is_turn_of : ℕ → Turn → Bool
is_turn_of number t = t.subscription.number == number

-- the turns of one subscription
abbrev pub turns_for : Metadata → List Event → ℕ → List Turn
turns_for meta h number = filter (is_turn_of number) (turns meta h)

-- the versions of the publications in which a subscription was a member and live at its turn
abbrev pub versions : Metadata → List Event → ℕ → List ℕ
versions meta h number = map (λ t. t.version) (turns_for meta h number)

abbrev pub texts : List Queued → List (List ℕ)
texts = map (λ q. q.text)

-- the texts that are queued for one subscription at its turns, in order
abbrev pub told : Metadata → List Event → ℕ → List (List ℕ)
told meta h number = flat_map (λ t. texts t.queued) (turns_for meta h number)

-- Numbers

-- subscriptions have the numbers from 1 on, in order, and keep them, ended ones too: no number is used again
abbrev pub AreNumberedInOrder : Metadata → Type 0
AreNumberedInOrder meta = (h : List Event) → map (λ sub. sub.number) (run meta h).subscriptions
    ≡ range_with_len 1 (length (run meta h).subscriptions)

-- Results are told at turns

abbrev pub is_next : List ℕ → Bool
is_next text = starts_with ◌==◌ text (codes "{\"type\":\"next\"")

abbrev pub nexts : List Queued → List Queued
nexts = filter (λ q. is_next q.text)

-- The `next` texts of a run are those of its turns, in order: no other event queues one.
abbrev pub ResultsAreOfTurns : Metadata → Type 0
ResultsAreOfTurns meta = (h : List Event) → nexts (flat_map (λ s. s.queued) (steps meta h))
    ≡ nexts (flat_map (λ t. t.queued) (turns meta h))

-- what a subscription is told of a result, as it stands at its turn: a live query first and then only on change, a
-- query that is answered once also that it is complete, and a stream where there are rows
abbrev pub said : SubKind → Subscription → Outcome → List (List ℕ)
said Live sub r = if is_new sub.last r.text then next_text sub.id r.text ∷ [] else []
said Once sub r = next_text sub.id r.text ∷ complete_text sub.id ∷ []
said Stream sub r = if nat_lt 0 r.rows then next_text sub.id r.text ∷ [] else []

abbrev pub to_connection : ℕ → List ℕ → Queued
to_connection connection text = record { conn = connection; text = text }

-- The result of the subscription's own query and cursor, alone, on the one snapshot of the turn's version.
abbrev pub own_result : Metadata → State → Turn → Outcome
own_result meta s t = result meta t.subscription.query t.subscription.cursor
    (snapshot meta.catalog s.transactions t.version)

abbrev pub IsOwnResult : Metadata → State → Turn → Type 0
IsOwnResult meta s t = t.queued ≡ map (to_connection t.subscription.connection)
    (said t.subscription.query.kind t.subscription (own_result meta s t))

-- every turn tells the subscription's own result, on its own connection
abbrev pub TellsOwnResults : Metadata → Type 0
TellsOwnResults meta = (h : List Event) → AllByRecursion (IsOwnResult meta (run meta h)) (turns meta h)

-- Order of snapshots

abbrev pub version_of : State → ℕ
version_of s = length s.transactions

-- the relation holds of each item and each later one
abbrev pub EachPair : {X : Type 0} → (X → X → Type 0) → List X → Type 0
EachPair R [] = ⊤
EachPair R (x ∷ xs) = AllByRecursion (R x) xs × EachPair R xs

-- A subscription never returns to an older snapshot: each version is at most each later one.
abbrev pub NeverReturns : Metadata → Type 0
NeverReturns meta = (h : List Event) (number : ℕ) → EachPair ◌≤◌ (versions meta h number)

-- No snapshot of a subscription is older than its subscribe: than any state in which there was no subscription of its
-- number yet.
abbrev pub BeginsAtItsSubscribe : Metadata → Type 0
BeginsAtItsSubscribe meta =
    (before after : List Event) (number : ℕ) → length (run meta before).subscriptions < number →
    AllByRecursion (λ version. version_of (run meta before) ≤ version) (versions meta (before ++ after) number)

-- Change

-- each text differs from the next one
abbrev pub EachDiffersFromNext : List (List ℕ) → Type 0
EachDiffersFromNext [] = ⊤
EachDiffersFromNext (t ∷ []) = ⊤
EachDiffersFromNext (t ∷ u ∷ ts) = (t ≢ u) × EachDiffersFromNext (u ∷ ts)

-- a live query is told its first result, and then only others than the one before
abbrev pub TellsChanges : Metadata → Type 0
TellsChanges meta =
    (h : List Event) (number : ℕ) (sub : Subscription) → subscription_at number (run meta h).subscriptions ≡ Some sub →
    sub.query.kind ≡ Live →
    EachDiffersFromNext (told meta h number)

-- Cursors

-- where a stream stands after a turn: at the last row that it is told, if there is one
abbrev pub cursor_after : Metadata → State → Turn → Val
cursor_after meta s t = if nat_lt 0 (own_result meta s t).rows then (own_result meta s t).last
    else t.subscription.cursor

-- the first turn finds a cursor, each turn finds it where the one before left it, and the last leaves it here
abbrev pub Leads : (Turn → Val) → Val → List Turn → Val → Type 0
Leads after from [] to = to ≡ from
Leads after from (t ∷ ts) to = (t.subscription.cursor ≡ from) × Leads after (after t) ts to

-- From any moment on to any later one, a stream moves along its own results alone.
abbrev pub MovesAlong : Metadata → Type 0
MovesAlong meta =
    (before after : List Event) (number : ℕ) (first last : Subscription) →
    subscription_at number (run meta before).subscriptions ≡ Some first →
    subscription_at number (run meta (before ++ after)).subscriptions ≡ Some last → last.query.kind ≡ Stream →
    Leads (cursor_after meta (run meta (before ++ after))) first.cursor
    (filter (is_turn_of number) (turns_from meta (run meta before) after)) last.cursor

-- Completion

-- a subscription of this number is live
abbrev pub is_live : State → ℕ → Bool
is_live s number = list_any (λ sub. sub.live && sub.number == number) s.subscriptions

-- Once a subscription has ended it has no further turn, so it is told nothing more.
abbrev pub EndsForGood : Metadata → Type 0
EndsForGood meta =
    (before after : List Event) (number : ℕ) → number ≤ length (run meta before).subscriptions →
    is_live (run meta before) number ≡ false →
    turns_for meta (before ++ after) number ≡ turns_for meta before number

-- at its turn it is told its result and that it is complete, and then it has ended
abbrev pub IsAnswered : State → Turn → Type 0
IsAnswered after t =
    t.subscription.query.kind ≡ Once →
    ((payload : List ℕ) × (texts t.queued ≡ next_text t.subscription.id payload ∷ complete_text t.subscription.id ∷ []))
    × (is_live after t.subscription.number ≡ false)

-- the event that answers a query which is answered once also completes and ends it
abbrev pub AnswersOnce : Metadata → Type 0
AnswersOnce meta = (h : List Event) (e : Event) →
    AllByRecursion (IsAnswered (happens meta (run meta h) e).state) (turns_at meta (run meta h) e)

-- Ends

-- a live subscription of this connection
abbrev pub is_live_on : ℕ → Subscription → Bool
is_live_on connection sub = sub.live && sub.connection == connection

abbrev pub HasNoneLive : State → ℕ → Type 0
HasNoneLive s connection = list_any (is_live_on connection) s.subscriptions ≡ false

-- a close ends the subscriptions of its connection
abbrev pub ClosesEnd : Metadata → Type 0
ClosesEnd meta = (h : List Event) (e : Event) →
    AllByRecursion (λ close. HasNoneLive (happens meta (run meta h) e).state close.connection)
    (happens meta (run meta h) e).closed

-- so does the end of the connection itself, which then isn't known
abbrev pub GoneEnds : Metadata → Type 0
GoneEnds meta =
    (h : List Event) (connection : ℕ) → is_some (connection_at connection (run meta h)) ≡ true →
    HasNoneLive (happens meta (run meta h) (Gone connection)).state connection
    × (is_some (connection_at connection (happens meta (run meta h) (Gone connection)).state) ≡ false)

abbrev pub is_acknowledged_phase : Phase → Bool
is_acknowledged_phase Fresh = false
is_acknowledged_phase (Acknowledged session) = true
is_acknowledged_phase (Closed reason) = false

-- the connection is known, and acknowledged
abbrev pub is_acknowledged : Option Connection → Bool
is_acknowledged (Some c) = is_acknowledged_phase c.phase
is_acknowledged None = false

-- after every event each live subscription is of a connection that is known, acknowledged and not closed
abbrev pub LiveAreAcknowledged : Metadata → Type 0
LiveAreAcknowledged meta =
    (h : List Event) → AllByRecursion (λ sub. sub.live ≡ true →
    is_acknowledged (connection_at sub.connection (run meta h)) ≡ true) (run meta h).subscriptions

-- Admission

abbrev pub subscribes : Metadata → State → ℕ → List ℕ → Asked → Step
subscribes meta s connection id asked = happens meta s (Receive connection (Subscribe id asked))

-- A subscribe on an acknowledged connection, with an id that isn't live there, becomes the next subscription, live, not
-- due and without a last text, exactly where what it asks for is admitted. Else there is no further subscription, and
-- the client is told its refusal alone.
abbrev pub AdmitsSubscribes : Metadata → Type 0
AdmitsSubscribes meta =
    (h : List Event) (connection : Connection) (session : Session) (id : List ℕ) (asked : Asked) →
    connection_at connection.number (run meta h) ≡ Some connection → connection.phase ≡ Acknowledged session →
    list_any (is_live_id connection.number id) (run meta h).subscriptions ≡ false →
    ((a : Admitted) → answered meta session asked ≡ Ok a →
    (subscribes meta (run meta h) connection.number id asked).state
    ≡ record (run meta h) {
      subscriptions = (run meta h).subscriptions
          ++ subscription_of connection.number id a.query a.cursor (run meta h) ∷ [];
    })
    × ((fault : QueryFault) → answered meta session asked ≡ Err fault →
    ((subscribes meta (run meta h) connection.number id asked).state.subscriptions ≡ (run meta h).subscriptions)
    × ((subscribes meta (run meta h) connection.number id asked).queued
    ≡ to_connection connection.number (error_text id (message_of fault) (code_of fault.kind)) ∷ []))

-- Batches

-- no subscription is a member of both jobs
abbrev pub HaveNoCommonMember : Job → Job → Type 0
HaveNoCommonMember i j = (number : ℕ) → is_member number i ≡ true → is_member number j ≡ false

-- no member of one job is of one cohort with a member of the other, be they live or ended
abbrev pub HaveNoCommonCohort : List Subscription → Job → Job → Type 0
HaveNoCommonCohort subs i j =
    AllByRecursion (λ a. AllByRecursion (λ b. are_of_one_cohort a b ≡ true → is_member a.number i ≡ true →
    is_member b.number j ≡ false) subs) subs

-- the number is that of a live subscription whose cohort has no member, live or ended, in an open job
abbrev pub IsIdle : State → ℕ → Type 0
IsIdle s number = (sub : Subscription) × (subscription_at number s.subscriptions ≡ Some sub) × (sub.live ≡ true)
    × (is_busy s.subscriptions s.jobs sub ≡ false)

pub record BatchesStandApart (s : State) : Type 0 where
  pub members : EachPair HaveNoCommonMember s.jobs
  pub cohorts : EachPair (HaveNoCommonCohort s.subscriptions) s.jobs
  pub due : AllByRecursion (IsIdle s) s.due

-- after every event a subscription is a member of at most one open job, members of one cohort are in the same one, and
-- who is due is live and of a cohort that isn't in flight
abbrev pub KeepsBatchesApart : Metadata → Type 0
KeepsBatchesApart meta = (h : List Event) → BatchesStandApart (run meta h)
