-- The state of the machine, its events and its replies. This project's own, after Hasura's live query architecture.
use Rattle.std.specs.Prelude.{ℕ, Bool, Option, List, []}
use Rattle.scalar_val.specs.declared.val.Val.{Val}
use Rattle.data_model.specs.declared.transaction.TxChange.{TxChange}
use Rattle.data_model.specs.declared.transaction.TxFault.{TxFault}
use Rattle.query_model.specs.Queries.{Query}
use Rattle.wire_model.specs.declared.close.CloseReason.{CloseReason}
use Rattle.machine.specs.Messages.{Message}
pub use Rattle.machine.specs.declared.counts.Counts.{Counts}
pub use Rattle.machine.specs.declared.phase.Phase.{Phase}
pub use Rattle.machine.specs.declared.phase.Phase.TheVariants.{Fresh, Acknowledged, Closed}
use Rattle.machine.specs.declared.queued.Queued.{Queued}

-- a known connection, and the texts that are queued for it
pub record Connection : Type 0 where
  pub number : ℕ
  pub phase : Phase
  pub queue : List (List ℕ)

-- A subscription. Its cursor is null where it is no stream; `last` is the text of its last result.
pub record Subscription : Type 0 where
  pub number : ℕ
  pub connection : ℕ
  pub id : List ℕ
  pub query : Query
  pub cursor : Val
  pub live : Bool
  pub last : Option (List ℕ)

-- a member of a job: a subscription, and the place of its cohort in the job, from 1
pub record Member : Type 0 where
  pub subscription : ℕ
  pub cohort : ℕ

pub record Job : Type 0 where
  pub number : ℕ
  pub version : ℕ
  pub members : List Member

-- Transactions are those accepted, in order. Connections stand in order of their numbers. Subscriptions stand in order of
-- theirs, from 1, ended ones among them. `due` ascends. `jobs` are the open ones, and `jobs_made` counts all jobs.
pub record State : Type 0 where
  pub transactions : List (List TxChange)
  pub connections : List Connection
  pub subscriptions : List Subscription
  pub due : List ℕ
  pub jobs : List Job
  pub jobs_made : ℕ

abbrev pub opening : State
opening = record { transactions = []; connections = []; subscriptions = []; due = []; jobs = []; jobs_made = 0 }

pub data Event : Type 0 where
  Connect : (connection : ℕ) → Event
  Receive : (connection : ℕ) (message : Message) → Event
  Binary : (connection : ℕ) → Event
  Timeout : (connection : ℕ) → Event
  Gone : (connection : ℕ) → Event
  Commit : (transaction : List TxChange) → Event
  Tick : Event
  Take : Event
  Publish : (job : ℕ) → Event
  Abandon : (job : ℕ) → Event
  Drain : (connection : ℕ) → Event
  Report : Event
  Skip : Event

pub data Reply : Type 0 where
  ConnectionUnknown : Reply
  ConnectionKnown : Reply
  Did : Reply
  Committed : (version : ℕ) → Reply
  Declined : (fault : TxFault) → Reply
  Ticked : (count : ℕ) → Reply
  Nobody : Reply
  Taken : (job : Job) → Reply
  NotOpen : Reply
  Published : (version : ℕ) → Reply
  Abandoned : Reply
  Sent : (text : List ℕ) → Reply
  Empty : Reply
  Done : (reason : CloseReason) → Reply
  Reported : (counts : Counts) → Reply
  Skipped : Reply

-- a connection that is closed
pub record Close : Type 0 where
  pub connection : ℕ
  pub reason : CloseReason

-- what an event does beside its reply
pub record Effect : Type 0 where
  pub state : State
  pub queued : List Queued
  pub closed : List Close

-- what an event does
pub record Step : Type 0 where
  pub state : State
  pub reply : Reply
  pub queued : List Queued
  pub closed : List Close

abbrev pub silent : State → Reply → Step
silent s reply = record { state = s; reply = reply; queued = []; closed = [] }

abbrev pub with_reply : Reply → Effect → Step
with_reply reply e = record { state = e.state; reply = reply; queued = e.queued; closed = e.closed }

abbrev pub nothing : State → Effect
nothing s = record { state = s; queued = []; closed = [] }
