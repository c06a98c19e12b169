-- What a transcript says of one event. This project's own.
use Rattle.std.specs.Prelude.{ℕ, zero, suc, max, List, [], ◌∷◌, ◌++◌, length, codes, decimal}
use Rattle.std.specs.List.{flat_map, fold}
use Rattle.json.specs.Print.{quoted}
use Rattle.data_model.specs.declared.transaction.Reason.{Reason}
use Rattle.data_model.specs.declared.transaction.Reason.TheVariants.{
  NoTable,
  NoColumn,
  WrongKind,
  NullGiven,
  NoRow,
  KeyTaken,
  UniqueTaken,
  TableFull,
}
use Rattle.wire_model.specs.CloseReasons.{code, reason}
use Rattle.wire_model.specs.declared.close.CloseReason.{CloseReason}
use Rattle.role_model.specs.declared.metadata.Metadata.{Metadata}
use Rattle.machine.specs.State.{
  State,
  Event,
  Connect,
  Receive,
  Binary,
  Timeout,
  Gone,
  Commit,
  Tick,
  Take,
  Publish,
  Abandon,
  Drain,
  Report,
  Skip,
  Reply,
  ConnectionUnknown,
  ConnectionKnown,
  Committed,
  Declined,
  Ticked,
  Taken,
  Published,
  Abandoned,
  Sent,
  Done,
  Reported,
  Member,
  Job,
  Counts,
  Close,
  Step,
}
use Rattle.machine.specs.Run.{happens}
use Rattle.machine.specs.declared.queued.Queued.{Queued}

-- a word, a space and a number
abbrev pub numbered : List ℕ → ℕ → List ℕ
numbered word n = word ++ 32 ∷ decimal n

abbrev pub refusal_name : Reason → List ℕ
refusal_name NoTable = codes "NoTable"
refusal_name NoColumn = codes "NoColumn"
refusal_name WrongKind = codes "WrongKind"
refusal_name NullGiven = codes "NullGiven"
refusal_name NoRow = codes "NoRow"
refusal_name KeyTaken = codes "KeyTaken"
refusal_name UniqueTaken = codes "UniqueTaken"
refusal_name TableFull = codes "TableFull"

-- the cohorts of a job have the places from 1 on
abbrev pub cohorts : List Member → ℕ
cohorts members = fold (λ n (m : Member). max n m.cohort) 0 members

abbrev pub job_line : Job → List ℕ
job_line job =
    numbered (codes "job") job.number ++ numbered (codes " version") job.version
    ++ numbered (codes " cohorts") (cohorts job.members) ++ numbered (codes " members") (length job.members)

abbrev pub report_line : Counts → List ℕ
report_line c =
    numbered (codes "report connections") c.connections ++ numbered (codes " live") c.live
    ++ numbered (codes " due") c.due ++ numbered (codes " jobs") c.jobs ++ numbered (codes " version") c.version

-- a close's code, and its reason as a JSON string
abbrev pub close_text : CloseReason → List ℕ
close_text r = decimal (code r) ++ 32 ∷ quoted (reason r)

abbrev pub connection_line : List ℕ → ℕ → Reply → List ℕ
connection_line word c ConnectionUnknown = numbered (codes "unknown") c
connection_line word c ConnectionKnown = numbered (codes "known") c
connection_line word c _ = numbered word c

abbrev pub commit_line : Reply → List ℕ
commit_line (Committed version) = numbered (codes "commit") version
commit_line (Declined fault) = numbered (codes "refused") fault.change ++ 32 ∷ refusal_name fault.reason
commit_line _ = []

abbrev pub tick_line : Reply → List ℕ
tick_line (Ticked count) = numbered (codes "tick") count
tick_line _ = []

abbrev pub take_line : Reply → List ℕ
take_line (Taken job) = job_line job
take_line _ = codes "none"

abbrev pub publish_line : ℕ → Reply → List ℕ
publish_line job (Published version) = numbered (codes "published") job ++ numbered (codes " version") version
publish_line job _ = numbered (codes "not open") job

abbrev pub abandon_line : ℕ → Reply → List ℕ
abandon_line job Abandoned = numbered (codes "abandoned") job
abandon_line job _ = numbered (codes "not open") job

abbrev pub drain_line : ℕ → Reply → List ℕ
drain_line c (Sent text) = numbered (codes "sent") c ++ 32 ∷ text
drain_line c (Done r) = numbered (codes "done") c ++ 32 ∷ close_text r
drain_line c ConnectionUnknown = numbered (codes "unknown") c
drain_line c _ = numbered (codes "empty") c

abbrev pub report_or_none : Reply → List ℕ
report_or_none (Reported c) = report_line c
report_or_none _ = []

abbrev pub first_line : Event → Reply → List ℕ
first_line (Connect c) reply = connection_line (codes "open") c reply
first_line (Receive c message) reply = connection_line (codes "recv") c reply
first_line (Binary c) reply = connection_line (codes "recv") c reply
first_line (Timeout c) reply = connection_line (codes "timeout") c reply
first_line (Gone c) reply = connection_line (codes "gone") c reply
first_line (Commit tx) reply = commit_line reply
first_line Tick reply = tick_line reply
first_line Take reply = take_line reply
first_line (Publish job) reply = publish_line job reply
first_line (Abandon job) reply = abandon_line job reply
first_line (Drain c) reply = drain_line c reply
first_line Report reply = report_or_none reply
first_line Skip reply = codes "skip"

-- a line for each queued text, and then one for each close
abbrev pub queued_line : Queued → List ℕ
queued_line q = numbered (codes ">") q.conn ++ 32 ∷ q.text ++ 10 ∷ []

abbrev pub close_line : Close → List ℕ
close_line c = numbered (codes "!") c.connection ++ 32 ∷ close_text c.reason ++ 10 ∷ []

abbrev pub transcript : Event → Step → List ℕ
transcript e s = first_line e s.reply ++ 10 ∷ flat_map queued_line s.queued ++ flat_map close_line s.closed

-- a state, and the transcript on the way to it
pub record Reached : Type 0 where
  pub state : State
  pub text : List ℕ

abbrev pub goes : Event → Step → Reached
goes e s = record { state = s.state; text = transcript e s }

abbrev pub goes_on : Reached → (State → Reached) → Reached
goes_on first more = record { state = (more first.state).state; text = first.text ++ (more first.state).text }

-- A take, and the publication of the taken job, whose number is that of all jobs taken.
abbrev pub take_and_publish : Metadata → State → Reached
take_and_publish meta s = goes_on (goes Take (happens meta s Take))
    (λ t. goes (Publish t.jobs_made) (happens meta t (Publish t.jobs_made)))

-- takes and publications for as long as somebody is due, but no more than so often
abbrev pub publish_due : Metadata → ℕ → State → List ℕ → Reached
publish_due meta zero s due = record { state = s; text = [] }
publish_due meta (suc n) s [] = record { state = s; text = [] }
publish_due meta (suc n) s (d ∷ due) = goes_on (take_and_publish meta s) (λ t. publish_due meta n t t.due)

-- A tick, and then takes and publications for as long as somebody is due. Each take leaves fewer due, so it is done
-- after as many as were due.
abbrev pub poll : Metadata → State → Reached
poll meta s = goes_on (goes Tick (happens meta s Tick)) (λ t. publish_due meta (length t.due) t t.due)
