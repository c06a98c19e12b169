-- What the replies of the hub's calls say. This project's own.
use Rattle.std.specs.Prelude.{◌≡◌, ℕ, ◌+◌, Bool, true, false, Option, Some, None, List, [], ◌∷◌, ◌++◌}
use Rattle.wire_model.specs.declared.close.CloseReason.{CloseReason}
use Rattle.data_model.specs.declared.transaction.TxChange.{TxChange}
use Rattle.machine.specs.State.{Event, Commit, Take, Publish, Abandon, Drain, Close, ConnectionKnown, ConnectionUnknown, Did, Committed, Declined, Nobody, Taken, NotOpen, Published, Abandoned, Sent, Empty, Done}
use Rattle.hub_model.specs.Kept.{Kept}
use Rattle.hub_model.specs.Jobs.{job_of, Fits, JobOf, AnswersOf}
use Rattle.hub_model.specs.Stands.{StandsFor, Happened, Does}
use Rattle.hub_model.specs.declared.reply.ConnReply.{ConnReply}
use Rattle.hub_model.specs.declared.reply.ConnReply.TheVariants as conn
use Rattle.hub_model.specs.declared.reply.CommitReply.{CommitReply}
use Rattle.hub_model.specs.declared.reply.CommitReply.TheVariants as commit
use Rattle.hub_model.specs.declared.reply.DrainReply.{DrainReply}
use Rattle.hub_model.specs.declared.reply.DrainReply.TheVariants as drain
use Rattle.hub_model.specs.declared.reply.PublishReply.{PublishReply}
use Rattle.hub_model.specs.declared.reply.PublishReply.TheVariants as publish
use Rattle.hub_model.specs.declared.job.Job.{Job}
use Rattle.hub_model.specs.declared.job.Answers.{Answers}

-- the close of a connection by an event, if it closed
abbrev pub closes_of : ℕ → Option CloseReason → List Close
closes_of c (Some reason) = record { connection = c; reason = reason } ∷ []
closes_of c None = []

-- an event of a connection
abbrev pub ConnAnswers : Kept → Kept → ℕ → Event → ConnReply → Type 0
ConnAnswers k k' c e (conn.Did effect) = Does k k' e Did effect.queued (closes_of c effect.closed)
ConnAnswers k k' c e conn.ConnKnown = Does k k' e ConnectionKnown [] []
ConnAnswers k k' c e conn.ConnUnknown = Does k k' e ConnectionUnknown [] []

-- a transaction
abbrev pub CommitAnswers : Kept → Kept → List TxChange → CommitReply → Type 0
CommitAnswers k k' tx (commit.Committed version) = Does k k' (Commit tx) (Committed version) [] []
CommitAnswers k k' tx (commit.Refused fault) = Does k k' (Commit tx) (Declined fault) [] []

-- the draining of a queue
abbrev pub DrainAnswers : Kept → Kept → ℕ → DrainReply → Type 0
DrainAnswers k k' c drain.ConnUnknown = Does k k' (Drain c) ConnectionUnknown [] []
DrainAnswers k k' c (drain.Sent text) = Does k k' (Drain c) (Sent text) [] []
DrainAnswers k k' c drain.Empty = Does k k' (Drain c) Empty [] []
DrainAnswers k k' c (drain.Done reason) = Does k k' (Drain c) (Done reason) [] []

-- a job that was taken, after a history that the hub stood for
pub record TookJob (k k' : Kept) (job : Job) : Type 0 where
  pub does : Does k k' Take (Taken (job_of job)) [] []
  pub is_job : (h : List Event) → StandsFor k h → JobOf k.meta job (h ++ Take ∷ [])
  pub fits : Fits job

-- the job that was taken, or nobody was due
abbrev pub TakeAnswers : Kept → Kept → Option Job → Type 0
TakeAnswers k k' None = Does k k' Take Nobody [] []
TakeAnswers k k' (Some job) = TookJob k k' job

-- The publication of answers. Those of a job that is open are told, where they are what its members asked for; those of
-- any other change nothing.
abbrev pub PublishAnswers : Kept → Kept → Answers → PublishReply → Type 0
PublishAnswers k k' answers publish.NotOpen = Does k k' (Publish answers.number) NotOpen [] []
PublishAnswers k k' answers (publish.Published queued) =
    (k'.meta ≡ k.meta) × (k'.events ≡ k.events + 1)
    × ((h : List Event) → StandsFor k h → (a : AnswersOf k.meta answers h) →
    Happened k k' h (Publish answers.number) (Published a.taking.job.version) queued [])

-- an open job was abandoned, or the number isn't that of one
abbrev pub AbandonAnswers : Kept → Kept → ℕ → Bool → Type 0
AbandonAnswers k k' number true = Does k k' (Abandon number) Abandoned [] []
AbandonAnswers k k' number false = Does k k' (Abandon number) NotOpen [] []
