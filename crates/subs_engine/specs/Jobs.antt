-- What takes and publications of jobs are answered with. This project's own.
use Rattle.std.specs.Prelude.{ℕ, Option, Some, None, List, []}
use Rattle.role_model.specs.declared.metadata.Metadata.{Metadata}
use Rattle.machine.specs.State as machine
use Rattle.machine.specs.State.{Event}
use Rattle.hub_model.specs.declared.job.Job.{Job}
use Rattle.hub_model.specs.declared.reply.PublishReply.{PublishReply}
use Rattle.hub_model.specs.declared.reply.PublishReply.TheVariants as publish
use Rattle.hub_model.specs.Jobs.{job_of, Fits, JobOf}
use Rattle.subs_engine.specs.Calls.{Answer, answer, plain}

abbrev pub take_answer : Option Job → Answer
take_answer None = plain machine.Nobody
take_answer (Some job) = plain (machine.Taken (job_of job))

-- a job is one of a take of the history, and it can be evaluated
pub record IsJob (meta : Metadata) (job : Job) (h : List Event) : Type 0 where
  pub is : JobOf meta job h
  pub fits : Fits job

abbrev pub IfJob : Metadata → Option Job → List Event → Type 0
IfJob meta None h = Unit {0}
IfJob meta (Some job) h = IsJob meta job h

-- a publication that is answered so has the property
abbrev pub Publishes : PublishReply → (Answer → Type 0) → Type 0
Publishes publish.NotOpen K = K (plain machine.NotOpen)
Publishes (publish.Published queued) K = (version : ℕ) × K (answer (machine.Published version) queued [])
