-- Which jobs and which answers are those of a take. This project's own.
use Rattle.std.specs.Prelude.{◌≡◌, ◌-◌, Option, Some, List, ◌++◌, map, slice_get}
use Rattle.std.specs.Option.{option_map}
use Rattle.std.specs.List.{AllByRecursion}
use Rattle.data_model.specs.Rows.{Database}
use Rattle.role_model.specs.declared.metadata.Metadata.{Metadata}
use Rattle.plan_model.specs.Outcomes.{Outcome}
use Rattle.plan_model.specs.Planned.{planned}
use Rattle.plan_model.specs.PlanFits.{PlanFits}
use Rattle.plan_model.specs.BindingFits.{BindingFits}
use Rattle.query_model.specs.Results.{result}
use Rattle.machine.specs.State as machine
use Rattle.machine.specs.State.{Subscription, Event}
use Rattle.machine.specs.Batches.{subscription_at}
use Rattle.machine.specs.Publication.{database_of}
use Rattle.run_laws.specs.Takings.{Taking, takings}
use Rattle.batch_rel.specs.declared.relation.RelRow.{RelRow}
use Rattle.hub_model.specs.declared.job.Job.{Job}
use Rattle.hub_model.specs.declared.job.Answers.{Answers}
use Rattle.hub_model.specs.Kept.{member_of}

abbrev pub job_of : Job → machine.Job
job_of job = record { number = job.number; version = job.version; members = map member_of job.members }

-- the result of a member's own query and cursor on a database
abbrev pub result_for : Metadata → Database → List Subscription → machine.Member → Option Outcome
result_for meta db subs m =
    option_map (λ (sub : Subscription). result meta sub.query sub.cursor db) (subscription_at m.subscription subs)

-- There is an outcome for each cohort, in order, and each member's own result is that of its cohort.
abbrev pub AreResults : Metadata → Database → List Subscription → List Outcome → List machine.Member → Type 0
AreResults meta db subs outcomes members =
    AllByRecursion (λ (m : machine.Member). slice_get outcomes (m.cohort - 1) ≡ result_for meta db subs m) members

-- what the evaluation of a job gives: the plan's outcome for the binding of each of its cohorts
abbrev pub evaluated : Job → List Outcome
evaluated job = map (λ (row : RelRow). planned job.plan row.binding job.snapshot.tables) job.relation

-- a job can be evaluated: its plan fits its snapshot's catalog, and each binding fits the plan
pub record Fits (job : Job) : Type 0 where
  pub plan : PlanFits job.snapshot.catalog job.plan
  pub bindings : AllByRecursion (λ (row : RelRow). BindingFits job.plan row.binding) job.relation

-- the job is that of a take, its snapshot is the database of its version, and it asks for what its members asked for then
pub record JobOf (meta : Metadata) (job : Job) (h : List Event) : Type 0 where
  pub taking : Taking
  pub taken : slice_get (takings meta h) (job.number - 1) ≡ Some taking
  pub job_is : job_of job ≡ taking.job
  pub catalog : job.snapshot.catalog ≡ meta.catalog
  pub snapshot : job.snapshot.tables ≡ database_of meta taking.state taking.job
  pub results : AreResults meta (database_of meta taking.state taking.job) taking.state.subscriptions (evaluated job)
      taking.job.members

-- the answers have, for the job of a take, the results that its members asked for then
pub record AnswersOf (meta : Metadata) (answers : Answers) (h : List Event) : Type 0 where
  pub taking : Taking
  pub taken : slice_get (takings meta h) (answers.number - 1) ≡ Some taking
  pub number : taking.job.number ≡ answers.number
  pub results : AreResults meta (database_of meta taking.state taking.job) taking.state.subscriptions answers.outcomes
      taking.job.members

-- ---- what a take gave stays so, however long the history goes on

abbrev pub JobsStay : Metadata → Type 0
JobsStay meta = (job : Job) (h more : List Event) → JobOf meta job h → JobOf meta job (h ++ more)

abbrev pub AnswersStay : Metadata → Type 0
AnswersStay meta = (answers : Answers) (h more : List Event) → AnswersOf meta answers h →
    AnswersOf meta answers (h ++ more)
