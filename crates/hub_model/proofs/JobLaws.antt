-- Jobs and answers stay those of their takes, and what the evaluation of a job gives are its answers.
use Rattle.std.proofs.Common.{◌≡◌, ◌∙◌, sym, ap, subst, ℕ, ◌-◌, List, ◌++◌, slice_get}
use Rattle.role_model.specs.declared.metadata.Metadata.{Metadata}
use Rattle.plan_model.specs.Outcomes.{Outcome}
use Rattle.machine.specs.State as machine
use Rattle.machine.specs.State.{Event}
use Rattle.machine.specs.Publication.{database_of}
use Rattle.run_laws.specs.Takings.{takings}
use Rattle.run_laws.proofs.Histories.{takings_stay}
use Rattle.hub_model.specs.declared.job.Job.{Job}
use Rattle.hub_model.specs.declared.job.Answers.{Answers}
use Rattle.hub_model.specs.Jobs.{AreResults, JobOf, AnswersOf, JobsStay, AnswersStay, evaluated}

pub jobs_stay : (meta : Metadata) → JobsStay meta
jobs_stay meta job h more j = record {
  taking = j.taking;
  taken = takings_stay meta h more (job.number - 1) j.taking j.taken;
  job_is = j.job_is;
  catalog = j.catalog;
  snapshot = j.snapshot;
  results = j.results;
}

pub answers_stay : (meta : Metadata) → AnswersStay meta
answers_stay meta answers h more a = record {
  taking = a.taking;
  taken = takings_stay meta h more (answers.number - 1) a.taking a.taken;
  number = a.number;
  results = a.results;
}

pub answers_of : (meta : Metadata) (job : Job) (answers : Answers) (h : List Event) → answers.number ≡ job.number →
    answers.outcomes ≡ evaluated job → JobOf meta job h → AnswersOf meta answers h
answers_of meta job answers h n o j = record {
  taking = j.taking;
  taken = ap (λ (number : ℕ). slice_get (takings meta h) (number - 1)) n ∙ j.taken;
  number = ap (λ (job : machine.Job). job.number) (sym j.job_is) ∙ sym n;
  results = subst (λ (outcomes : List Outcome). AreResults meta (database_of meta j.taking.state j.taking.job)
      j.taking.state.subscriptions outcomes j.taking.job.members) (sym o) j.results;
}
