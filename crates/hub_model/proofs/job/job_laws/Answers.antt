use Rattle.hub_model.proofs.JobLaws.{jobs_stay, answers_stay}
use Rattle.hub_model.proofs.job.job_laws.Goals as goal

pub returns-clause-jobs : goal.returns-clause-jobs
returns-clause-jobs c = jobs_stay

pub returns-clause-answers : goal.returns-clause-answers
returns-clause-answers c = answers_stay
