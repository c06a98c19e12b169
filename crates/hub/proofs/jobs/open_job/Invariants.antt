use Rattle.std.proofs.Common.{◌≡◌, drop}
use Rattle.hub.specs.Parts.{job_in}
use Rattle.hub.proofs.jobs.open_job.Given as goal

abbrev pub invariant-loop-job : goal.invariant-loop-job
invariant-loop-job l = job_in l.number (drop l.job-index l.jobs) ≡ job_in l.number l.jobs
