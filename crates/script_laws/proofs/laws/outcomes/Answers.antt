use Rattle.script_laws.proofs.SameOutcome.{runs_agree, outcomes_agree}
use Rattle.script_laws.proofs.SomeOutcome.{has_run, has_outcome}
use Rattle.script_laws.proofs.laws.outcomes.Goals as goal

pub returns : goal.returns
returns c = record { runs = runs_agree; agree = outcomes_agree; some_run = has_run; some = has_outcome }
