use Rattle.machine.specs.Script.{outcome}
use Rattle.subs_run.proofs.Outcomes.{answered_by}
use Rattle.subs_run.proofs.script.run_script.Goals as goal

pub returns-clause-answered : goal.returns-clause-answered
returns-clause-answered g c s k all told meant reads none =
    answered_by c.run_from.result (outcome meant all).fault
    (c.run_from.ensures.closed.fault all told meant reads) none (c.run_from.ensures.source_steady s)
    (c.run_from.ensures.sink_steady k)
