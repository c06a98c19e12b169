use Rattle.result_laws.proofs.PlannedResults.{planned_is_result}
use Rattle.result_laws.proofs.laws.results.Goals as goal

pub returns : goal.returns
returns c = record { planned = planned_is_result }
