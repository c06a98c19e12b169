use Rattle.result_laws.proofs.SharedResults.{cohorts_have_one_result}
use Rattle.result_laws.proofs.laws.cohorts.Goals as goal

pub returns : goal.returns
returns c = record { result = cohorts_have_one_result }
