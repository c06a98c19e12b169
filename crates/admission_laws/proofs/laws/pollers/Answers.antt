use Rattle.admission_laws.proofs.SharedPlans.{pollers_have_one_plan}
use Rattle.admission_laws.proofs.laws.pollers.Goals as goal

pub returns : goal.returns
returns c = record { plan = pollers_have_one_plan }
