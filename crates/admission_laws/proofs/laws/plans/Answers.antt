use Rattle.admission_laws.proofs.PlansThere.{plans_are_there}
use Rattle.admission_laws.proofs.PlansThatFit.{plans_fit}
use Rattle.admission_laws.proofs.laws.plans.Goals as goal

pub returns : goal.returns
returns c = record { there = plans_are_there; fit = plans_fit }
