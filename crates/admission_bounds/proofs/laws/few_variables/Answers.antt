use Rattle.admission_bounds.proofs.FewVariables.{variables_are_few}
use Rattle.admission_bounds.proofs.laws.few_variables.Goals as goal

pub returns : goal.returns
returns c = record { few = variables_are_few }
