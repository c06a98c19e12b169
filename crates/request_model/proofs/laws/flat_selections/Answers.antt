use Rattle.request_model.proofs.FirstFault.{flattens_once}
use Rattle.request_model.proofs.laws.flat_selections.Goals as goal

pub returns : goal.returns
returns c = record { once = flattens_once }
