use Rattle.admission_laws.proofs.OneAnswer.{admits_once, admitted_or_refused}
use Rattle.admission_laws.proofs.EachAnswered.{is_answered}
use Rattle.admission_laws.proofs.Selected.{answered_by_selection}
use Rattle.admission_laws.proofs.laws.requests.Goals as goal

pub returns : goal.returns
returns c = record { once = admits_once; either = admitted_or_refused; answered = is_answered; by_selection = answered_by_selection }
