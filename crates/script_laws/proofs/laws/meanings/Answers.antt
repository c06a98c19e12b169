use Rattle.script_laws.proofs.OneMeaning.{selects_once, says_once}
use Rattle.script_laws.proofs.SomeMeaning.{is_meant}
use Rattle.script_laws.proofs.laws.meanings.Goals as goal

pub returns : goal.returns
returns c = record { selection = selects_once; once = says_once; some = is_meant }
