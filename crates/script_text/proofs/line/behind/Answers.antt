use Rattle.script_text.proofs.Lines.{stripped}
use Rattle.script_text.proofs.line.behind.Goals as goal

pub returns : goal.returns
returns c = stripped c.args.start.now c.args.text.now c.strip_prefix.result c.strip_prefix.ensures.cases
