use Rattle.role_fields.proofs.Suffixes.{stripped}
use Rattle.role_fields.proofs.root_fields.before.Goals as goal

pub returns : goal.returns
returns c = stripped c.args.end.now c.args.text.now c.strip_suffix.result c.strip_suffix.ensures.cases
