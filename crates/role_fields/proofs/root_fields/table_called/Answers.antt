use Rattle.std.proofs.Common.{◌∙◌, sym}
use Rattle.role_fields.proofs.Suffixes.{called_so, called_nothing}
use Rattle.role_fields.proofs.root_fields.table_called.Goals as goal

pub returns-in-Some : goal.returns-in-Some
returns-in-Some c =
    c.table.ensures.value ∙ called_so c.args.view.now c.args.suffix.now c.args.name.now c.in-Some.table_name.now c.in-Some.ensures

pub returns-in-None : goal.returns-in-None
returns-in-None c = sym (called_nothing c.args.view.now c.args.suffix.now c.args.name.now c.in-None.ensures)
