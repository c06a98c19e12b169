use Rattle.std.proofs.Common.{◌≡◌, arith}
use Rattle.std.proofs.lemmas.Grind.{common_steps}
use Rattle.query_model.specs.ArgumentFaults.{missing_fault}
use Rattle.selection_check.specs.Told.{told}
use Rattle.selection_check.specs.Known.{required_by}
use Rattle.selection_check.proofs.walk.own_fault.Goals as goal

pub returns : goal.returns
returns c =
    let vars = c.args.vars.now in
    let view = c.args.view.now in
    let types = c.conditions_fault.ensures view in
    let missing : told c.missing_fault.result ≡ missing_fault vars view (required_by vars view c.args.table c.args.known) c.as_slice-2.result.now = c.missing_fault.ensures in
    grind (arith, common_steps, types, missing)
