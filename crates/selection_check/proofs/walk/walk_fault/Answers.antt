use Rattle.std.proofs.Common.{arith}
use Rattle.std.proofs.lemmas.Grind.{common_steps}
use Rattle.selection_check.proofs.walk.walk_fault.Goals as goal

pub returns-in-Some : goal.returns-in-Some
returns-in-Some c =
    let types = c.conditions_fault.ensures c.args.view.now in
    grind (arith, common_steps, types)

pub returns : goal.returns
returns c =
    let types = c.conditions_fault.ensures c.args.view.now in
    grind (arith, common_steps, types)
