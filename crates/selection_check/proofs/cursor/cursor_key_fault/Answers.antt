use Rattle.std.proofs.Common.{arith}
use Rattle.std.proofs.lemmas.Grind.{common_steps}
use Rattle.selection_check.proofs.cursor.cursor_key_fault.Goals as goal

pub returns-then-is_ordering : goal.returns-then-is_ordering
returns-then-is_ordering c =
    let told = c.is_ordering.ensures c.args.view.now in
    grind (arith, common_steps, told)

pub returns-else-is_ordering : goal.returns-else-is_ordering
returns-else-is_ordering c =
    let told = c.is_ordering.ensures c.args.view.now in
    grind (arith, common_steps, told)
