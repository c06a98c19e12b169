use Rattle.std.proofs.Common.{◌≡◌}
use Rattle.request_model.specs.Selection.{collecting, spreading}
use Rattle.gql_flat.specs.Collecting.{of_stack, stack_weight}
use Rattle.gql_flat.proofs.collecting.collect.Given as goal

-- what waits adds the rest
abbrev pub invariant-loop-frame : goal.invariant-loop-frame
invariant-loop-frame l =
    let s = l.scope in
    of_stack s l.stack.items l.found ≡ collecting s (spreading s l.depth) l.set l.fn.found

abbrev pub decreases-loop-frame : goal.decreases-loop-frame
decreases-loop-frame l = stack_weight l.scope.fragments l.stack.items
