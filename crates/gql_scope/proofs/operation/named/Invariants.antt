use Rattle.std.proofs.Common.{◌≡◌, drop}
use Rattle.std.specs.List.{find}
use Rattle.request_model.specs.Selection.{is_called}
use Rattle.gql_scope.proofs.operation.named.Given as goal

abbrev pub invariant-loop-operation : goal.invariant-loop-operation
invariant-loop-operation l = find (is_called l.name) (drop l.operation-index l.operations)
    ≡ find (is_called l.name) l.operations
