use Rattle.std.proofs.Common.{◌≡◌, ◌++◌, drop}
use Rattle.std.specs.List.{filter_map}
use Rattle.request_model.specs.Selection.{operation_of}
use Rattle.gql_scope.proofs.operation.operations_of.Given as goal

abbrev pub invariant-loop-definition : goal.invariant-loop-definition
invariant-loop-definition l = l.found.items ++ filter_map operation_of (drop l.definition-index l.document.definitions)
    ≡ filter_map operation_of l.document.definitions
