use Rattle.std.proofs.Common.{◌≡◌, ◌++◌, drop}
use Rattle.std.specs.List.{filter_map}
use Rattle.request_model.specs.Selection.{fragment_of}
use Rattle.gql_scope.proofs.operation.fragments_of.Given as goal

abbrev pub invariant-loop-definition : goal.invariant-loop-definition
invariant-loop-definition l = l.found.items ++ filter_map fragment_of (drop l.definition-index l.document.definitions)
    ≡ filter_map fragment_of l.document.definitions
