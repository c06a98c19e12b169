use Rattle.std.proofs.Common.{◌≡◌, ◌++◌, map, drop}
use Rattle.std.specs.List.{filter_map}
use Rattle.request_model.specs.Selection as spec
use Rattle.gql_flat.proofs.flattening.operation_names.Given as goal

abbrev pub invariant-loop-operation : goal.invariant-loop-operation
invariant-loop-operation l = map (λ n. n.now) l.names.items
    ++ filter_map (λ (o : spec.Operation). o.name) (drop l.operation-index l.operations)
    ≡ filter_map (λ (o : spec.Operation). o.name) l.operations
