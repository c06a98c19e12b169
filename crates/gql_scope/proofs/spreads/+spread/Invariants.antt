use Rattle.std.proofs.Common.{◌≡◌, ◌++◌, map, drop}
use Rattle.request_model.specs.Selection.{spreads}
use Rattle.gql_scope.proofs.spreads.+spread.Given as goal

abbrev pub invariant-put_spreads-loop-selection : goal.invariant-put_spreads-loop-selection
invariant-put_spreads-loop-selection l = map (λ n. n.now) l.names.items ++ spreads (drop l.selection-index l.set)
    ≡ map (λ n. n.now) l.fn.names.items ++ spreads l.set
