use Rattle.std.proofs.Common.{◌≡◌, ◌++◌, map, drop}
use Rattle.request_model.specs.Selection.{directives_in}
use Rattle.gql_scope.proofs.spreads.+directive.Given as goal

abbrev pub invariant-put_directives-loop-selection : goal.invariant-put_directives-loop-selection
invariant-put_directives-loop-selection l = map (λ n. n.now) l.found.items
    ++ directives_in (drop l.selection-index l.set) ≡ map (λ n. n.now) l.fn.found.items ++ directives_in l.set
