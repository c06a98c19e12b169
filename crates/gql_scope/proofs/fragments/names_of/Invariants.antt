use Rattle.std.proofs.Common.{◌≡◌, ◌++◌, map, drop}
use Rattle.request_model.specs.Selection as spec
use Rattle.gql_scope.proofs.fragments.names_of.Given as goal

abbrev pub invariant-loop-fragment : goal.invariant-loop-fragment
invariant-loop-fragment l = l.names ++ map (λ (f : spec.Fragment). f.name) (drop l.fragment-index l.fragments)
    ≡ map (λ (f : spec.Fragment). f.name) l.fragments
