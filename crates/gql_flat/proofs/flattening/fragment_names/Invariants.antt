use Rattle.std.proofs.Common.{◌≡◌, ◌++◌, map, drop}
use Rattle.request_model.specs.Selection as spec
use Rattle.gql_flat.proofs.flattening.fragment_names.Given as goal

abbrev pub invariant-loop-fragment : goal.invariant-loop-fragment
invariant-loop-fragment l = map (λ n. n.now) l.names.items
    ++ map (λ (f : spec.Fragment). f.name) (drop l.fragment-index l.fragments)
    ≡ map (λ (f : spec.Fragment). f.name) l.fragments
