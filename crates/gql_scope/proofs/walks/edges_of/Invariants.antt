use Rattle.std.proofs.Common.{◌≡◌, ◌++◌, map, drop}
use Rattle.request_model.specs.Selection.{Fragment}
use Rattle.gql_scope.specs.Walks.{targets_of}
use Rattle.gql_scope.proofs.walks.edges_of.Given as goal

abbrev pub invariant-loop-fragment : goal.invariant-loop-fragment
invariant-loop-fragment l = l.edges.items ++ map (λ (f : Fragment). targets_of l.fragments f.select)
    (drop l.fragment-index l.fragments) ≡ map (λ (f : Fragment). targets_of l.fragments f.select) l.fragments
