use Rattle.std.proofs.Common.{◌≡◌, drop}
use Rattle.request_model.specs.Selection.{Fragment}
use Rattle.gql_scope.specs.Walks.{fails, some_marked_fails}
use Rattle.gql_scope.proofs.walks.reach_fails.Given as goal

abbrev pub invariant-loop-index : goal.invariant-loop-index
invariant-loop-index l = let s = l.scope in let test = λ (f : Fragment). fails l.check s f.directives f.select in
    some_marked_fails test (drop l.index l.marks) (drop l.index s.fragments)
    ≡ some_marked_fails test l.marks s.fragments
