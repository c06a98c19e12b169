use Rattle.std.proofs.Common.{◌≡◌, map, drop}
use Rattle.request_model.specs.Strings.{Text}
use Rattle.std.specs.Prelude.{is_none}
use Rattle.std.specs.List.{list_any}
use Rattle.request_model.specs.Selection.{fragment_named}
use Rattle.gql_scope.proofs.walks.some_unknown.Given as goal

abbrev pub invariant-loop-name : goal.invariant-loop-name
invariant-loop-name l = let unknown = λ (name : Text). is_none (fragment_named l.scope.fragments name) in
    list_any unknown (map (λ n. n.now) (drop l.name-index l.names)) ≡ list_any unknown (map (λ n. n.now) l.names)
