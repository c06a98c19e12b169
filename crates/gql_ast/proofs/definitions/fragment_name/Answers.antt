use Rattle.std.proofs.Common.{sym, ap, ◌∙◌, ◌∷◌}
use Rattle.request_model.specs.Grammar.{Name}
use Rattle.gql_ast.proofs.DefinitionRules.{took_fragment_name, stops_on, stops_no_name}
use Rattle.gql_ast.proofs.definitions.fragment_name.Goals as goal

pub returns-then-is_word-clause-stops : goal.returns-then-is_word-clause-stops
returns-then-is_word-clause-stops c _ = stops_on c.if-is_word.ensures

pub returns-in_ok-of-in-Some-clause-took : goal.returns-in_ok-of-in-Some-clause-took
returns-in_ok-of-in-Some-clause-took c =
    rw c.in_ok-of-in-Some.ensures (took_fragment_name (λ e. c.if-is_word.ensures _ (c.in-Some.ensures ∙ ap (λ n. Name n ∷ c.name.new.self) e)) c.in-Some.ensures)

pub returns-in-None-clause-stops : goal.returns-in-None-clause-stops
returns-in-None-clause-stops c _ = stops_no_name c.in-None.ensures
