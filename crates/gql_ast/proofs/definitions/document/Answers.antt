use Rattle.std.proofs.Common.{[]}
use Rattle.request_model.specs.Grammar.{no_more}
use Rattle.gql_ast.proofs.Steps.{took_as, stops_as, both, first, second, passed_on}
use Rattle.gql_ast.proofs.DefinitionRules as l
use Rattle.gql_ast.proofs.definitions.document.Goals as goal

pub returns-in_err-first-clause-stops : goal.returns-in_err-first-clause-stops
returns-in_err-first-clause-stops c h = stops_as l.document_rule tt (first (λ _ _ _ _ _. tt) [] [] (λ s. no_more) (c.in_err-first.ensures.stops (passed_on _ _ c.from_residual.ensures.1 h)))

pub returns-in_err-others-clause-stops : goal.returns-in_err-others-clause-stops
returns-in_err-others-clause-stops c h =
    stops_as l.document_rule tt (second (λ _ _ _ _ _. tt) c.in_ok-first.ensures.took (c.in_err-others.ensures.stops (passed_on _ _ c.from_residual-in_err-others.ensures.1 h)))

pub returns-clause-took : goal.returns-clause-took
returns-clause-took c = rw c.in_ok-definitions.ensures (took_as l.document_rule tt (both (λ _ _ _ _ _. tt) c.in_ok-first.ensures.took c.in_ok-others.ensures.took))
