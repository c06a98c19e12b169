use Rattle.gql_ast.proofs.Steps.{took_as, stops_as, passed_on}
use Rattle.gql_ast.proofs.DefinitionRules as l
use Rattle.gql_ast.proofs.definitions.shorthand.Goals as goal

pub returns-in_err-select-clause-stops : goal.returns-in_err-select-clause-stops
returns-in_err-select-clause-stops c h = stops_as l.shorthand_rule c.requires (c.in_err-select.ensures.stops (passed_on _ _ c.from_residual.ensures.1 h))

pub returns-clause-took : goal.returns-clause-took
returns-clause-took c = rw (c.new.ensures, c.new-2.ensures) (took_as l.shorthand_rule c.requires c.in_ok-select.ensures.took)
