use Rattle.std.proofs.Common.{◌∷◌, []}
use Rattle.gql_ast.proofs.Steps.{took_as, stops_as, both, first, second, passed_on}
use Rattle.gql_ast.proofs.SelectionRules.{some_field, some_set_of, made_body}
use Rattle.gql_ast.proofs.DefinitionRules as l
use Rattle.gql_ast.proofs.definitions.operation.Goals as goal

pub returns-in_err-vars-clause-stops : goal.returns-in_err-vars-clause-stops
returns-in_err-vars-clause-stops c h w is =
    stops_as (l.operation_rule w _ is) tt (second l.after_name_first c.in_ok-name.ensures.took (first l.body_first some_set_of ([], some_field ∷ []) made_body (c.in_err-vars.ensures.stops (passed_on _ _ c.from_residual-in_err-vars.ensures.1 h))))

pub returns-in_err-directives-clause-stops : goal.returns-in_err-directives-clause-stops
returns-in_err-directives-clause-stops c h w is =
    stops_as (l.operation_rule w _ is) tt (second l.after_name_first c.in_ok-name.ensures.took (second l.body_first c.in_ok-vars.ensures.took (c.in_err-directives.ensures.stops (passed_on _ _ c.from_residual-in_err-directives.ensures.1 h))))

pub returns-clause-took : goal.returns-clause-took
returns-clause-took c w is = took_as (l.operation_rule w _ is) tt (both l.after_name_first c.in_ok-name.ensures.took (both l.body_first c.in_ok-vars.ensures.took c.in_ok-directives.ensures.took))
