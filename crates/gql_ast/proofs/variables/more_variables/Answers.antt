use Rattle.std.proofs.Common.{◌∷◌, [], length, ap, arith}
use Rattle.request_model.specs.Grammar.{Punct, no_more}
use Rattle.gql_ast.proofs.Steps.{took_from, stops_from, passed_on}
use Rattle.gql_ast.proofs.Loops.{longer, stopped}
use Rattle.gql_ast.proofs.VariableRules as l
use Rattle.gql_ast.proofs.variables.more_variables.Goals as goal

pub returns-in_err-variable-clause-stops : goal.returns-in_err-variable-clause-stops
returns-in_err-variable-clause-stops c h =
    stopped l.variables_list (Punct 41 ∷ []) (λ s. no_more) c.each-test.ensures.1 c.each.invariant.front (stops_from c.each-test.ensures.0 (c.in_err-variable.ensures.stops (passed_on _ _ c.from_residual.ensures.1 h)))

pub each-preserved : goal.each-preserved
each-preserved c = record {
  front = rw c.in_ok-add.ensures (longer l.variables_list c.each-test.ensures.1 c.each.invariant.front (took_from c.each-test.ensures.0 c.in_ok-variable.ensures.took));
  left = omega (arith, c.in_ok-variable.ensures.shrinks, ap length c.each-test.ensures.0);
}

pub returns-clause-took : goal.returns-clause-took
returns-clause-took c = l.variables_end c.each-test.ensures c.each.invariant.front
