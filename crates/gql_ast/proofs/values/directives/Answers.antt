use Rattle.std.proofs.Common.{[], arith}
use Rattle.request_model.specs.Grammar.{no_more}
use Rattle.gql_ast.proofs.Steps.{passed_on}
use Rattle.gql_ast.proofs.Loops.{longer, stopped}
use Rattle.gql_ast.proofs.ValueRules as l
use Rattle.gql_ast.proofs.values.directives.Goals as goal

pub returns-in_err-directive-clause-stops : goal.returns-in_err-directive-clause-stops
returns-in_err-directive-clause-stops c h =
    stopped (l.directives_list c.args.constant) [] (λ s. no_more) c.each-test.ensures c.each.invariant.front (c.in_err-directive.ensures.stops (passed_on _ _ c.from_residual.ensures.1 h))

pub each-preserved : goal.each-preserved
each-preserved c = record {
  front = rw c.in_ok-add.ensures (longer (l.directives_list c.args.constant) c.each-test.ensures c.each.invariant.front c.in_ok-directive.ensures.took);
  left = omega (arith, c.in_ok-directive.ensures.shrinks);
}

pub returns-clause-took : goal.returns-clause-took
returns-clause-took c = l.directives_end c.args.constant c.each-test.ensures c.each.invariant.front
