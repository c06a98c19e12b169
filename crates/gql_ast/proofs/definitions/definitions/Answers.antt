use Rattle.std.proofs.Common.{[], refl}
use Rattle.std.proofs.lemmas.Bool.{false≢true}
use Rattle.request_model.specs.Grammar.{no_more}
use Rattle.gql_ast.proofs.Steps.{passed_on}
use Rattle.gql_ast.proofs.Loops.{longer, stopped}
use Rattle.gql_ast.proofs.DefinitionRules as l
use Rattle.gql_ast.proofs.definitions.definitions.Goals as goal

pub returns-in_err-definition-clause-stops : goal.returns-in_err-definition-clause-stops
returns-in_err-definition-clause-stops c h =
    stopped l.definitions_list [] (λ s. no_more) (λ e. false≢true (c.each-test.ensures.1 e)) c.each.invariant (c.in_err-definition.ensures.stops (passed_on _ _ c.from_residual.ensures.1 h))

pub each-preserved : goal.each-preserved
each-preserved c = rw c.in_ok-add.ensures (longer l.definitions_list (λ e. false≢true (c.each-test.ensures.1 e)) c.each.invariant c.in_ok-definition.ensures.took)

pub returns-clause-took : goal.returns-clause-took
returns-clause-took c = l.definitions_end (c.each-test.ensures.0 refl) c.each.invariant
