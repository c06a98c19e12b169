use Rattle.gql_ast.proofs.DefinitionRules.{took_some_name, took_no_name}
use Rattle.gql_ast.proofs.definitions.maybe_name.Goals as goal

pub returns-in_ok-of-in-Some-clause-took : goal.returns-in_ok-of-in-Some-clause-took
returns-in_ok-of-in-Some-clause-took c = rw c.in_ok-of-in-Some.ensures (took_some_name c.in-Some.ensures)

pub returns-in-None-clause-took : goal.returns-in-None-clause-took
returns-in-None-clause-took c = took_no_name c.in-None.ensures
