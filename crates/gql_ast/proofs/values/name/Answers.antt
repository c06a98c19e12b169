use Rattle.gql_ast.proofs.OneLexeme.{took_name, stops_name}
use Rattle.gql_ast.proofs.values.name.Goals as goal

pub returns-in_ok-of-in-Some-clause-took : goal.returns-in_ok-of-in-Some-clause-took
returns-in_ok-of-in-Some-clause-took c = rw c.in_ok-of-in-Some.ensures (took_name _ _ _ c.in-Some.ensures)

pub returns-in-None-clause-stops : goal.returns-in-None-clause-stops
returns-in-None-clause-stops c _ = stops_name _ _ c.in-None.ensures
