use Rattle.std.proofs.Common.{◌≡◌, Bool, true, false}
use Rattle.gql_ast.proofs.VariableRules.{strict_read}
use Rattle.gql_ast.proofs.variables.strict.Goals as goal

pub returns-clause-took : goal.returns-clause-took
returns-clause-took c = strict_read _ _ c.eat.result c.eat.ensures
