use Rattle.std.proofs.Common.{length}
use Rattle.gql_ast.proofs.variables.+type_ref.Given as goal

abbrev pub decreases-type_ref : goal.decreases-type_ref
decreases-type_ref l = length l.tokens.now
