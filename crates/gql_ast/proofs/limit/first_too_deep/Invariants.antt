use Rattle.std.proofs.Common.{◌≡◌, ◌≤◌, ◌+◌, drop}
use Rattle.request_model.specs.Strings.{Text}
use Rattle.request_model.specs.Place.{lexemes_of}
use Rattle.gql_ast.specs.Limit.{deep_from}
use Rattle.gql_ast.proofs.limit.first_too_deep.Given as goal

abbrev pub invariant-loop-i : goal.invariant-loop-i
invariant-loop-i l = record { so_far : (text : Text) → l.i + deep_from l.level (lexemes_of text (drop l.i l.tokens)) ≡ deep_from 0 (lexemes_of text l.tokens); level : l.level ≤ 64 }
