use Rattle.std.proofs.Common.{◌≡◌, map, take}
use Rattle.gql_flat.proofs.fields.copy_texts.Given as goal

abbrev pub invariant-loop-text : goal.invariant-loop-text
invariant-loop-text l = l.copy ≡ map (λ t. t.now) (take l.text-index l.texts)
