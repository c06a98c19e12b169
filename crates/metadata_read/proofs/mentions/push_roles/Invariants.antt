use Rattle.std.proofs.Common.{◌≡◌, drop, map}
use Rattle.std.specs.List.{fold}
use Rattle.role_model.specs.JsonFilters.{with_text}
use Rattle.metadata_read.proofs.mentions.push_roles.Given as goal

abbrev pub invariant-loop-permission : goal.invariant-loop-permission
invariant-loop-permission l = fold with_text l.names (map (λ p. p.role) (drop l.permission-index l.select)) ≡ fold with_text l.fn.names (map (λ p. p.role) l.select)
