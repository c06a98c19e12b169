use Rattle.std.proofs.Common.{◌≡◌, map, drop, not}
use Rattle.std.specs.List.{list_any}
use Rattle.role_model.specs.MetadataNames.{is_own_name}
use Rattle.metadata_read.proofs.faults.has_a_bad_link_name.Given as goal

abbrev pub invariant-loop-link : goal.invariant-loop-link
invariant-loop-link l = list_any (λ name. not (is_own_name name)) (map (λ k. k.name) (drop l.link-index l.links)) ≡ list_any (λ name. not (is_own_name name)) (map (λ k. k.name) l.links)
