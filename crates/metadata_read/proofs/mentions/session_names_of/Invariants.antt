use Rattle.std.proofs.Common.{◌≡◌, drop}
use Rattle.std.specs.List.{fold, flat_map}
use Rattle.role_model.specs.JsonFilters.{with_text, mentions}
use Rattle.role_model.specs.MetadataNames.{json_of}
use Rattle.metadata_read.specs.Held.{names_held}
use Rattle.metadata_read.proofs.mentions.session_names_of.Given as goal

abbrev pub invariant-loop-held : goal.invariant-loop-held
invariant-loop-held l = fold with_text l.names (flat_map (λ h. mentions (json_of h.permission.filter)) (drop l.held-index l.own)) ≡ names_held l.own
