use Rattle.std.proofs.Common.{◌≡◌, [], drop, is_none}
use Rattle.std.specs.List.{list_any}
use Rattle.role_model.specs.JsonFilters.{filter_of}
use Rattle.role_model.specs.MetadataNames.{json_of}
use Rattle.metadata_read.proofs.faults.permissions_have_no_filter.Given as goal

abbrev pub invariant-loop-permission : goal.invariant-loop-permission
invariant-loop-permission l = list_any (λ p. is_none (filter_of l.columns [] (json_of p.filter))) (drop l.permission-index l.select) ≡ list_any (λ p. is_none (filter_of l.columns [] (json_of p.filter))) l.select
