use Rattle.std.proofs.Common.{◌≡◌, map, drop}
use Rattle.std.specs.Cmp.Lexicographic.{pointwise}
use Rattle.role_model.specs.MetadataNames.{are_one_kind, kind_in, columns_by}
use Rattle.std.specs.Option.{option_copied}
use Rattle.metadata_read.proofs.faults.kinds_agree.Given as goal

abbrev pub invariant-loop-i : goal.invariant-loop-i
invariant-loop-i l = pointwise are_one_kind (map (kind_in l.columns) (drop l.i l.from)) (map (kind_in (columns_by (option_copied l.target))) (drop l.i l.to)) ≡ pointwise are_one_kind (map (kind_in l.columns) l.from) (map (kind_in (columns_by (option_copied l.target))) l.to)
