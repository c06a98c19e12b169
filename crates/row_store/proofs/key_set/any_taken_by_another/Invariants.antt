use Rattle.std.proofs.Common.{◌≡◌, ◌&&◌, not, drop}
use Rattle.std.specs.List.{list_any}
use Rattle.std.specs.BTreeSet.{contains}
use Rattle.row_store.specs.UniqueKeys.{key_order, has_value}
use Rattle.row_store.proofs.key_set.any_taken_by_another.Given as goal

abbrev pub invariant-loop-key : goal.invariant-loop-key
invariant-loop-key l = list_any (λ key. contains key_order l.set key && not (has_value key l.own)) (drop l.key-index l.keys) ≡ list_any (λ key. contains key_order l.set key && not (has_value key l.own)) l.keys
