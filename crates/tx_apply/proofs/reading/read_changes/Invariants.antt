use Rattle.std.proofs.Common.{◌≡◌, ◌++◌, drop, option_map}
use Rattle.serde_json.specs.View.{items_view}
use Rattle.data_model.specs.Form.{changes_from}
use Rattle.tx_apply.proofs.reading.read_changes.Given as goal

abbrev pub invariant-loop-value : goal.invariant-loop-value
invariant-loop-value l = option_map (λ rest. l.tx ++ rest) (changes_from (items_view (drop l.value-index l.values.items))) ≡ changes_from (items_view l.values.items)
