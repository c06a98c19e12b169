use Rattle.std.proofs.Common.{◌≡◌, drop}
use Rattle.serde_json.specs.View.{items_view}
use Rattle.query_model.specs.Variables.{item_values, json_items}
use Rattle.variable_values.proofs.ListRules.{after_items}
use Rattle.variable_values.proofs.reading.json_items.Given as goal

abbrev pub invariant-loop-item : goal.invariant-loop-item
invariant-loop-item l =
    item_values l.type_ (json_items (items_view l.items))
    ≡ after_items l.values.items (item_values l.type_ (json_items (items_view (drop l.item-index l.items))))
