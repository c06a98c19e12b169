use Rattle.std.proofs.Common.{◌≡◌, map, drop}
use Rattle.query_model.specs.Names.{literal}
use Rattle.query_model.specs.Variables.{item_values}
use Rattle.variable_values.proofs.ListRules.{after_items}
use Rattle.variable_values.proofs.reading.literal_items.Given as goal

abbrev pub invariant-loop-item : goal.invariant-loop-item
invariant-loop-item l =
    item_values l.type_ (map literal l.items)
    ≡ after_items l.values.items (item_values l.type_ (map literal (drop l.item-index l.items)))
