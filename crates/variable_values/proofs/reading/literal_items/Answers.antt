use Rattle.std.proofs.Common.{◌≡◌, ◌∙◌, ap, sym, ◌+◌, ◌∷◌, map, drop, Some, arith}
use Rattle.std.specs.Prelude.{option_and_then}
use Rattle.query_model.specs.Names.{literal}
use Rattle.query_model.specs.Variables.{item_value, item_values}
use Rattle.variable_values.proofs.ListRules.{after_items, item_read, next_is}
use Rattle.variable_values.proofs.reading.literal_items.Goals as goal

pub loop-item-preserved : goal.loop-item-preserved
loop-item-preserved c =
    let i = c.loop-item.item-index in
    let items = c.args.items.now in
    let item = c.item-item.result in
    let at : drop i items ≡ item ∷ drop (i + 1) items =
    next_is items i item (omega arith) c.item-item.is in
    let value : option_and_then (item_value c.args.type_) (literal item) ≡ Some c.in-Some.value =
    sym c.in_ok-value.ensures ∙ c.in-Some.is in
    c.loop-item.invariant
    ∙ ap (λ gs. after_items c.loop-item.values.items (item_values c.args.type_ (map literal gs))) at
    ∙ item_read c.args.type_ c.loop-item.values.items (literal item) (map literal (drop (i + 1) items)) c.in-Some.value
    value
    ∙ ap (λ vs. after_items vs (item_values c.args.type_ (map literal (drop (i + 1) items)))) (sym c.in_ok-push.ensures.items)
