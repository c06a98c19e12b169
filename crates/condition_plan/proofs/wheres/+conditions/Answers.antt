use Rattle.std.proofs.Common.{◌∙◌, sym}
use Rattle.query_model.specs.Plans.{operands}
use Rattle.condition_plan.proofs.Forms.{one_of_other, many_of_other, key_of_other}
use Rattle.condition_plan.proofs.wheres.+conditions.Goals as goal

pub condition-returns-in_default : goal.condition-returns-in_default
condition-returns-in_default t c =
    let p = c.args.places.now in
    let r = operands p.view.now p.names.now p.slots.now in
    c.always.ensures ∙ sym (one_of_other p.view.now r c.args.value.now c.args.table c.in_default.not-Object)

pub conditions-returns-in_default : goal.conditions-returns-in_default
conditions-returns-in_default t c =
    let p = c.args.places.now in
    let r = operands p.view.now p.names.now p.slots.now in
    let e = many_of_other p.view.now r c.args.value.now c.args.table c.in_default.not-Many c.in_default.not-Object in
    let a = c.always.ensures in
    rw (e, ← a) c.alone-in_default.ensures

pub key-returns-in_default : goal.key-returns-in_default
key-returns-in_default t c =
    let p = c.args.places.now in
    let r = operands p.view.now p.names.now p.slots.now in
    let n = c.as_str.ensures in
    let e = key_of_other p.view.now r c.args.pair.now c.args.table (λ h. c.in_default.not-text (n ∙ h))
    (λ h. c.in_default.not-text-2 (n ∙ h)) (λ h. c.in_default.not-text-3 (n ∙ h)) in
    rw e c.column_condition.ensures
