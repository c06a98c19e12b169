use Rattle.std.proofs.Common.{◌≡◌, ◌∙◌, map, ap, sym}
use Rattle.std.proofs.lemmas.Result.{IfOk-weaker}
use Rattle.plan_model.specs.declared.plan.Field.TheVariants as field
use Rattle.query_model.specs.Names.{meant}
use Rattle.query_model.specs.Plans.{link_select, plan_field}
use Rattle.role_fields.specs.Said.{meant_said}
use Rattle.selection_plan.proofs.PlanForms.{made_link}
use Rattle.selection_plan.proofs.fields.+fields.Goals as goal

pub plan_field-returns-in_ok-fields-in-ALink : goal.plan_field-returns-in_ok-fields-in-ALink
plan_field-returns-in_ok-fields-in-ALink t c =
    let v = c.args.places.now.view.now in
    let names = c.args.places.now.names.now in
    let slots = c.args.places.now.slots.now in
    let link = c.in-ALink.link.now in
    IfOk-weaker c.link_field.result
    (λ f. f ≡ field.Link c.in_ok-key.key link.from link.to (link_select v names slots link c.as_slice-in-ALink.result.now c.in_ok-fields-in-ALink.fields))
    (λ f. f ≡ plan_field v names slots c.args.table c.args.field.now)
    (λ f e. made_link v names slots c.args.table link c.args.field.now c.in_ok-key.key c.as_slice-in-ALink.result.now c.in_ok-fields-in-ALink.fields f
    (ap (meant v c.args.table) (sym c.as_str-2.ensures) ∙ sym c.meant.ensures ∙ ap meant_said c.in-ALink.is)
    (c.in_ok-key.ensures ∙ c.as_str.ensures) c.as_slice-in-ALink.ensures
    (c.in_ok-fields-in-ALink.ensures ∙ ap (map (plan_field v names slots link.table)) c.as_slice.ensures) e)
    c.link_field.ensures
