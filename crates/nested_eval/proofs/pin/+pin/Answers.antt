use Rattle.std.proofs.Common.{◌≡◌, ◌∙◌, true, arith, sym, ap, subst}
use Rattle.std.proofs.lemmas.Option.{IfSome_then}
use Rattle.plan_model.specs.declared.filter.Filter.{Filter}
use Rattle.plan_model.proofs.Truths.{truth_of-And}
use Rattle.nested_eval.specs.Pins.{parts_say}
use Rattle.plan_model.specs.Truth.{is_yes, truth_of}
use Rattle.nested_eval.proofs.Pins.{parts_more}
use Rattle.nested_eval.proofs.pin.+pin.Goals as goal

pub pin_of_filter-returns-in-And : goal.pin_of_filter-returns-in-And
pin_of_filter-returns-in-And t c =
    IfSome_then c.pin_of_parts.result c.pin_of_parts.ensures
    (λ pin pinned. λ b parent row h. pinned b parent row
    (subst (λ parts. is_yes (parts_say b row parts) ≡ true) (sym c.as_slice.ensures)
    (sym (ap is_yes (ap (λ (f : Filter). truth_of b f row) c.in-And.is ∙ truth_of-And b c.in-And.parts row)) ∙ h)))

pub pin_of_parts-returns-in-Some : goal.pin_of_parts-returns-in-Some
pin_of_parts-returns-in-Some t c = λ b parent row h.
    let part = c.part-item.result in
    let yes = parts_more b row c.args.parts.now c.loop-part.part-index part (omega arith) (c.loop-part.invariant b row h) in
    c.in-Some.ensures b parent row (subst (λ p. is_yes (truth_of b p row) ≡ true) (sym c.part-item.is) yes.0)

pub pin_of_parts-loop-part-preserved : goal.pin_of_parts-loop-part-preserved
pin_of_parts-loop-part-preserved t c = λ b row h.
    (parts_more b row c.args.parts.now c.loop-part.part-index c.part-item.result (omega arith) (c.loop-part.invariant b row h)).1
