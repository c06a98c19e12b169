use Rattle.std.proofs.lemmas.Option.{IfSome_then}
use Rattle.nested_eval.proofs.Pins.{shown_joins, shown_meets, shown_passes}
use Rattle.nested_eval.proofs.pin.pin_of.Goals as goal

pub returns-in-Some : goal.returns-in-Some
returns-in-Some c = λ b parent row h.
    c.in-Some.ensures b parent row (shown_joins c.args.select.now c.args.from.now c.args.to.now b parent row h)

pub returns-in-Some-pin_of_filter : goal.returns-in-Some-pin_of_filter
returns-in-Some-pin_of_filter c = λ b parent row h.
    c.in-Some-pin_of_filter.ensures b parent row (shown_meets c.args.select.now c.args.from.now c.args.to.now b parent row h)

pub returns : goal.returns
returns c =
    IfSome_then c.pin_of_shape.result c.pin_of_shape.ensures
    (λ pin pinned. λ b parent row h. pinned b parent row (shown_passes c.args.select.now c.args.from.now c.args.to.now b parent row h))
