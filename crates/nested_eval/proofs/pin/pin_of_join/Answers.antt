use Rattle.std.proofs.Common.{◌≡◌, true, sym, subst}
use Rattle.std.proofs.lemmas.Option.{IfSome_then}
use Rattle.nested_eval.specs.Pins.{meets_pin}
use Rattle.nested_eval.proofs.Pins.{joined_at}
use Rattle.nested_eval.proofs.pin.pin_of_join.Goals as goal

pub returns : goal.returns
returns c =
    IfSome_then c.if_suits.result c.if_suits.ensures
    (λ pin is. λ b parent row h. subst (λ p. meets_pin b parent p row ≡ true) (sym is)
    (joined_at c.args.from.now c.args.to.now parent row c.in-len1-up.len_at_least c.in-len1-up-to.len_at_least h))
