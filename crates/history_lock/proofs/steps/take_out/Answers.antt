use Rattle.std.proofs.Common.{rules, ◌∷◌, Some, sym, ap, ◌∙◌}
use Rattle.atomic_table.specs.Table.{rest}
use Rattle.history_lock.proofs.Keeps.{takes_out}
use Rattle.history_lock.proofs.steps.take_out.Goals as goal

pub compare_exchange-requires : goal.compare_exchange-requires
compare_exchange-requires g c = (search rules, search rules, takes_out _ _ _ _ _ _)

pub exchange-requires : goal.exchange-requires
exchange-requires g c = let took = c.compare_exchange.ensures.2.2 c.if-compare_exchange-ne1.false in
    (search rules, (Some took.0, took.1 ∙ ap (λ cs. (0, Some took.0) ∷ cs) (sym (ap rest took.1))))
