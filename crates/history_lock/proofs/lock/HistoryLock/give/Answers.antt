use Rattle.std.proofs.Common.{ap, ◌∙◌}
use Rattle.history_lock.proofs.PassViews.{whole_after}
use Rattle.history_lock.proofs.lock.HistoryLock.give.Goals as goal

pub invariant_of-pass : goal.invariant_of-pass
invariant_of-pass g c = whole_after _ _ _ _ _ c.pass.invariant
    (c.ring.ensures.1 ∙ c.raise.ensures.entry _ c.pass.invariant.number_is)
