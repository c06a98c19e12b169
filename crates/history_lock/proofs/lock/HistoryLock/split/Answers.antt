use Rattle.std.proofs.Common.{rules, ap, ◌∙◌}
use Rattle.history_lock.proofs.Keeps.{splits, numbers}
use Rattle.history_lock.proofs.PassViews.{idle}
use Rattle.history_lock.proofs.lock.HistoryLock.split.Goals as goal

pub split_seat-seat-requires : goal.split_seat-seat-requires
split_seat-seat-requires g c =
    (search rules, search rules, splits _ _ _ _ _ c.pass.invariant.living (idle _ _ _ c.pass.invariant.slots (ap (λ s. s.has_turn) c.pass.view_is ∙ c.requires.1)).0)

pub load-requires : goal.load-requires
load-requires g c = let made = c.split_seat-seat.ensures.4 in
    (search rules, search rules, numbers _ _ _ _ _ _ (ap (λ m. m.0.spent) made) (ap (λ m. m.0.number) made))
