use Rattle.std.proofs.Common.{ℕ, List, sym, ap, ◌∙◌, subst}
use Rattle.history_lock.specs.declared.known.Entry.{Entry}
use Rattle.history_lock.specs.History.{Extends}
use Rattle.history_lock.proofs.lock.HistoryLock.turn.Goals as goal

pub returns-clause-seen : goal.returns-clause-seen
returns-clause-seen g c =
    let drawn = c.in-Some.ensures.some.0 in
    let went = c.wait_for-2.ensures.sees.extends _ (ap (λ m. m.0.number) drawn ∙ c.pass.invariant.number_is) in
    subst (λ (z : ℕ × List (Entry g.row.S-Event.Denot) × List (Entry g.row.S-Event.Denot)). Extends z.0 z.1 z.2)
    (λ i. (ap (λ s. s.number) c.pass.view_is i, (ap (λ m. m.0.seen) drawn ∙ ap (λ s. s.seen) c.pass.view_is) i, sym (ap (λ m. m.0.seen) c.take-state.ensures.same.1) i))
    went
