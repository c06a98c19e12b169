use Rattle.std.proofs.Common.{rules, ◌≢◌, ℕ, List, sym, ap, ◌∙◌, subst}
use Rattle.history_lock.specs.declared.known.Entry.{Entry}
use Rattle.history_lock.specs.History.{Extends}
use Rattle.history_lock.proofs.Keeps.{joins, compares}
use Rattle.history_lock.proofs.PassViews.{idle}
use Rattle.history_lock.proofs.lock.HistoryLock.join.Goals as goal

pub join_seat-requires : goal.join_seat-requires
join_seat-requires g c = (
  search rules,
  search rules,
  (idle _ _ _ c.other.invariant.slots (ap (λ s. s.has_turn) c.other.view_is ∙ c.requires.other.1)).1,
  search rules,
  joins _ _ _ _ _ _ _ _ c.other.invariant.living,
)

pub load-requires : goal.load-requires
load-requires g c = let me = c.join_seat.ensures.2 in (
  search rules,
  search rules,
  compares _ _ _ _ _ _ _ _ (ap (λ m. m.0.spent) me ∙ c.pass.invariant.living)
      (ap (λ m. m.0.number) me ∙ c.pass.invariant.number_is)
      (ap (λ m. m.0.teller) me ∙ c.other.invariant.number_is),
)

pub returns-clause-first : goal.returns-clause-first
returns-clause-first g c =
    let me = c.join_seat.ensures.2 in
    let told = c.load.ensures.2.2 _ _ (ap (λ m. m.0.number) me ∙ c.pass.invariant.number_is)
    (ap (λ m. m.0.teller) me ∙ c.other.invariant.number_is) in
    subst (λ (z : ℕ × List (Entry g.row.S-Event.Denot)). Extends z.0 z.1 c.load.new.seat.me.0.seen)
    (λ i. (ap (λ s. s.number) c.pass.view_is i, (ap (λ m. m.0.seen) me ∙ ap (λ s. s.seen) c.pass.view_is) i))
    told.first

pub returns-clause-second : goal.returns-clause-second
returns-clause-second g c =
    let me = c.join_seat.ensures.2 in
    let told = c.load.ensures.2.2 _ _ (ap (λ m. m.0.number) me ∙ c.pass.invariant.number_is)
    (ap (λ m. m.0.teller) me ∙ c.other.invariant.number_is) in
    subst (λ (z : ℕ × List (Entry g.row.S-Event.Denot)). Extends z.0 z.1 c.load.new.seat.me.0.seen)
    (λ i. (ap (λ s. s.number) c.other.view_is i, (ap (λ m. m.0.told) me ∙ ap (λ s. s.seen) c.other.view_is) i))
    told.second

pub returns-clause-apart : goal.returns-clause-apart
returns-clause-apart g c =
    let me = c.join_seat.ensures.2 in
    let told = c.load.ensures.2.2 _ _ (ap (λ m. m.0.number) me ∙ c.pass.invariant.number_is)
    (ap (λ m. m.0.teller) me ∙ c.other.invariant.number_is) in
    subst (λ (z : ℕ × ℕ). z.0 ≢ z.1)
    (λ i. (ap (λ s. s.number) c.pass.view_is i, ap (λ s. s.number) c.other.view_is i)) told.apart

pub returns-clause-basis : goal.returns-clause-basis
returns-clause-basis g c =
    let me = c.join_seat.ensures.2 in
    sym (ap (λ m. m.0.basis) me ∙ ap (λ s. s.basis) c.pass.view_is)
    ∙ c.load.ensures.2.3 _ (ap (λ m. m.0.told_basis) me) ∙ ap (λ s. s.basis) c.other.view_is
