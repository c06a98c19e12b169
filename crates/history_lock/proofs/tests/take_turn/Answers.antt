use Rattle.std.proofs.Common.{ℕ, [], ◌∷◌, ◌++◌, ap, ◌∙◌}
use Rattle.history_lock.specs.History.{entry, own}
use Rattle.history_lock.proofs.Histories.{own_given}
use Rattle.history_lock.proofs.tests.take_turn.Goals as goal

pub returns-clause-own : goal.returns-clause-own
returns-clause-own g c =
    let n = c.args.pass.now.number in
    ap (own n) (ap (λ p. p.seen) c.give.ensures ∙ ap (λ (k : ℕ). c.turn.new.pass.seen ++ entry k tt ∷ []) c.turn.ensures.same.1) ∙ own_given n c.args.pass.now.seen c.turn.new.pass.seen tt c.turn.ensures.seen
