use Rattle.std.proofs.Common.{◌+◌, List, sym, subst, refl, arith}
use Rattle.stream_cursor.specs.declared.moves.Move.{Move}
use Rattle.bench_cohorts.specs.Numbered.{AreNumbered}
use Rattle.bench_cohorts.proofs.Numbered.{one_more}
use Rattle.bench_cohorts.proofs.work.moves.Goals as goal

pub loop-number-preserved : goal.loop-number-preserved
loop-number-preserved c =
    subst (λ (ms : List Move). AreNumbered (c.loop-number.number + 1 + 1) ms) (sym c.in_ok-push.ensures.items)
    (one_more (c.loop-number.number + 1) c.loop-number.moves.items _ (omega arith) refl c.loop-number.invariant)
