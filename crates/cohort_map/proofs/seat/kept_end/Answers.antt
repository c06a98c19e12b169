use Rattle.std.proofs.Common.{◌∙◌, sym, arith}
use Rattle.cohort_map.proofs.Steps.{ends_kept}
use Rattle.cohort_map.proofs.seat.kept_end.Goals as goal

pub returns-then-is_kept-clause-end : goal.returns-then-is_kept-clause-end
returns-then-is_kept-clause-end c = ends_kept c.args.seats.now c.loop-end.end (omega arith) (omega arith) (sym c.is_kept.ensures ∙ c.if-is_kept.true)
