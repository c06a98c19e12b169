use Rattle.std.proofs.Common.{◌∙◌, ap, map, sym, subst}
use Rattle.cohort_map.specs.Seats.{Rise}
use Rattle.cohort_map.proofs.Steps.{opened_none, marked_rise, mark_step}
use Rattle.cohort_map.proofs.listed.open.Goals as goal

pub loop-member-init : goal.loop-member-init
loop-member-init c = record {
  rise = c.requires.rise;
  marked = opened_none c.args.job c.args.seats.now;
  listed = c.requires.listed;
}

pub loop-member-preserved : goal.loop-member-preserved
loop-member-preserved c = record {
  rise = subst Rise (sym c.mark.ensures.seats) (marked_rise c.args.job _ c.loop-member.seats c.loop-member.invariant.rise);
  marked = c.mark.ensures.seats ∙ ap (map _) c.loop-member.invariant.marked ∙ mark_step c.args.job c.args.members.now c.loop-member.member-index _ c.args.seats.now c.loop-member-test.true;
  listed = c.mark.ensures.listed c.loop-member.invariant.listed;
}
