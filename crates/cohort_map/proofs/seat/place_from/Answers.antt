use Rattle.std.proofs.Common.{◌+◌, ◌-◌, ◌/◌, arith}
use Rattle.cohort_map.proofs.Rising.{below_at, from_at}
use Rattle.cohort_map.proofs.seat.place_from.Goals as goal

pub loop-low-preserved-then-seats-middle : goal.loop-low-preserved-then-seats-middle
loop-low-preserved-then-seats-middle c = record {
  order = omega arith;
  within = c.loop-low.invariant.within;
  below = below_at c.args.number c.args.seats.now (c.loop-low.low + (c.loop-low.high - c.loop-low.low) / 2) c.requires (omega arith) c.if-seats-middle.true;
  rest = c.loop-low.invariant.rest;
}

pub loop-low-preserved : goal.loop-low-preserved
loop-low-preserved c = record {
  order = omega arith;
  within = omega arith;
  below = c.loop-low.invariant.below;
  rest = from_at c.args.number c.args.seats.now (c.loop-low.low + (c.loop-low.high - c.loop-low.low) / 2) c.requires (omega arith) c.if-seats-middle.false;
}
