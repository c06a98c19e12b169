use Rattle.std.proofs.Common.{◌-◌, ◌/◌, ◌+◌, arith, sym, ◌∙◌}
use Rattle.row_store.proofs.SearchSteps.{low_step, high_step}
use Rattle.row_store.proofs.finding.place_of.Goals as goal

pub loop-low-preserved-then-is_below : goal.loop-low-preserved-then-is_below
loop-low-preserved-then-is_below c = record {
  order = omega arith;
  within = c.loop-low.invariant.within;
  below = low_step c.args.table.now c.args.key.now c.args.rows.now (c.loop-low.low + (c.loop-low.high - c.loop-low.low) / 2) c.index-rows-middle.result c.requires (omega arith) c.index-rows-middle.is (sym c.is_below.ensures ∙ c.if-is_below.true);
  rest = c.loop-low.invariant.rest;
}

pub loop-low-preserved : goal.loop-low-preserved
loop-low-preserved c = record {
  order = omega arith;
  within = omega arith;
  below = c.loop-low.invariant.below;
  rest = high_step c.args.table.now c.args.key.now c.args.rows.now (c.loop-low.low + (c.loop-low.high - c.loop-low.low) / 2) c.index-rows-middle.result c.requires (omega arith) c.index-rows-middle.is (sym c.is_below.ensures ∙ c.if-is_below.false);
}
