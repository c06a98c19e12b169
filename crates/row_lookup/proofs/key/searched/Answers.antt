use Rattle.std.proofs.Common.{◌≡◌, ◌-◌, ◌/◌, ◌+◌, true, false, arith, sym, ap, ◌∙◌}
use Rattle.row_lookup.specs.Ascending.{row_at, row_before}
use Rattle.row_lookup.proofs.Ascents.{low_step, high_step}
use Rattle.row_lookup.proofs.Links.{read_row}
use Rattle.row_lookup.proofs.key.searched.Goals as goal

pub loop-low-preserved-then-stands_before : goal.loop-low-preserved-then-stands_before
loop-low-preserved-then-stands_before c =
    let b = c.args.bound.now in
    let rows = c.args.rows.now in
    let middle = c.loop-low.low + (c.loop-low.high - c.loop-low.low) / 2 in
    let same = read_row rows middle c.index-rows-middle.result (omega arith) c.index-rows-middle.is in
    let is : row_before b (row_at rows middle) ≡ true =
    ap (row_before b) same ∙ sym c.stands_before.ensures ∙ c.if-stands_before.true in
    record {
      order = omega arith;
      within = c.loop-low.invariant.within;
      below = low_step b rows middle c.requires (omega arith) is;
      above = c.loop-low.invariant.above;
    }

pub loop-low-preserved : goal.loop-low-preserved
loop-low-preserved c =
    let b = c.args.bound.now in
    let rows = c.args.rows.now in
    let middle = c.loop-low.low + (c.loop-low.high - c.loop-low.low) / 2 in
    let same = read_row rows middle c.index-rows-middle.result (omega arith) c.index-rows-middle.is in
    let isnt : row_before b (row_at rows middle) ≡ false =
    ap (row_before b) same ∙ sym c.stands_before.ensures ∙ c.if-stands_before.false in
    record {
      order = omega arith;
      within = omega arith;
      below = c.loop-low.invariant.below;
      above = high_step b rows middle c.requires isnt;
    }
