use Rattle.std.proofs.Common.{◌+◌, ◌-◌, ◌*◌, ◌/◌, length, ap, sym, arith, ◌∙◌}
use Rattle.scalar_val.specs.Values.{cell}
use Rattle.data_model.specs.Rows.{Row}
use Rattle.row_lookup.specs.Chaining.{slot_in, slot_of}
use Rattle.row_lookup.proofs.Links.{linked_before, read_row}
use Rattle.row_lookup.proofs.chain.chained.Goals as goal

pub loop-at-preserved : goal.loop-at-preserved
loop-at-preserved c =
    let rows = c.args.rows.now in
    let size = length rows / 2 * 2 + 1 in
    let at = c.loop-at.at in
    let same = read_row rows (at - 1) c.index-rows-at.result (omega arith) c.index-rows-at.is in
    record {
      within = omega arith;
      linked = linked_before (slot_in size c.args.column rows) (length rows) size at (at - 1) c.slot_of_row-head.result c.index.result.now c.loop-at.heads.items c.loop-at.next.items
          c.loop-at.invariant.linked (omega arith) c.loop-at.invariant.within (ap (λ (row : Row). slot_of size (cell row c.args.column)) same ∙ sym c.slot_of_row-head.ensures.value) c.slot_of_row-head.ensures.within c.index.ensures;
    }
