use Rattle.std.proofs.Common.{◌≤◌, length}
use Rattle.row_lookup.specs.Chaining.{slot_in}
use Rattle.row_lookup.proofs.Links.{Linked}
use Rattle.row_lookup.proofs.chain.chained.Given as goal

abbrev pub invariant-loop-at : goal.invariant-loop-at
invariant-loop-at l = record {
  within : l.at ≤ length l.rows;
  linked : Linked (slot_in l.size l.column l.rows) (length l.rows) l.size l.at l.heads.items l.next.items;
}

abbrev pub decreases-loop-at : goal.decreases-loop-at
decreases-loop-at l = l.at
