use Rattle.std.proofs.Common.{◌≡◌, ◌+◌, ◌≤◌, drop}
use Rattle.data_model.specs.Transactions.{apply, apply_from}
use Rattle.tx_apply.specs.Cost.{cost}
use Rattle.tx_apply.proofs.applying.apply.Given as goal

abbrev pub invariant-loop-change : goal.invariant-loop-change
invariant-loop-change g l = record {
  counted : l.number ≡ l.change-index;
  catalog : l.after.catalog ≡ l.catalog;
  rest : apply_from l.catalog (l.number + 1) l.after.tables (drop l.change-index l.tx) ≡ apply l.catalog l.snapshot.tables l.tx;
  steps : l.steps + cost l.catalog l.after.tables (drop l.change-index l.tx) ≤ l.fn.steps + cost l.catalog l.snapshot.tables l.tx;
}
