use Rattle.std.proofs.Common.{◌≡◌, drop}
use Rattle.plan_model.specs.Taken.{joins}
use Rattle.nested_eval.proofs.source.joins.Given as goal

abbrev pub invariant-loop-column : goal.invariant-loop-column
invariant-loop-column l = joins (drop l.column-index l.from) l.rest l.parent l.row ≡ joins l.from l.to l.parent l.row
