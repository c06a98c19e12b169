use Rattle.std.proofs.Common.{◌+◌, ◌≤◌, ℕ, Bool, map, take, drop, IsTrue}
use Rattle.std.specs.List.{list_all, sum}
use Rattle.nested_eval.specs.Nodes.{PartsMean}
use Rattle.nested_eval.specs.Plans.{field_fits, field_reads}
use Rattle.nested_eval.proofs.prepare.+node.Given as goal

abbrev pub invariant-parts_of-loop-field : goal.invariant-parts_of-loop-field
invariant-parts_of-loop-field g l =
    let db = l.snapshot.tables in
    let rest = drop l.field-index l.fields in
    record {
      steps : l.steps + sum (map (field_reads db) rest) ≤ l.fn.steps + sum (map (field_reads db) l.fields);
      fits : IsTrue (list_all (λ (f : ℕ → Bool). f l.table) (map (field_fits l.snapshot.catalog) rest));
      means : PartsMean l.names l.snapshot.catalog db (take l.field-index l.fields) l.table l.parts;
    }
