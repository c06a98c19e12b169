use Rattle.std.proofs.Common.{◌≡◌, true, filter, take, length, IsTrue}
use Rattle.std.specs.List.{list_all}
use Rattle.data_model.specs.Rows.{Row}
use Rattle.plan_model.specs.FilterFits.{fits}
use Rattle.row_lookup.specs.Comparing.{meets_both}
use Rattle.nested_eval.specs.Sources.{shown_below}
use Rattle.nested_eval.proofs.source.Source.first_shown.Given as goal

abbrev pub invariant-loop-row : goal.invariant-loop-row
invariant-loop-row l =
    let shown = shown_below l.binding l.self l.parent in
    record {
      told : take 1 (filter shown l.found.rows) ≡ take 1 (filter shown l.self.rows);
      pinned : (row : Row) → shown row ≡ true → meets_both l.found.comparisons row ≡ true;
      fitting : IsTrue (list_all (λ row. fits (length row) l.binding l.self.select.filter) l.found.rows);
    }

abbrev pub decreases-loop-row : goal.decreases-loop-row
decreases-loop-row l = length l.found.rows
