use Rattle.std.proofs.Common.{◌≡◌, Bool, true, filter, length, sym, subst}
use Rattle.data_model.specs.Rows.{Row}
use Rattle.plan_model.specs.FilterFits.{fits}
use Rattle.row_lookup.specs.Comparing.{meets_both}
use Rattle.nested_eval.specs.Seen.{seen}
use Rattle.nested_eval.specs.Sources.{shown_below}
use Rattle.nested_eval.proofs.Shown.{kept_next}
use Rattle.nested_eval.proofs.source.Source.shown.Goals as goal

pub loop-row-preserved : goal.loop-row-preserved
loop-row-preserved c =
    let shown : Row → Bool = shown_below c.args.binding.now c.args.self.now c.args.parent.now in
    let found = c.loop-row.found in
    record {
      told = kept_next shown found.comparisons found.rows c.in-Some.row.now c.next.new.self.rows c.in-Some.ensures.row c.loop-row.invariant.pinned
          (seen c.loop-row.rows.items) (seen c.keep.new.rows.items) (filter shown c.args.self.now.rows) c.is_shown-is_shown.result c.cells.result.now
          c.in_ok-keep.ensures c.is_shown-is_shown.ensures c.cells.ensures c.loop-row.invariant.told;
      pinned = λ row h. subst (λ k. meets_both k row ≡ true) (sym c.in-Some.ensures.comparisons) (c.loop-row.invariant.pinned row h);
      fitting = c.in-Some.ensures.row.rest (λ row. fits (length row) c.args.binding.now c.args.self.now.select.filter) c.loop-row.invariant.fitting;
    }
