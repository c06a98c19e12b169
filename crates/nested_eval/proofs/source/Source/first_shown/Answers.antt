use Rattle.std.proofs.Common.{rules, ◌≡◌, ◌∙◌, Bool, true, false, take, length, ap, sym, subst}
use Rattle.data_model.specs.Rows.{Row}
use Rattle.plan_model.specs.FilterFits.{fits}
use Rattle.row_lookup.specs.Comparing.{meets_both}
use Rattle.nested_eval.specs.Sources.{shown_below}
use Rattle.nested_eval.proofs.Shown.{passed_over, first_is}
use Rattle.nested_eval.proofs.source.Source.first_shown.Goals as goal

pub returns-then-is_shown : goal.returns-then-is_shown
returns-then-is_shown c =
    let shown : Row → Bool = shown_below c.args.binding.now c.args.self.now c.args.parent.now in
    let found = c.loop-row.found in
    let does : c.is_shown.result ≡ true = search rules in
    sym (first_is shown found.comparisons found.rows c.in-Some.row.now c.next.new.self.rows c.in-Some.ensures.row c.loop-row.invariant.pinned
    c.is_shown.result c.cells.result.now c.is_shown.ensures c.cells.ensures does) ∙ c.loop-row.invariant.told

pub loop-row-preserved : goal.loop-row-preserved
loop-row-preserved c =
    let shown : Row → Bool = shown_below c.args.binding.now c.args.self.now c.args.parent.now in
    let found = c.loop-row.found in
    let isnt : c.is_shown.result ≡ false = search rules in
    record {
      told = ap (take 1) (sym (passed_over shown found.comparisons found.rows c.in-Some.row.now c.next.new.self.rows c.in-Some.ensures.row
          c.loop-row.invariant.pinned c.is_shown.result c.cells.result.now c.is_shown.ensures c.cells.ensures isnt)) ∙ c.loop-row.invariant.told;
      pinned = λ row h. subst (λ k. meets_both k row ≡ true) (sym c.in-Some.ensures.comparisons) (c.loop-row.invariant.pinned row h);
      fitting = c.in-Some.ensures.row.rest (λ row. fits (length row) c.args.binding.now c.args.self.now.select.filter) c.loop-row.invariant.fitting;
    }
