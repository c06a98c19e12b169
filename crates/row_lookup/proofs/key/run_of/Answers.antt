use Rattle.std.proofs.Common.{◌≡◌, ◌∙◌, true, false, true≢false, sym}
use Rattle.plan_model.specs.declared.filter.Op.TheVariants.{Eq, Gt, Gte, Lt, Lte}
use Rattle.scalar_val.specs.ValOrder.{val_cmp}
use Rattle.scalar_val.specs.Values.{cell}
use Rattle.data_model.specs.Rows.{Row}
use Rattle.row_lookup.specs.Comparing.{meets}
use Rattle.row_lookup.proofs.Ascents.{no_null, held, eq_not_lt, eq_le, gt_not_le, ge_not_lt}
use Rattle.row_lookup.proofs.Narrowings.{narrowed_none, narrowed_weaker, narrowed_then}
use Rattle.row_lookup.proofs.key.run_of.Goals as goal

pub returns-then-is_null : goal.returns-then-is_null
returns-then-is_null c =
    let k = c.args.comparison.now in
    narrowed_none (λ row. meets k row ≡ true) c.args.rows.now
    (λ row met. true≢false (sym c.if-is_null.true ∙ c.is_null.ensures ∙ no_null k row met))

pub returns-in-Eq : goal.returns-in-Eq
returns-in-Eq c =
    let k = c.args.comparison.now in
    let middle = c.from_bound.result.now in
    narrowed_then (λ row. meets k row ≡ true) c.args.rows.now middle c.up_to_bound.result.now
    (narrowed_weaker (λ row. meets k row ≡ true) _ c.args.rows.now middle
    (λ row met. eq_not_lt (val_cmp (cell row k.column) k.value.now) (held k Eq row c.in-Eq.is met)) c.from_bound.ensures.rows)
    (narrowed_weaker (λ row. meets k row ≡ true) _ middle c.up_to_bound.result.now
    (λ row met. eq_le (val_cmp (cell row k.column) k.value.now) (held k Eq row c.in-Eq.is met)) c.up_to_bound.ensures.rows)
