use Rattle.std.proofs.Common.{◌≡◌, IsTrue, sym, subst}
use Rattle.scalar_val.specs.declared.val.Val.TheVariants as val
use Rattle.plan_model.specs.declared.filter.Binding.{Binding}
use Rattle.plan_model.specs.declared.filter.Filter.{Filter}
use Rattle.plan_model.specs.declared.filter.Filter.TheVariants as filter
use Rattle.plan_model.specs.FilterFits.{fits}
use Rattle.plan_core.proofs.Examples.{negation_fits}
use Rattle.plan_core.proofs.tests.truths.Goals as goal

pub truth-not_null-requires : goal.truth-not_null-requires
truth-not_null-requires c =
    let b : Binding = record { vars = c.new.result; session = c.new-2.result; cursor = val.Null } in
    subst (λ (part : Filter). IsTrue (fits 1 b (filter.Not part))) (sym c.in_ok-new.ensures)
    (negation_fits b c.args.filter (c.requires b))

pub truth-not_one-requires : goal.truth-not_one-requires
truth-not_one-requires c =
    let b : Binding = record { vars = c.new.result; session = c.new-2.result; cursor = val.Null } in
    subst (λ (part : Filter). IsTrue (fits 1 b (filter.Not part))) (sym c.in_ok-new.ensures)
    (negation_fits b c.args.filter (c.requires b))
