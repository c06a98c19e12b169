use Rattle.std.proofs.Common.{◌≡◌, true, sym, subst}
use Rattle.row_lookup.specs.Comparing.{meets_both}
use Rattle.row_lookup.specs.Narrowing.{Narrowed}
use Rattle.nested_eval.specs.Pins.{shows}
use Rattle.nested_eval.specs.Sources.{Sourced, shown_below}
use Rattle.nested_eval.proofs.Pins.{pinned_if}
use Rattle.nested_eval.proofs.Shown.{meets_two}
use Rattle.nested_eval.proofs.source.Source.found.Goals as goal

pub returns-clause-pinned : goal.returns-clause-pinned
returns-clause-pinned c = λ row h.
    let i = c.self.inside in
    let b = c.args.binding.now in
    let parent = c.args.parent.now in
    let here : shows i.select.now i.from.now i.to.now b parent row ≡ true =
    subst (λ (s : Sourced). shown_below b s parent row ≡ true) (sym c.self.view_is) h in
    subst (λ k. meets_both k row ≡ true) (sym c.found.ensures.comparisons)
    (meets_two (record { by_key = c.compared.result; by_chain = c.compared-2.result }) row
    (c.compared.ensures row (pinned_if i.select.now i.from.now i.to.now b parent row here i.by_key c.self.invariant.0))
    (c.compared-2.ensures row (pinned_if i.select.now i.from.now i.to.now b parent row here i.by_chain c.self.invariant.1)))

pub returns-clause-rows : goal.returns-clause-rows
returns-clause-rows c =
    subst (λ k. Narrowed (λ row. meets_both k row ≡ true) c.args.self.now.rows c.found.result.rows) (sym c.found.ensures.comparisons)
    (subst (λ (s : Sourced). Narrowed (λ row. meets_both (record { by_key = c.compared.result; by_chain = c.compared-2.result }) row ≡ true) s.rows c.found.result.rows)
    c.self.view_is c.found.ensures.rows)
