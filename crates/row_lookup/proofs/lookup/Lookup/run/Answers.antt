use Rattle.std.proofs.Common.{◌≡◌, ◌∙◌, true, false, true≢false, sym, subst}
use Rattle.std.proofs.lemmas.Bool.{and_parts}
use Rattle.row_lookup.specs.Comparing.{meets, meets_if, meets_both}
use Rattle.row_lookup.specs.Narrowing.{Narrowed}
use Rattle.row_lookup.proofs.Narrowings.{narrowed_none, narrowed_weaker}
use Rattle.row_lookup.proofs.lookup.Lookup.run.Goals as goal

pub returns-then-none_meets : goal.returns-then-none_meets
returns-then-none_meets c =
    narrowed_none (λ row. meets_both c.args.comparisons.now row ≡ true) c.args.self.now
    (λ row met. true≢false (sym met ∙ c.none_meets.ensures c.if-none_meets.true row))

pub returns-in-Some-key : goal.returns-in-Some-key
returns-in-Some-key c =
    let k = c.args.comparisons.now in
    subst (λ rows. Narrowed (λ row. meets_both k row ≡ true) rows c.run_of.result.now) c.self.view_is
    (narrowed_weaker (λ row. meets_both k row ≡ true) (λ row. meets c.in-Some.comparison row ≡ true) c.self.inside.rows.now c.run_of.result.now
    (λ row met. subst (λ o. meets_if o row ≡ true) c.in-Some.is (and_parts (meets_if k.by_key row) (meets_if k.by_chain row) met).0)
    c.run_of.ensures)
