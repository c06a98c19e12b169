use Rattle.std.proofs.Common.{◌≡◌, ◌∙◌, sym, ap, length, arith}
use Rattle.std.proofs.lemmas.List.{length-map}
use Rattle.gql_canon.specs.Names.{compare_names}
use Rattle.scalar_val.proofs.StableRules.{length_ordered}
use Rattle.gql_canon.proofs.same.same_ordered.Goals as goal

pub returns-then-ordered-args : goal.returns-then-ordered-args
returns-then-ordered-args c = (
  λ h. cc,
  λ e.
      let same : length c.args.ordered.now ≡ length c.args.args.now = sym (length-map c.args.ordered.now (λ p. p.now))
      ∙ ap (λ l. length l) e ∙ length_ordered compare_names c.args.args.now in
      absurd (omega (arith, same, c.if-ordered-args.true)),
)
