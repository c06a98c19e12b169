use Rattle.std.proofs.Common.{inl, inr, refl}
use Rattle.gql_scope.proofs.ReachRules.{not_so}
use Rattle.gql_scope.proofs.refusals.first_refusal.Goals as goal

pub returns-then-bare : goal.returns-then-bare
returns-then-bare c =
    inr (
      not_so _ _ c.in_ok-unknown.ensures c.if-unknown.false,
      inr (
        not_so _ _ c.in_ok-cycle.ensures c.if-cycle.false,
        inr (
          not_so _ _ c.in_ok-stray.ensures c.if-stray.false,
          inl (c.in_ok-bare.ensures.0 c.if-bare.true, refl),
        ),
      ),
    )
