use Rattle.std.proofs.Common.{◌∷◌, [], length, refl, sym, ap, ◌∙◌, arith}
use Rattle.request_model.specs.declared.document.GValue.TheVariants as v
use Rattle.request_model.specs.Grammar.{Punct, null, no_values, no_pairs}
use Rattle.gql_ast.proofs.Steps.{took_as, stops_as, took_after, stops_after, both, first, second, took_from, stops_from, passed_on}
use Rattle.gql_ast.proofs.Loops.{at_start, longer, stopped}
use Rattle.gql_ast.proofs.ValueRules as l
use Rattle.gql_ast.proofs.values.+value.Goals as goal

-- ---- lists

pub values-each-preserved : goal.values-each-preserved
values-each-preserved t c = record {
  front = rw c.in_ok-add.ensures (longer (l.values_list c.args.constant) c.each-test.ensures.1 c.each.invariant.front (took_from c.each-test.ensures.0 c.in_ok-value.ensures.took));
  left = omega (arith, c.in_ok-value.ensures.shrinks, ap length c.each-test.ensures.0);
}

pub values-returns-in_err-value-clause-stops : goal.values-returns-in_err-value-clause-stops
values-returns-in_err-value-clause-stops t c h =
    stopped (l.values_list c.args.constant) (Punct 93 ∷ []) (λ s. no_values) c.each-test.ensures.1 c.each.invariant.front (stops_from c.each-test.ensures.0 (c.in_err-value.ensures.stops (passed_on _ _ c.from_residual.ensures.1 h)))

pub values-returns-clause-took : goal.values-returns-clause-took
values-returns-clause-took t c = l.values_end c.args.constant c.each-test.ensures c.each.invariant.front

pub pairs-each-preserved : goal.pairs-each-preserved
pairs-each-preserved t c = record {
  front = rw c.in_ok-add.ensures (longer (l.pairs_list c.args.constant c.args.close) c.each-test.ensures.1 c.each.invariant.front (took_from c.each-test.ensures.0 c.in_ok-pair.ensures.took));
  left = omega (arith, c.in_ok-pair.ensures.shrinks, ap length c.each-test.ensures.0);
}

pub pairs-returns-in_err-pair-clause-stops : goal.pairs-returns-in_err-pair-clause-stops
pairs-returns-in_err-pair-clause-stops t c h =
    stopped (l.pairs_list c.args.constant c.args.close) (Punct c.args.close ∷ []) (λ s. no_pairs) c.each-test.ensures.1 c.each.invariant.front (stops_from c.each-test.ensures.0 (c.in_err-pair.ensures.stops (passed_on _ _ c.from_residual.ensures.1 h)))

pub pairs-returns-clause-took : goal.pairs-returns-clause-took
pairs-returns-clause-took t c = l.pairs_end c.args.constant c.args.close c.each-test.ensures c.each.invariant.front

-- ---- a pair

pub pair-returns-clause-took : goal.pair-returns-clause-took
pair-returns-clause-took t c = took_as (l.pair_rule c.args.constant) tt (both (λ _ _ _ _ _. tt) c.in_ok-name.ensures.took (both (λ _ _ _ _ _. tt) c.in_ok-expect.ensures.took c.in_ok-value.ensures.took))

pub pair-returns-in_err-name-clause-stops : goal.pair-returns-in_err-name-clause-stops
pair-returns-in_err-name-clause-stops t c h =
    stops_as (l.pair_rule c.args.constant) tt (first (λ _ _ _ _ _. tt) (Punct 58 ∷ l.some_value ∷ []) (tt, v.Null) (λ s. (_, refl, null)) (c.in_err-name.ensures.stops (passed_on _ _ c.from_residual.ensures.1 h)))

pub pair-returns-in_err-expect-clause-stops : goal.pair-returns-in_err-expect-clause-stops
pair-returns-in_err-expect-clause-stops t c h =
    stops_as (l.pair_rule c.args.constant) tt (second (λ _ _ _ _ _. tt) c.in_ok-name.ensures.took
    (first (λ _ _ _ _ _. tt) (l.some_value ∷ []) v.Null (λ s. null) (c.in_err-expect.ensures.stops (passed_on _ _ c.from_residual-in_err-expect.ensures.1 h))))

pub pair-returns-in_err-value-clause-stops : goal.pair-returns-in_err-value-clause-stops
pair-returns-in_err-value-clause-stops t c h =
    stops_as (l.pair_rule c.args.constant) tt (second (λ _ _ _ _ _. tt) c.in_ok-name.ensures.took (second (λ _ _ _ _ _. tt) c.in_ok-expect.ensures.took
    (c.in_err-value.ensures.stops (passed_on _ _ c.from_residual-in_err-value.ensures.1 h))))

-- ---- a value

pub value-returns-then-eat-clause-took : goal.value-returns-then-eat-clause-took
value-returns-then-eat-clause-took t c = took_after (l.list_rule c.args.constant) c.if-eat.ensures c.in_ok-values.ensures.took

pub value-returns-in_err-values-clause-stops : goal.value-returns-in_err-values-clause-stops
value-returns-in_err-values-clause-stops t c h = stops_after (l.list_rule c.args.constant) c.if-eat.ensures (c.in_err-values.ensures.stops (passed_on _ _ c.from_residual.ensures.1 h))

pub value-returns-then-eat-2-clause-took : goal.value-returns-then-eat-2-clause-took
value-returns-then-eat-2-clause-took t c = took_after (l.object_rule c.args.constant) (sym c.if-eat.ensures.0 ∙ c.if-eat-2.ensures) c.in_ok-pairs.ensures.took

pub value-returns-in_err-pairs-clause-stops : goal.value-returns-in_err-pairs-clause-stops
value-returns-in_err-pairs-clause-stops t c h =
    stops_after (l.object_rule c.args.constant) (sym c.if-eat.ensures.0 ∙ c.if-eat-2.ensures) (c.in_err-pairs.ensures.stops (passed_on _ _ c.from_residual-in_err-pairs.ensures.1 h))

pub value-returns-then-eat_dollar-clause-took : goal.value-returns-then-eat_dollar-clause-took
value-returns-then-eat_dollar-clause-took t c =
    took_after (l.variable_rule c.args.constant c.if-eat_dollar.ensures.0) (sym c.if-eat.ensures.0 ∙ sym c.if-eat-2.ensures.0 ∙ c.if-eat_dollar.ensures.1) c.in_ok-name.ensures.took

pub value-returns-in_err-name-clause-stops : goal.value-returns-in_err-name-clause-stops
value-returns-in_err-name-clause-stops t c h =
    stops_after (l.variable_rule c.args.constant c.if-eat_dollar.ensures.0) (sym c.if-eat.ensures.0 ∙ sym c.if-eat-2.ensures.0 ∙ c.if-eat_dollar.ensures.1) (c.in_err-name.ensures.stops (passed_on _ _ c.from_residual-in_err-name.ensures.1 h))

pub value-returns-in-Some-clause-took : goal.value-returns-in-Some-clause-took
value-returns-in-Some-clause-took t c =
    rw c.in_ok-of.ensures (l.took_integer c.args.constant (sym c.if-eat.ensures.0 ∙ sym c.if-eat-2.ensures.0 ∙ sym c.if-eat_dollar.ensures.0 ∙ c.in-Some.ensures))

pub value-returns-in-Some-quoted-clause-took : goal.value-returns-in-Some-quoted-clause-took
value-returns-in-Some-quoted-clause-took t c =
    rw c.in_ok-unescaped.ensures (l.took_string c.args.constant (sym c.if-eat.ensures.0 ∙ sym c.if-eat-2.ensures.0 ∙ sym c.if-eat_dollar.ensures.0 ∙ sym c.in_default.ensures.0 ∙ c.in-Some-quoted.ensures))

pub value-returns-clause-stops : goal.value-returns-clause-stops
value-returns-clause-stops t c h =
    l.stops_value c.args.constant _ _ _ _ _ _ _ c.if-eat.ensures c.if-eat-2.ensures c.if-eat_dollar.ensures c.in_default.ensures c.in_default-quoted.ensures (c.word_value.ensures.none h)
