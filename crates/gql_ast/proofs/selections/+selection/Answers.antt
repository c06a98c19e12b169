use Rattle.std.proofs.Common.{◌∷◌, [], length, ap, sym, ◌∙◌, refl, arith}
use Rattle.std.specs.Prelude.{codes}
use Rattle.request_model.specs.Grammar.{Punct, no_more, no_set, no_selections}
use Rattle.gql_ast.specs.Follow.{Anything}
use Rattle.gql_ast.proofs.Steps.{took_as, stops_as, took_after, stops_after, both, first, second, took_from, stops_from, took_under, stops_under, passed_on}
use Rattle.gql_ast.proofs.Loops.{longer, stopped}
use Rattle.gql_ast.proofs.ValueRules.{some_name}
use Rattle.gql_ast.proofs.SelectionRules as l
use Rattle.gql_ast.proofs.selections.+selection.Goals as goal

-- ---- Directives? SelectionSet

pub body-returns-in_err-directives-clause-stops : goal.body-returns-in_err-directives-clause-stops
body-returns-in_err-directives-clause-stops t c h = first l.set_ends l.some_set_of (l.some_field ∷ []) l.made_set (c.in_err-directives.ensures.stops (passed_on _ _ c.from_residual.ensures.1 h))

pub body-returns-in_err-select-clause-stops : goal.body-returns-in_err-select-clause-stops
body-returns-in_err-select-clause-stops t c h = second l.set_ends c.in_ok-directives.ensures.took (c.in_err-select.ensures.stops (passed_on _ _ c.from_residual-in_err-select.ensures.1 h))

pub body-returns-clause-took : goal.body-returns-clause-took
body-returns-clause-took t c = both l.set_ends c.in_ok-directives.ensures.took c.in_ok-select.ensures.took

-- ---- a set

pub set-returns-in_err-expect-clause-stops : goal.set-returns-in_err-expect-clause-stops
set-returns-in_err-expect-clause-stops t c h =
    stops_as l.set_rule tt (first (λ _ _ _ _ _. tt) (some_name ∷ Punct 125 ∷ []) (l.some_field, []) l.made_inner_at (c.in_err-expect.ensures.stops (passed_on _ _ c.from_residual.ensures.1 h)))

pub set-returns-in_err-first-clause-stops : goal.set-returns-in_err-first-clause-stops
set-returns-in_err-first-clause-stops t c h =
    stops_as l.set_rule tt (second (λ _ _ _ _ _. tt) c.in_ok-expect.ensures.took (first l.closing_ends (Punct 125 ∷ []) [] (λ s. no_selections) (c.in_err-first.ensures.stops (passed_on _ _ c.from_residual-in_err-first.ensures.1 h))))

pub set-returns-in_err-others-clause-stops : goal.set-returns-in_err-others-clause-stops
set-returns-in_err-others-clause-stops t c h =
    stops_as l.set_rule tt (second (λ _ _ _ _ _. tt) c.in_ok-expect.ensures.took (second l.closing_ends c.in_ok-first.ensures.took (c.in_err-others.ensures.stops (passed_on _ _ c.from_residual-in_err-others.ensures.1 h))))

pub set-returns-clause-took : goal.set-returns-clause-took
set-returns-clause-took t c =
    rw c.in_ok-cons.ensures (took_as l.set_rule tt (both (λ _ _ _ _ _. tt) c.in_ok-expect.ensures.took (both l.closing_ends c.in_ok-first.ensures.took c.in_ok-others.ensures.took)))

pub maybe_set-returns-then-not-is_at-clause-took : goal.maybe_set-returns-then-not-is_at-clause-took
maybe_set-returns-then-not-is_at-clause-took t c = rw c.new.ensures (l.took_no_set c.if-not-is_at.ensures)

pub maybe_set-returns-in_err-select-clause-stops : goal.maybe_set-returns-in_err-select-clause-stops
maybe_set-returns-in_err-select-clause-stops t c h =
    stops_as l.some_set_rule c.if-not-is_at.ensures (stops_under {F' = Anything} (λ _ _. tt) (c.in_err-select.ensures.stops (passed_on _ _ c.from_residual.ensures.1 h)))

pub maybe_set-returns-clause-took : goal.maybe_set-returns-clause-took
maybe_set-returns-clause-took t c = took_as l.some_set_rule c.if-not-is_at.ensures (took_under {F' = Anything} (λ _ _. tt) c.in_ok-select.ensures.took)

-- ---- selections

pub selections-each-preserved : goal.selections-each-preserved
selections-each-preserved t c = record {
  front = rw c.in_ok-add.ensures (longer l.selections_list c.each-test.ensures.1 c.each.invariant.front (took_from c.each-test.ensures.0 c.in_ok-selection.ensures.took));
  left = omega (arith, c.in_ok-selection.ensures.shrinks, ap length c.each-test.ensures.0);
}

pub selections-returns-in_err-selection-clause-stops : goal.selections-returns-in_err-selection-clause-stops
selections-returns-in_err-selection-clause-stops t c h =
    stopped l.selections_list (Punct 125 ∷ []) (λ s. no_selections) c.each-test.ensures.1 c.each.invariant.front (stops_from c.each-test.ensures.0 (c.in_err-selection.ensures.stops (passed_on _ _ c.from_residual.ensures.1 h)))

pub selections-returns-clause-took : goal.selections-returns-clause-took
selections-returns-clause-took t c = l.selections_end c.each-test.ensures c.each.invariant.front

-- ---- a selection

pub selection-returns-in_err-fragment-clause-stops : goal.selection-returns-in_err-fragment-clause-stops
selection-returns-in_err-fragment-clause-stops t c h = stops_after (l.behind_rule _ _ _) c.if-eat_spread.ensures (c.in_err-fragment.ensures.stops (passed_on _ _ c.from_residual.ensures.1 h))

pub selection-returns-then-eat_spread-clause-took : goal.selection-returns-then-eat_spread-clause-took
selection-returns-then-eat_spread-clause-took t c = took_after (l.behind_rule _ _ _) c.if-eat_spread.ensures c.in_ok-fragment.ensures.took

pub selection-returns-in_err-alias-clause-stops : goal.selection-returns-in_err-alias-clause-stops
selection-returns-in_err-alias-clause-stops t c h =
    stops_as l.field_rule c.if-eat_spread.ensures.1 (stops_from c.if-eat_spread.ensures.0
    (first l.arguments_colon [] ([], ([], [])) l.no_arguments_tail (c.in_err-alias.ensures.stops (passed_on _ _ c.from_residual-in_err-alias.ensures.1 h))))

pub selection-returns-in_err-args-clause-stops : goal.selection-returns-in_err-args-clause-stops
selection-returns-in_err-args-clause-stops t c h =
    stops_as l.field_rule c.if-eat_spread.ensures.1 (stops_from c.if-eat_spread.ensures.0
    (second l.arguments_colon c.in_ok-alias.ensures.took (first l.tail_paren [] ([], []) l.no_tail (c.in_err-args.ensures.stops (passed_on _ _ c.from_residual-in_err-args.ensures.1 h)))))

pub selection-returns-in_err-directives-clause-stops : goal.selection-returns-in_err-directives-clause-stops
selection-returns-in_err-directives-clause-stops t c h =
    stops_as l.field_rule c.if-eat_spread.ensures.1 (stops_from c.if-eat_spread.ensures.0
    (second l.arguments_colon c.in_ok-alias.ensures.took (second l.tail_paren c.in_ok-args.ensures.took
    (first l.maybe_set_ends [] [] (λ s. no_set) (c.in_err-directives.ensures.stops (passed_on _ _ c.from_residual-in_err-directives.ensures.1 h))))))

pub selection-returns-in_err-select-clause-stops : goal.selection-returns-in_err-select-clause-stops
selection-returns-in_err-select-clause-stops t c h =
    stops_as l.field_rule c.if-eat_spread.ensures.1 (stops_from c.if-eat_spread.ensures.0
    (second l.arguments_colon c.in_ok-alias.ensures.took (second l.tail_paren c.in_ok-args.ensures.took (second l.maybe_set_ends c.in_ok-directives.ensures.took
    (stops_under l.no_brace (c.in_err-select.ensures.stops (passed_on _ _ c.from_residual-in_err-select.ensures.1 h)))))))

pub selection-returns-clause-took : goal.selection-returns-clause-took
selection-returns-clause-took t c =
    took_as l.field_rule c.if-eat_spread.ensures.1 (took_from c.if-eat_spread.ensures.0
    (both l.arguments_colon c.in_ok-alias.ensures.took (both l.tail_paren c.in_ok-args.ensures.took (both l.maybe_set_ends c.in_ok-directives.ensures.took
    (took_under l.no_brace c.in_ok-select.ensures.took)))))

-- ---- after the three dots

pub on_type-returns-in_err-on-clause-stops : goal.on_type-returns-in_err-on-clause-stops
on_type-returns-in_err-on-clause-stops t c h =
    stops_as l.on_rule tt (stops_under {F' = Anything} (λ _ _. tt) (first (λ _ _ _ _ _. tt) l.some_set_of ([], l.some_field ∷ []) l.made_body (c.in_err-on.ensures.stops (passed_on _ _ c.from_residual.ensures.1 h))))

pub on_type-returns-in_err-directives-clause-stops : goal.on_type-returns-in_err-directives-clause-stops
on_type-returns-in_err-directives-clause-stops t c h =
    stops_as l.on_rule tt (stops_under {F' = Anything} (λ _ _. tt) (second (λ _ _ _ _ _. tt) c.in_ok-on.ensures.took (c.in_err-directives.ensures.stops (passed_on _ _ c.from_residual-in_err-directives.ensures.1 h))))

pub on_type-returns-clause-took : goal.on_type-returns-clause-took
on_type-returns-clause-took t c =
    took_as l.on_rule tt (took_under {F' = Anything} (λ _ _. tt) (both (λ _ _ _ _ _. tt) c.in_ok-on.ensures.took c.in_ok-directives.ensures.took))

pub after_dots-returns-in_err-typed-clause-stops : goal.after_dots-returns-in_err-typed-clause-stops
after_dots-returns-in_err-typed-clause-stops t c h = stops_after (l.behind_rule _ _ _) c.if-eat_word.ensures (c.in_err-typed.ensures.stops (passed_on _ _ c.from_residual.ensures.1 h))

pub after_dots-returns-then-eat_word-clause-took : goal.after_dots-returns-then-eat_word-clause-took
after_dots-returns-then-eat_word-clause-took t c = took_after (l.behind_rule _ _ _) c.if-eat_word.ensures c.in_ok-typed.ensures.took

pub after_dots-returns-in_err-directives-in-Some-clause-stops : goal.after_dots-returns-in_err-directives-in-Some-clause-stops
after_dots-returns-in_err-directives-in-Some-clause-stops t c h =
    stops_after (l.spread_rule c.in-Some.word.now (l.not_word _ _ _ _ _ c.if-eat_word.ensures c.in-Some.ensures)) (sym c.if-eat_word.ensures.0 ∙ c.in-Some.ensures)
    (stops_under l.ends_directives (c.in_err-directives-in-Some.ensures.stops (passed_on _ _ c.from_residual-in_err-directives-in-Some.ensures.1 h)))

pub after_dots-returns-in_ok-directives-in-Some-clause-took : goal.after_dots-returns-in_ok-directives-in-Some-clause-took
after_dots-returns-in_ok-directives-in-Some-clause-took t c =
    rw c.in_ok-name-in-Some.ensures (took_after (l.spread_rule c.in-Some.word.now (l.not_word _ _ _ _ _ c.if-eat_word.ensures c.in-Some.ensures)) (sym c.if-eat_word.ensures.0 ∙ c.in-Some.ensures)
    (took_under l.ends_directives c.in_ok-directives-in-Some.ensures.took))

pub after_dots-returns-in_err-directives-in-None-clause-stops : goal.after_dots-returns-in_err-directives-in-None-clause-stops
after_dots-returns-in_err-directives-in-None-clause-stops t c h =
    stops_from c.if-eat_word.ensures.0 (stops_as l.inline_rule c.in-None.ensures.1 (stops_from c.in-None.ensures.0 (stops_under {F' = Anything} (λ _ _. tt)
    (c.in_err-directives-in-None.ensures.stops (passed_on _ _ c.from_residual-in_err-directives-in-None.ensures.1 h)))))

pub after_dots-returns-in_ok-directives-in-None-clause-took : goal.after_dots-returns-in_ok-directives-in-None-clause-took
after_dots-returns-in_ok-directives-in-None-clause-took t c =
    took_from c.if-eat_word.ensures.0 (took_as l.inline_rule c.in-None.ensures.1 (took_from c.in-None.ensures.0 (took_under {F' = Anything} (λ _ _. tt) c.in_ok-directives-in-None.ensures.took)))
