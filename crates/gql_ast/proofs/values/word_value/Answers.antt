use Rattle.std.proofs.Common.{sym, ap, ◌∙◌, ◌∷◌}
use Rattle.request_model.specs.Grammar.{Name, true_, false_, null, enum}
use Rattle.gql_ast.proofs.ValueRules.{took_named}
use Rattle.gql_ast.proofs.values.word_value.Goals as goal

pub returns-then-eat_word-clause-took : goal.returns-then-eat_word-clause-took
returns-then-eat_word-clause-took c constant = took_named constant c.if-eat_word.ensures (λ s. true_)

pub returns-then-eat_word-2-clause-took : goal.returns-then-eat_word-2-clause-took
returns-then-eat_word-2-clause-took c constant = took_named constant (sym c.if-eat_word.ensures.0 ∙ c.if-eat_word-2.ensures) (λ s. false_)

pub returns-then-eat_word-3-clause-took : goal.returns-then-eat_word-3-clause-took
returns-then-eat_word-3-clause-took c constant = took_named constant (sym c.if-eat_word.ensures.0 ∙ sym c.if-eat_word-2.ensures.0 ∙ c.if-eat_word-3.ensures) (λ s. null)

pub returns-in_ok-of-in-Some-clause-took : goal.returns-in_ok-of-in-Some-clause-took
returns-in_ok-of-in-Some-clause-took c constant =
    let third = c.in-Some.ensures in
    let second = sym c.if-eat_word-3.ensures.0 ∙ third in
    let first = sym c.if-eat_word-2.ensures.0 ∙ second in
    let whole = sym c.if-eat_word.ensures.0 ∙ first in
    rw c.in_ok-of-in-Some.ensures (took_named constant whole (λ s. enum
    (λ e. c.if-eat_word.ensures.1 _ (whole ∙ ap (λ n. Name n ∷ c.name.new.self) e))
    (λ e. c.if-eat_word-2.ensures.1 _ (first ∙ ap (λ n. Name n ∷ c.name.new.self) e))
    (λ e. c.if-eat_word-3.ensures.1 _ (second ∙ ap (λ n. Name n ∷ c.name.new.self) e))))
