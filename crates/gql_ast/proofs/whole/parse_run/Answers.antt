use Rattle.std.proofs.Common.{◌≡◌, length, ap, sym, ◌∙◌, arith, rules}
use Rattle.std.specs.Prelude.{Err}
use Rattle.gql_ast.proofs.ParseRules.{final_ok, final_late, final_out, final_stops, not_none}
use Rattle.gql_ast.proofs.whole.parse_run.Goals as goal
use Rattle.gql_ast.proofs.whole.parse_run.Goals.{else-count-tokens-via-then-count-tokens+else-is_none, else-count-tokens-via-else-count-tokens}

pub returns-then-is_none : goal.returns-then-is_none
returns-then-is_none c = final_ok _ _ _ c.requires.fits c.requires.run _ _ (c.first_too_deep-count.ensures.value c.args.text.now) c.new-shallow.ensures _ _ c.if-count-tokens.true (search rules) c.in-Ok.ensures.end c.in-Ok.ensures.took

pub returns-then-left-eq0 : goal.returns-then-left-eq0
returns-then-left-eq0 c =
    final_out _ _ _ c.requires.fits c.requires.run _ _ (c.first_too_deep-count.ensures.value c.args.text.now) c.new-shallow.ensures c.document.new.tokens _ (sym c.len-left.ensures ∙ c.if-left-eq0.true) c.place-at.ensures (c.in-Err-Syntax.ensures.stops (ap (λ x. Err x) c.in-Err-Syntax.field-0-is))

pub returns-else-left-eq0 : goal.returns-else-left-eq0
returns-else-left-eq0 c =
    final_stops _ _ _ c.requires.fits c.requires.run _ _ (c.first_too_deep-count.ensures.value c.args.text.now) c.new-shallow.ensures c.document.new.tokens _ _ c.len-left.ensures (omega arith) c.first_too_deep-count.ensures.within (c.in-Err-Syntax.ensures.stops (ap (λ x. Err x) c.in-Err-Syntax.field-0-is))

pub returns-else-count-tokens : goal.returns-else-count-tokens
returns-else-count-tokens c = final_late _ _ _ c.requires.fits c.requires.run _ _ (c.first_too_deep-count.ensures.value c.args.text.now) c.new-shallow.ensures _ _ _
    (λ p. elim c.else-count-tokens.branch [ else-count-tokens-via-then-count-tokens+else-is_none w ↦ not_none c.args.bad_at w.is_none.result w.is_none.ensures w.if-is_none.false p.1 | else-count-tokens-via-else-count-tokens w ↦ (let q : c.first_too_deep-count.result ≡ length c.args.tokens.now = p.0 in absurd (omega arith)) ])
    c.in-Ok.ensures.end c.place-at-in-Ok.ensures c.in-Ok.ensures.took
