use Rattle.std.proofs.Common.{◌≡◌, ◌+◌, ◌∷◌, ◌++◌, [], drop, sym, ap, ◌∙◌, arith, length-drop}
use Rattle.std.proofs.lemmas.Grind.{common_steps}
use Rattle.std.proofs.lemmas.List.{take_rest}
use Rattle.request_model.specs.Lexemes.{front, lexemes, lexemes_from, before}
use Rattle.gql_lex.proofs.RunLemmas.{ignored_turn, found_turn, bad_turn, end_turn, before-before, before-end}
use Rattle.gql_lex.proofs.run.tokens.Goals as goal

pub each-preserved-in-Ignored : goal.each-preserved-in-Ignored
each-preserved-in-Ignored c =
    let z = c.as_bytes-bytes.result.now in
    let n = c.in-Ignored.len in
    let w = rw (take_rest z c.each.at) at c.in-Ignored.ensures.within in
    let e = ap front (sym (take_rest z c.each.at)) ∙ sym c.in-Ignored.ensures.value in
    record {
      so_far = ap (before c.each.items.items) (sym (ignored_turn z c.each.at c.each-test.true n e w.0 w.1)) ∙ c.each.invariant.so_far;
      within = omega (arith, length-drop c.each.at z, w.1);
    }

pub each-preserved : goal.each-preserved
each-preserved c =
    let z = c.as_bytes-bytes.result.now in
    let n = c.in-Found.len in
    let k = c.in-Found.kind in
    let w = rw (take_rest z c.each.at) at c.in-Found.ensures.within in
    let e = ap front (sym (take_rest z c.each.at)) ∙ sym c.in-Found.ensures.value in
    let pushed : c.push.new.self.items ≡ c.each.items.items ++ record { kind = k; start = c.each.at; end = c.each.at + n } ∷ [] = grind (arith, common_steps) in
    record {
      so_far = rw pushed (sym (before-before c.each.items.items (record { kind = k; start = c.each.at; end = c.each.at + n } ∷ []) (lexemes_from 0 (c.each.at + n) (drop (c.each.at + n) z)))
          ∙ ap (before c.each.items.items) (sym (found_turn z c.each.at c.each-test.true n k e w.0 w.1)) ∙ c.each.invariant.so_far);
      within = omega (arith, length-drop c.each.at z, w.1);
    }

pub returns-in-Bad : goal.returns-in-Bad
unfolding lexemes
returns-in-Bad c =
    let z = c.as_bytes-bytes.result.now in
    let e = ap front (sym (take_rest z c.each.at)) ∙ sym c.in-Bad.ensures.value in
    sym (before-end _ _) ∙ ap (before c.each.items.items) (sym (bad_turn z c.each.at c.each-test.true e)) ∙ c.each.invariant.so_far ∙ ap (lexemes_from 0 0) c.as_bytes-bytes.ensures.value

pub returns : goal.returns
unfolding lexemes
returns c =
    sym (before-end _ _) ∙ ap (before c.each.items.items) (sym (end_turn c.as_bytes-bytes.result.now c.each.at c.each-test.false)) ∙ c.each.invariant.so_far ∙ ap (lexemes_from 0 0) c.as_bytes-bytes.ensures.value
