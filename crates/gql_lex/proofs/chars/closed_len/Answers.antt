use Rattle.std.proofs.Common.{◌∙◌, ap, sym, arith, length-drop}
use Rattle.std.proofs.lemmas.List.{take_rest}
use Rattle.request_model.specs.Strings.{character}
use Rattle.gql_lex.proofs.StringLemmas.{character_of_len, closed_character, other}
use Rattle.gql_lex.proofs.chars.closed_len.Goals as goal

pub each-preserved : goal.each-preserved
each-preserved c =
    let z = c.args.z.now in
    let w = c.in_ok-at.ensures.within in
    let q = character_of_len _ _ c.in_ok-at.ensures.value in
    let e = sym (ap character (take_rest z c.each.at)) ∙ q.1 in
    let long = rw (take_rest z c.each.at) at w.1 in
    record {
      so_far = c.each.invariant.so_far ∙ closed_character z c.each.at c.in_ok-at.field-0 q.0 c.each-test.true (other z c.each.at c.if-z-at-eq34.false) e w.0 long;
      within = omega (arith, length-drop c.each.at z, long);
    }
