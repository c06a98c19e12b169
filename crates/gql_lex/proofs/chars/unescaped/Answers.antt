use Rattle.std.proofs.Common.{◌-◌, ◌∙◌, ◌++◌, refl, ap, sym, subst, arith}
use Rattle.std.specs.Prelude.{string_bytes, slice_range}
use Rattle.std.specs.Str.{IsCharBoundary}
use Rattle.std.proofs.lemmas.Str.{IsCharBoundary-start, IsCharBoundary-after_ascii}
use Rattle.request_model.specs.Strings.{unescaped_from, unescaped}
use Rattle.gql_lex.proofs.StringLemmas.{unescaped_turn, unescaped_last, unescaped_end}
use Rattle.gql_lex.proofs.chars.unescaped.Goals as goal

pub each-init : goal.each-init
each-init c = record { so_far = rw c.new-out.ensures.bytes refl; cut = IsCharBoundary-start _ c.as_bytes-bytes.ensures.utf8 }

pub returns-in_default : goal.returns-in_default
unfolding unescaped
returns-in_default c =
    c.from_string.ensures ∙ unescaped_last c.as_bytes-bytes.result.now _ c.each.at c.each.invariant.so_far _ _ c.plain_end-end.result c.plain_end-end.ensures.text (c.in_default.ensures.none refl)
    (c.in_ok-add_text.ensures ∙ ap (λ u. string_bytes c.each.out ++ u) (c.range.ensures.value ∙ ap (λ u. slice_range u c.each.at c.plain_end-end.result) (sym c.as_bytes-bytes.ensures.value)))
    ∙ ap (unescaped_from 0) c.as_bytes-bytes.ensures.value

pub each-preserved : goal.each-preserved
each-preserved c =
    let z = c.as_bytes-bytes.result.now in
    let next = c.in-Some.next in
    record {
      so_far = unescaped_turn z _ c.each.at c.each.invariant.so_far _ _ _ _ c.plain_end-end.result next c.plain_end-end.ensures.text c.in-Some.ensures.some
          (c.in_ok-add_text.ensures ∙ ap (λ u. string_bytes c.each.out ++ u) (c.range.ensures.value ∙ ap (λ u. slice_range u c.each.at c.plain_end-end.result) (sym c.as_bytes-bytes.ensures.value)))
          c.in_ok-add_char.ensures;
      cut = subst (IsCharBoundary z) (omega (arith, c.in-Some.ensures.within.0)) (IsCharBoundary-after_ascii z (next - 1) c.as_bytes-bytes.ensures.utf8 (omega (arith, c.in-Some.ensures.within.0, c.in-Some.ensures.within.1)) c.in-Some.ensures.ascii);
    }

pub returns : goal.returns
unfolding unescaped
returns c = c.from_string-2.ensures ∙ unescaped_end _ _ c.each.at c.each.invariant.so_far c.each-test.false ∙ ap (unescaped_from 0) c.as_bytes-bytes.ensures.value
