-- Where the lexemes stand a text may be cut.
use Rattle.std.proofs.Common.{◌≡◌, ◌+◌, ◌-◌, ◌<◌, ◌≤◌, ℕ, List, [], ◌∷◌, length, ap, sym, ◌∙◌, subst, arith}
use Rattle.std.specs.Str.{IsUtf8, IsCharBoundary}
use Rattle.std.proofs.lemmas.Str.{IsCharBoundary-before_ascii, IsCharBoundary-after_ascii}
use Rattle.request_model.specs.declared.token.Token.{Token}
use Rattle.request_model.specs.Strings.{Text}
use Rattle.request_model.specs.Lexemes.{Run, lexemes}
use Rattle.gql_lex.specs.Spans.{IsSpan, AreSpans}
use Rattle.gql_ast.specs.Cuts.{IsTokenCut, AreCuts}

token_cut : (text : Text) (t : Token) → IsUtf8 text → IsSpan text t → IsTokenCut text t
token_cut text t u s =
    let on : t.start < t.end = s.on in
    let within : t.end ≤ length text = s.within in
    let ends : IsCharBoundary text t.end = subst (IsCharBoundary text) (let k : t.end - 1 + 1 ≡ t.end = omega arith in k) (IsCharBoundary-after_ascii text (t.end - 1) u (omega arith) s.last) in (
      (omega arith, IsCharBoundary-before_ascii text t.start (omega arith) s.first, ends),
      λ q.
          let two : t.start + 2 ≤ t.end = s.quotes q in
          (omega arith, IsCharBoundary-after_ascii text t.start u (omega arith) s.first, IsCharBoundary-before_ascii text (t.end - 1) (omega arith) s.last),
    )

pub cuts : (text : Text) (ts : List Token) → IsUtf8 text → AreSpans text ts → AreCuts text ts
cuts text [] u h = tt
cuts text (t ∷ ts) u h = (token_cut text t u h.0, cuts text ts u h.1)

pub cuts_of : (text : Text) (ts : List Token) (run : Run) → ts ≡ run.0 → run ≡ lexemes text → IsUtf8 text → ((text : Text) → AreSpans text (lexemes text).0) → AreCuts text ts
cuts_of text ts run e f u spans = subst (AreCuts text) (sym (e ∙ ap (λ r. r.0) f)) (cuts text (lexemes text).0 u (spans text))
