-- The returns of `parse`, over plain variables.
use Rattle.std.proofs.Common.{◌≡◌, ℕ, zero, suc, ◌-◌, ◌<◌, ◌≤◌, List, [], ◌∷◌, ◌++◌, length, take, map, get_or, Option, Some, None, Bool, false, refl, ap, sym, ◌∙◌, subst, arith, length-take, length-append}
use Rattle.std.specs.Prelude.{Result, Ok, Err, IfOk, MatchResult, is_some, not, slice_index}
use Rattle.std.proofs.lemmas.Bool.{false≢true}
use Rattle.std.proofs.lemmas.List.{take-map, get_or-map, length-map}
use Rattle.request_model.specs.declared.token.Token.{Token}
use Rattle.request_model.specs.declared.document.Document.{Document}
use Rattle.request_model.specs.Strings.{Text}
use Rattle.request_model.specs.Lexemes as lex
use Rattle.request_model.specs.Grammar.{Lexeme, IsDocument}
use Rattle.request_model.specs.Place.{lexeme, lexemes_of, length_limit, Derives, Begins, Reads, FaultAt, too_long, at_lexeme, at_bad, at_end}
use Rattle.gql_ast.specs.declared.whole.ParseFault.{ParseFault}
use Rattle.gql_ast.specs.declared.whole.ParseFault.TheVariants.{Syntax, NoMemory}
use Rattle.gql_ast.specs.Reading.{Took, Stops}
use Rattle.gql_ast.specs.Follow.{AtEnd}
use Rattle.gql_ast.specs.Limit.{deep_from, place_of, Parses}
use Rattle.gql_ast.proofs.Steps.{took_from, stops_from}
use Rattle.gql_ast.proofs.RunRules.{RunFault, run_lexeme, run_bad, run_end, ParsesRun, shallow_part, Parses-ok, Parses-late, Parses-out, Parses-stops}

abbrev pub starts : List Token → List ℕ
starts tokens = map (λ t. t.start) tokens

-- ---- from the run to the text

-- a lexeme of a run is one of its tokens
pub record Splits (text : Text) (tokens : List Token) (before : List Lexeme) (t : Lexeme) : Type 0 where
  pub front : List Token
  pub token : Token
  pub back : List Token
  pub cut : tokens ≡ front ++ token ∷ back
  pub same_front : lexemes_of text front ≡ before
  pub same_token : lexeme text token ≡ t
  pub place : slice_index (starts tokens) (length before) ≡ token.start

splits : (text : Text) (tokens : List Token) (before : List Lexeme) (t : Lexeme) (after : List Lexeme) → lexemes_of text tokens ≡ before ++ t ∷ after → Splits text tokens before t
splits text [] [] t after e = let bad : [] ≡ t ∷ after = e in absurd cc
splits text [] (b ∷ before) t after e = let bad : [] ≡ b ∷ (before ++ t ∷ after) = e in absurd cc
splits text (u ∷ tokens) [] t after e = record {
  front = [];
  token = u;
  back = tokens;
  cut = refl;
  same_front = refl;
  same_token = (let q : lexeme text u ∷ lexemes_of text tokens ≡ t ∷ after = e in cc);
  place = refl;
}
splits text (u ∷ tokens) (b ∷ before) t after e =
    let q : lexeme text u ∷ lexemes_of text tokens ≡ b ∷ (before ++ t ∷ after) = e in
    let first : lexeme text u ≡ b = cc in
    let s = splits text tokens before t after (let r : lexemes_of text tokens ≡ before ++ t ∷ after = cc in r) in
    record {
      front = u ∷ s.front;
      token = s.token;
      back = s.back;
      cut = ap (λ x. u ∷ x) s.cut;
      same_front = ap (λ x. x ∷ lexemes_of text s.front) first ∙ ap (λ x. b ∷ x) s.same_front;
      same_token = s.same_token;
      place = s.place;
    }

lexemes_of-append : (text : Text) (xs ys : List Token) → lexemes_of text (xs ++ ys) ≡ lexemes_of text xs ++ lexemes_of text ys
lexemes_of-append text [] ys = refl
lexemes_of-append text (x ∷ xs) ys = ap (λ u. lexeme text x ∷ u) (lexemes_of-append text xs ys)

module _ (text : Text) (tokens : List Token) (bad : Option ℕ) (fits : length text ≤ length_limit) (run : (tokens, bad) ≡ lex.lexemes text) where
  run_tokens : (lex.lexemes text).0 ≡ tokens
  run_tokens = ap (λ r. r.0) (sym run)

  run_bad_at : (lex.lexemes text).1 ≡ bad
  run_bad_at = ap (λ r. r.1) (sym run)

  the_place : (ts : List Lexeme) (places : List ℕ) (b : Option ℕ) (end at : ℕ) → lexemes_of text tokens ≡ ts → starts tokens ≡ places → bad ≡ b → length text ≡ end → RunFault ts places b end at → FaultAt text at
  the_place ts places b end at same same_places same_bad same_end (run_lexeme before t after _ _ _ well wrong) =
      let s = splits text tokens before t after same in
      let one : lexemes_of text (s.front ++ s.token ∷ []) ≡ before ++ t ∷ [] =
      lexemes_of-append text s.front (s.token ∷ []) ∙ ap (λ u. u ++ lexeme text s.token ∷ []) s.same_front ∙ ap (λ u. before ++ u ∷ []) s.same_token in
      subst (FaultAt text) (sym s.place ∙ ap (λ u. slice_index u (length before)) same_places)
      (at_lexeme fits s.front s.token s.back (run_tokens ∙ s.cut) (subst Begins (sym s.same_front) well) (λ h. wrong (subst Begins one h)))
  the_place ts places b end at same same_places same_bad same_end (run_bad _ _ _ _ well) =
      at_bad fits at (run_bad_at ∙ same_bad) (subst (λ u. Begins (lexemes_of text u)) (sym run_tokens) (subst Begins (sym same) well))
  the_place ts places b end at same same_places same_bad same_end (run_end _ _ _ well none) =
      subst (FaultAt text) same_end
      (at_end fits (run_bad_at ∙ same_bad) (subst (λ u. Begins (lexemes_of text u)) (sym run_tokens) (subst Begins (sym same) well))
      (λ d h. none d (subst (λ u. Derives u d) (ap (lexemes_of text) run_tokens ∙ same) h)))

  good_run : (d : Document) → Reads text d → (bad ≡ None) × Derives (lexemes_of text tokens) d
  good_run d h = (sym run_bad_at ∙ h.good, subst (λ u. Derives (lexemes_of text u) d) run_tokens h.derives)

  run_reads : (d : Document) → (bad ≡ None) × Derives (lexemes_of text tokens) d → Reads text d
  run_reads d h = record { fits = fits; good = run_bad_at ∙ h.0; derives = subst (λ u. Derives (lexemes_of text u) d) (sym run_tokens) h.1 }

  pub whole : (result : Result Document ParseFault) → ParsesRun (lexemes_of text tokens) (starts tokens) bad (length text) result → Parses text result
  whole result p = record {
    derived = read result p.derived;
    only = λ d h. let g = good_run d h in p.only d g.0 g.1;
    first = λ at e. the_place (lexemes_of text tokens) (starts tokens) bad (length text) at refl refl refl refl (p.first at e);
  }
    where
      read : (result : Result Document ParseFault) → IfOk result (λ d. (bad ≡ None) × Derives (lexemes_of text tokens) d) → IfOk result (λ d. Reads text d)
      read (Ok d) h = run_reads d h
      read (Err e) h = tt

-- ---- the returns

module _ (text : Text) (tokens : List Token) (bad : Option ℕ) (fits : length text ≤ length_limit) (run : (tokens, bad) ≡ lex.lexemes text) (n : ℕ) (shallow : List Lexeme)
    (is_deep : n ≡ deep_from 0 (lexemes_of text tokens)) (is_part : shallow ≡ lexemes_of text (take n tokens)) where
  part : shallow ≡ shallow_part (lexemes_of text tokens)
  part = is_part ∙ sym (take-map (lexeme text) n tokens) ∙ ap (λ k. take k (lexemes_of text tokens)) is_deep

  same : length (starts tokens) ≡ length (lexemes_of text tokens)
  same = length-map tokens (λ t. t.start) ∙ sym (length-map tokens (lexeme text))

  pub final_ok : (d : Document) (rest : List Lexeme) → n ≡ length tokens → bad ≡ None → rest ≡ [] → Took IsDocument AtEnd shallow d rest → Parses text (Ok d)
  final_ok d rest all good e a =
      whole text tokens bad fits run (Ok d)
      (Parses-ok (lexemes_of text tokens) (starts tokens) bad (length text) same d (sym is_deep ∙ all ∙ sym (length-map tokens (lexeme text))) good
      (subst (λ u. Took IsDocument AtEnd (shallow_part (lexemes_of text tokens)) d u) e (took_from part a)))

  pub final_late : (d : Document) (rest : List Lexeme) (at : ℕ) → ((n ≡ length tokens) × (bad ≡ None) → ⊥) → rest ≡ [] → at ≡ place_of (starts tokens) n bad (length text) →
      Took IsDocument AtEnd shallow d rest → Parses text (Err (Syntax at))
  final_late d rest at more e place a =
      whole text tokens bad fits run (Err (Syntax at))
      (subst (λ u. ParsesRun (lexemes_of text tokens) (starts tokens) bad (length text) (Err (Syntax u))) (sym (place ∙ ap (λ k. place_of (starts tokens) k bad (length text)) is_deep))
      (Parses-late (lexemes_of text tokens) (starts tokens) bad (length text) same d (λ p. more (is_deep ∙ p.0 ∙ length-map tokens (lexeme text), p.1))
      (subst (λ u. Took IsDocument AtEnd (shallow_part (lexemes_of text tokens)) d u) e (took_from part a))))

  pub final_out : (rest : List Lexeme) (at : ℕ) → length rest ≡ 0 → at ≡ place_of (starts tokens) n bad (length text) →
      Stops IsDocument AtEnd shallow rest → Parses text (Err (Syntax at))
  final_out [] at none place a =
      whole text tokens bad fits run (Err (Syntax at))
      (subst (λ u. ParsesRun (lexemes_of text tokens) (starts tokens) bad (length text) (Err (Syntax u))) (sym (place ∙ ap (λ k. place_of (starts tokens) k bad (length text)) is_deep))
      (Parses-out (lexemes_of text tokens) (starts tokens) bad (length text) same (stops_from part a)))
  final_out (t ∷ rest) at none place a = absurd (omega arith)

  pub final_stops : (rest : List Lexeme) (left : ℕ) (d : Token) → left ≡ length rest → 0 < left → n ≤ length tokens →
      Stops IsDocument AtEnd shallow rest → Parses text (Err (Syntax (get_or tokens (n - left) d).start))
  final_stops rest left d e some fewer a =
      whole text tokens bad fits run (Err (Syntax (get_or tokens (n - left) d).start))
      (subst (λ u. ParsesRun (lexemes_of text tokens) (starts tokens) bad (length text) (Err (Syntax u)))
      (ap (λ k. get_or (starts tokens) k 0) (ap (λ k. k - length rest) (sym is_deep) ∙ ap (λ k. n - k) (sym e)) ∙ get_or-map (λ t. t.start) tokens (n - left) d 0 (omega (arith, ap length a.cut, length-append a.front rest, ap length is_part, length-map (take n tokens) (lexeme text), length-take n tokens)))
      (Parses-stops (lexemes_of text tokens) (starts tokens) bad (length text) same rest (omega arith) (stops_from part a)))

pub not_none : (o : Option ℕ) (r : Bool) → is_some o ≡ not r → r ≡ false → o ≡ None → ⊥
not_none o r e f g = false≢true (ap is_some (sym g) ∙ e ∙ ap not f)

pub too_long_first : (text : Text) → length_limit < length text → (at : ℕ) → ◌≡◌ {A = Result Document ParseFault} (Err (Syntax length_limit)) (Err (Syntax at)) → FaultAt text at
too_long_first text h at e = let q : length_limit ≡ at = cc in subst (FaultAt text) q (too_long h)
