-- The limit on brackets, and the place of the fault in a run of lexemes.
use Rattle.std.proofs.Common.{◌≡◌, ℕ, suc, ◌-◌, ◌<◌, ◌≤◌, Bool, true, false, List, [], ◌∷◌, ◌++◌, length, take, drop, Option, Some, None, cond, refl, ap, sym, ◌∙◌, subst, arith, append_assoc, append-nil, length-drop, length-take, length-append}
use Rattle.std.proofs.lemmas.List.{take-append-drop}
use Rattle.std.proofs.Math.Seq.{take-length}
use Rattle.std.specs.Prelude.{slice_index, unwrap_or, nat_lt, if◌then◌else◌, Result, Ok, Err, IfOk, MatchResult}
use Rattle.std.proofs.lemmas.Bool.{le-ltb, lt-ltb}
use Rattle.request_model.specs.declared.document.Document.{Document}
use Rattle.request_model.specs.Grammar.{Lexeme, IsDocument}
use Rattle.request_model.specs.Place.{level_after, opens_65th, IsShallow, Derives, Begins}
use Rattle.gql_ast.specs.declared.whole.ParseFault.{ParseFault}
use Rattle.gql_ast.specs.declared.whole.ParseFault.TheVariants.{Syntax, NoMemory}
use Rattle.gql_ast.specs.Reading.{Took, Stops}
use Rattle.gql_ast.specs.Follow.{AtEnd}
use Rattle.gql_ast.specs.Limit.{deep_from, place_of}

-- the first fault of a run of lexemes that start there, before a bad lexeme or the end
pub data RunFault : List Lexeme → List ℕ → Option ℕ → ℕ → ℕ → Type 0 where
  run_lexeme : (before : List Lexeme) (t : Lexeme) (after : List Lexeme) (starts : List ℕ) (bad : Option ℕ) (end : ℕ) → Begins before → (Begins (before ++ t ∷ []) → ⊥) →
      RunFault (before ++ t ∷ after) starts bad end (slice_index starts (length before))
  run_bad : (ts : List Lexeme) (starts : List ℕ) (at end : ℕ) → Begins ts → RunFault ts starts (Some at) end at
  run_end : (ts : List Lexeme) (starts : List ℕ) (end : ℕ) → Begins ts → ((d : Document) → Derives ts d → ⊥) → RunFault ts starts None end end

-- what parsing a run of lexemes gives
pub record ParsesRun (ts : List Lexeme) (starts : List ℕ) (bad : Option ℕ) (end : ℕ) (result : Result Document ParseFault) : Type 0 where
  pub derived : IfOk result (λ d. (bad ≡ None) × Derives ts d)
  pub only : (d : Document) → bad ≡ None → Derives ts d → MatchResult result (λ x. x ≡ d) (λ e. e ≡ NoMemory)
  pub first : (at : ℕ) → result ≡ Err (Syntax at) → RunFault ts starts bad end at

-- ---- the limit

IsShallow-front : (level : ℕ) (a b : List Lexeme) → IsShallow level (a ++ b) → IsShallow level a
IsShallow-front level [] b h = tt
IsShallow-front level (t ∷ a) b h = (h.0, IsShallow-front (level_after level t) a b h.1)

pub deep_le : (level : ℕ) (ts : List Lexeme) → deep_from level ts ≤ length ts
deep_le level [] = omega arith
deep_le level (t ∷ ts) = go (opens_65th level t) (deep_le (level_after level t) ts)
  where
    go : (b : Bool) → deep_from (level_after level t) ts ≤ length ts → cond b 0 (suc (deep_from (level_after level t) ts)) ≤ suc (length ts)
    go true h = omega arith
    go false h = omega arith

-- the lexemes before the first bracket that is too deep, and the rest
pub record Cut (level : ℕ) (ts : List Lexeme) : Type 0 where
  pub shallow : IsShallow level (take (deep_from level ts) ts)
  pub deep : (t : Lexeme) (after : List Lexeme) → ts ≡ take (deep_from level ts) ts ++ t ∷ after → IsShallow level (take (deep_from level ts) ts ++ t ∷ []) → ⊥

pub cut : (level : ℕ) (ts : List Lexeme) → Cut level ts
cut level [] = record { shallow = tt; deep = λ t after e h. let bad : [] ≡ t ∷ after = e in absurd cc }
cut level (u ∷ ts) = go (opens_65th level u) refl (cut (level_after level u) ts)
  where
    go : (b : Bool) → opens_65th level u ≡ b → Cut (level_after level u) ts → Cut level (u ∷ ts)
    go true e c = record {
      shallow = rw e tt;
      deep = rw e (λ t after same h. let q : u ≡ t = cc in let r : opens_65th level t ≡ true = subst (λ x. opens_65th level x ≡ true) q e in let s = h.0 in cc);
    }
    go false e c = record {
      shallow = rw e (e, c.shallow);
      deep = rw e (λ t after same h. c.deep t after (let q : ts ≡ take (deep_from (level_after level u) ts) ts ++ t ∷ after = cc in q) h.1);
    }

-- ---- the whole

abbrev pub shallow_part : List Lexeme → List Lexeme
shallow_part ts = take (deep_from 0 ts) ts

-- no document stands from the front of a text that is too deep
too_deep : (ts : List Lexeme) (t : Lexeme) (after : List Lexeme) → ts ≡ shallow_part ts ++ t ∷ after → IsShallow 0 ts → ⊥
too_deep ts t after e h = (cut 0 ts).deep t after e (IsShallow-front 0 (shallow_part ts ++ t ∷ []) after (subst (λ u. IsShallow 0 u) (e ∙ sym (append_assoc (shallow_part ts) (t ∷ []) after)) h))

module _ (ts : List Lexeme) (starts : List ℕ) (bad : Option ℕ) (end : ℕ) (same : length starts ≡ length ts) where
  -- all lexemes before the first that is too deep are well
  late : Begins (shallow_part ts) → ((d : Document) → shallow_part ts ≡ ts → bad ≡ None → Derives ts d → ⊥) → ParsesRun ts starts bad end (Err (Syntax (place_of starts (deep_from 0 ts) bad end)))
  late v none = go (drop (deep_from 0 ts) ts) refl
    where
      bad_or_end : (b : Option ℕ) → bad ≡ b → Begins ts → ((d : Document) → bad ≡ None → Derives ts d → ⊥) → RunFault ts starts b end (unwrap_or b end)
      bad_or_end (Some at) e w n = run_bad ts starts at end w
      bad_or_end None e w n = run_end ts starts end w (λ d h. n d e h)

      go : (rest : List Lexeme) → drop (deep_from 0 ts) ts ≡ rest → ParsesRun ts starts bad end (Err (Syntax (place_of starts (deep_from 0 ts) bad end)))
      go [] e =
          let whole : shallow_part ts ≡ ts = sym (append-nil (shallow_part ts)) ∙ ap (λ u. shallow_part ts ++ u) (sym e) ∙ take-append-drop (deep_from 0 ts) ts in
          let long : length ts ≤ deep_from 0 ts = omega (arith, length-drop (deep_from 0 ts) ts, ap length e) in
          let place : place_of starts (deep_from 0 ts) bad end ≡ unwrap_or bad end = rw (le-ltb (deep_from 0 ts) (length starts) (omega arith)) in
          record {
            derived = tt;
            only = λ d good h. absurd (none d whole good h);
            first = λ at eq. let q : at ≡ place_of starts (deep_from 0 ts) bad end = cc in
                subst (λ u. RunFault ts starts bad end u) (sym (q ∙ place)) (bad_or_end bad refl (subst (λ u. Begins u) whole v) (λ d good h. none d whole good h));
          }
      go (t ∷ after) e =
          let whole : ts ≡ shallow_part ts ++ t ∷ after = sym (take-append-drop (deep_from 0 ts) ts) ∙ ap (λ u. shallow_part ts ++ u) e in
          let short : deep_from 0 ts < length ts = omega (arith, length-drop (deep_from 0 ts) ts, ap length e) in
          let len : length (shallow_part ts) ≡ deep_from 0 ts = omega (arith, length-take (deep_from 0 ts) ts) in
          let place : place_of starts (deep_from 0 ts) bad end ≡ slice_index starts (deep_from 0 ts) = rw (lt-ltb (deep_from 0 ts) (length starts) (omega arith)) in
          record {
            derived = tt;
            only = λ d good h. absurd (too_deep ts t after whole h.1);
            first = λ at eq. let q : at ≡ place_of starts (deep_from 0 ts) bad end = cc in
                subst (λ u. RunFault u starts bad end at) (sym whole) (subst (λ u. RunFault (shallow_part ts ++ t ∷ after) starts bad end u) (ap (slice_index starts) len ∙ sym (q ∙ place))
                (run_lexeme (shallow_part ts) t after starts bad end v (λ w. (cut 0 ts).deep t after whole w.0)));
          }

  none_left : (t : Lexeme) (r : List Lexeme) → [] ≡ t ∷ r → ⊥
  none_left t r e = cc

  viable_of : (front more : List Lexeme) (d : Document) → (rest : List Lexeme) → shallow_part ts ≡ front ++ rest → IsDocument (front ++ more) d [] → Begins front
  viable_of front more d rest e h = (IsShallow-front 0 front rest (subst (λ u. IsShallow 0 u) e (cut 0 ts).shallow), (more, d, h))

  -- a document was read up to the end
  ended : (d : Document) → Took IsDocument AtEnd (shallow_part ts) d [] → IsDocument (shallow_part ts) d []
  ended d a = subst (λ u. IsDocument u d []) (sym a.cut) (a.stands [])

  pub Parses-ok : (d : Document) → deep_from 0 ts ≡ length ts → bad ≡ None → Took IsDocument AtEnd (shallow_part ts) d [] → ParsesRun ts starts bad end (Ok d)
  Parses-ok d all good a =
      let whole : shallow_part ts ≡ ts = rw all (take-length ts) in
      record {
        derived = (good, (subst (λ u. IsDocument u d []) whole (ended d a), subst (λ u. IsShallow 0 u) whole (cut 0 ts).shallow));
        only = λ d' _ h.
            let h' : IsDocument (a.front ++ []) d' [] = subst (λ u. IsDocument u d' []) (sym whole ∙ a.cut) h.0 in
            sym (a.only [] refl d' [] h' refl).0;
        first = λ at e. absurd cc;
      }

  pub Parses-late : (d : Document) → ((deep_from 0 ts ≡ length ts) × (bad ≡ None) → ⊥) → Took IsDocument AtEnd (shallow_part ts) d [] → ParsesRun ts starts bad end (Err (Syntax (place_of starts (deep_from 0 ts) bad end)))
  Parses-late d more a =
      late (viable_of (shallow_part ts) [] d [] (sym (append-nil (shallow_part ts))) (subst (λ u. IsDocument u d []) (sym (append-nil (shallow_part ts))) (ended d a)))
      (λ d' whole good _. more (let n : length (shallow_part ts) ≡ length ts = ap length whole in omega (arith, length-take (deep_from 0 ts) ts, deep_le 0 ts), good))

  pub Parses-out : Stops IsDocument AtEnd (shallow_part ts) [] → ParsesRun ts starts bad end (Err (Syntax (place_of starts (deep_from 0 ts) bad end)))
  Parses-out a =
      let front_is : shallow_part ts ≡ a.front = a.cut ∙ append-nil a.front in
      late (viable_of (shallow_part ts) (a.more ++ []) a.whole [] (sym (append-nil (shallow_part ts))) (subst (λ u. IsDocument (u ++ (a.more ++ [])) a.whole []) (sym front_is) (a.goes_on [])))
      (λ d whole good h. a.never [] refl d [] (subst (λ u. IsDocument u d []) (sym whole ∙ a.cut) h.0) refl)

  pub Parses-stops : (rest : List Lexeme) → 0 < length rest → Stops IsDocument AtEnd (shallow_part ts) rest → ParsesRun ts starts bad end (Err (Syntax (slice_index starts (deep_from 0 ts - length rest))))
  Parses-stops [] some a = absurd (omega arith)
  Parses-stops (t ∷ r) some a =
      let after = r ++ drop (deep_from 0 ts) ts in
      let whole : ts ≡ a.front ++ (t ∷ after) = sym (take-append-drop (deep_from 0 ts) ts) ∙ ap (λ u. u ++ drop (deep_from 0 ts) ts) a.cut ∙ append_assoc a.front (t ∷ r) (drop (deep_from 0 ts) ts) in
      let len : length a.front ≡ deep_from 0 ts - length (t ∷ r) = omega (arith, deep_le 0 ts, length-take (deep_from 0 ts) ts, ap length a.cut, length-append a.front (t ∷ r)) in
      record {
        derived = tt;
        only = λ d good h. absurd (a.never (t ∷ after) (after, refl) d [] (subst (λ u. IsDocument u d []) whole h.0) refl);
        first = λ at eq.
            let q : at ≡ slice_index starts (deep_from 0 ts - length (t ∷ r)) = cc in
            subst (λ u. RunFault u starts bad end at) (sym whole) (subst (λ u. RunFault (a.front ++ (t ∷ after)) starts bad end u) (ap (slice_index starts) len ∙ sym q)
            (run_lexeme a.front t after starts bad end (viable_of a.front (a.more ++ []) a.whole (t ∷ r) a.cut (a.goes_on []))
            (λ w. a.never (t ∷ w.1.0) (w.1.0, refl) w.1.1 [] (subst (λ u. IsDocument u w.1.1 []) (append_assoc a.front (t ∷ []) w.1.0) w.1.2) refl)));
      }
