-- Histories that go on.
use Rattle.std.proofs.Common.{◌≡◌, ◌≢◌, ℕ, eqb, zero, suc, ◌⊎◌, inl, inr, ⊎_elim, ◌<◌, ◌≤◌, List, [], ◌∷◌, ◌++◌, take, length, Bool, true, false, cond, ltb, refl, sym, ap, ◌∙◌, subst, arith, length-append, append_assoc, eq-eqb, ne_eqb}
use Rattle.std.proofs.lemmas.List.{append-nil, take-append-le, map-append, append_cancel_left}
use mathlib.Core.Option.{some, some-injective, some-ne-none}
use lib.ListN.{get_elem?}
use Rattle.history_lock.specs.declared.known.Entry.{Entry}
use Rattle.std.proofs.lemmas.Bool.Decides.{nat_tests}
use Rattle.history_lock.specs.History.{longer}
use Rattle.history_lock.specs.History.{entry, event_of, events, own, Extends}

module _ {A : Type 0} where
  -- the last element, or one of those before
  pub at_end : (l : List A) (a b : A) (j : ℕ) → get_elem? (l ++ a ∷ []) j ≡ some b → (get_elem? l j ≡ some b) ⊎ ((a ≡ b) × (j ≡ length l))
  at_end [] a b zero e = inr (some-injective a b e, refl)
  at_end [] a b (suc j) e = absurd (some-ne-none b (sym e))
  at_end (x ∷ xs) a b zero e = inl e
  at_end (x ∷ xs) a b (suc j) e = ⊎_elim (λ t. inl t) (λ t. inr (t.0, ap suc t.1)) (at_end xs a b j e)

  pub at_within : (l : List A) (j : ℕ) (b : A) → get_elem? l j ≡ some b → j < length l
  at_within [] j b e = absurd (some-ne-none b (sym e))
  at_within (x ∷ xs) zero b e = omega arith
  at_within (x ∷ xs) (suc j) b e = let h = at_within xs j b e in omega arith

module _ {E : Type 0} where
  own-cons : (n : ℕ) (x : Entry E) (xs ys : List (Entry E)) (b : Bool) → cond b (x ∷ (xs ++ ys)) (xs ++ ys) ≡ cond b (x ∷ xs) xs ++ ys
  own-cons n x xs ys true = refl
  own-cons n x xs ys false = refl

  pub own-append : (n : ℕ) (xs ys : List (Entry E)) → own n (xs ++ ys) ≡ own n xs ++ own n ys
  own-append n [] ys = refl
  own-append n (x ∷ xs) ys = ap (λ zs. cond (eqb x.pass n) (x ∷ zs) zs) (own-append n xs ys) ∙ own-cons n x (own n xs) (own n ys) (eqb x.pass n)

  pub own_other : (n m : ℕ) (e : E) → m ≢ n → own n (entry m e ∷ []) ≡ []
  own_other n m e apart = ap (λ b. cond b (entry m e ∷ []) []) (ne_eqb m n apart)

  pub own_mine : (n : ℕ) (e : E) → own n (entry n e ∷ []) ≡ entry n e ∷ []
  own_mine n e = ap (λ b. cond b (entry n e ∷ []) []) (eq-eqb n n refl)

  nil_left : (xs ys : List (Entry E)) → xs ++ ys ≡ [] → xs ≡ []
  nil_left [] ys e = refl
  nil_left (x ∷ xs) ys e = absurd (cc)

  nil_right : (xs ys : List (Entry E)) → xs ++ ys ≡ [] → ys ≡ []
  nil_right [] ys e = e
  nil_right (x ∷ xs) ys e = absurd (cc)

  pub extends_same : (n : ℕ) (xs : List (Entry E)) → Extends n xs xs
  extends_same n xs = record { rest = []; whole = sym (append-nil xs); others = refl }

  -- the history grows by entries of others
  pub extends_on : (n : ℕ) (xs log more : List (Entry E)) → Extends n xs log → own n more ≡ [] → Extends n xs (log ++ more)
  extends_on n xs log more g none = record {
    rest = g.rest ++ more;
    whole = ap (λ l. l ++ more) g.whole ∙ append_assoc xs g.rest more;
    others = own-append n g.rest more ∙ ap (λ l. l ++ own n more) g.others ∙ none;
  }

  -- what is as long as the history is the history
  pub extends_whole : (n : ℕ) (xs log : List (Entry E)) → Extends n xs log → length log ≤ length xs → log ≡ xs
  extends_whole n xs log g short = whole_of g.rest g.whole
    where
      whole_of : (rest : List (Entry E)) → log ≡ xs ++ rest → log ≡ xs
      whole_of [] e = e ∙ append-nil xs
      whole_of (y ∷ ys) e = absurd (omega (arith, ap length e, length-append xs (y ∷ ys)))

  pub extends_long : (n : ℕ) (xs log : List (Entry E)) → Extends n xs log → length xs ≤ length log
  extends_long n xs log g = omega (arith, ap length g.whole, length-append xs g.rest)

  -- of two beginnings of one list the shorter begins the longer
  pub begins : (xs ys p q : List (Entry E)) → xs ++ p ≡ ys ++ q → length xs ≤ length ys → (rest : List (Entry E)) × (ys ≡ xs ++ rest)
  begins [] ys p q e short = (ys, refl)
  begins (x ∷ xs) [] p q e short = absurd (omega arith)
  begins (x ∷ xs) (y ∷ ys) p q e short =
      let heads : x ≡ y = cc in
      let tails : xs ++ p ≡ ys ++ q = cc in
      let more = begins xs ys p q tails (omega arith) in
      (more.0, (λ i. sym heads i ∷ more.1 i))

  -- a longer list that begins the history is seen instead
  pub extends_longer : (n : ℕ) (xs ys log rest more : List (Entry E)) → Extends n xs log → ys ≡ xs ++ more → log ≡ ys ++ rest → Extends n ys log
  extends_longer n xs ys log rest more g e f =
      let h : g.rest ≡ more ++ rest = append_cancel_left xs g.rest (more ++ rest) (sym g.whole ∙ f ∙ ap (λ l. l ++ rest) e ∙ append_assoc xs more rest) in
      record {
        rest = rest;
        whole = f;
        others = nil_right (own n more) (own n rest) (sym (own-append n more rest) ∙ sym (ap (own n) h) ∙ g.others);
      }

  pub extends_part : (n : ℕ) (xs ys log rest more : List (Entry E)) → Extends n xs log → ys ≡ xs ++ more → log ≡ ys ++ rest → Extends n xs ys
  extends_part n xs ys log rest more g e f =
      let h : g.rest ≡ more ++ rest = append_cancel_left xs g.rest (more ++ rest) (sym g.whole ∙ f ∙ ap (λ l. l ++ rest) e ∙ append_assoc xs more rest) in
      record { rest = more; whole = e; others = nil_left (own n more) (own n rest) (sym (own-append n more rest) ∙ sym (ap (own n) h) ∙ g.others) }

  pub take_events : (k : ℕ) (xs log : List (Entry E)) (n : ℕ) → Extends n xs log → k ≤ length xs → take k (events log) ≡ take k (events xs)
  take_events k xs log n g within =
      ap (λ l. take k (events l)) g.whole ∙ ap (take k) (map-append event_of xs g.rest) ∙ take-append-le k (events xs) (events g.rest) (subst (λ m. k ≤ m) (sym (length_events xs)) within)
    where
      length_events : (zs : List (Entry E)) → length (events zs) ≡ length zs
      length_events [] = refl
      length_events (z ∷ zs) = ap suc (length_events zs)

  pub extends_none : (n : ℕ) (xs log : List (Entry E)) → Extends n xs log → own n log ≡ [] → own n xs ≡ []
  extends_none n xs log g none = nil_left (own n xs) (own n g.rest) (sym (own-append n xs g.rest) ∙ sym (ap (own n) g.whole) ∙ none)

  -- no own entries in the whole, and so none in what comes behind
  pub tail_none : (n : ℕ) (xs rest : List (Entry E)) → own n xs ++ own n rest ≡ [] → own n rest ≡ []
  tail_none n xs rest e = nil_right (own n xs) (own n rest) e

  -- two lists that both go on to the history: the longer one begins with both, and has no entry of either beyond its own
  pub longer_of : (n m : ℕ) (xs ys log : List (Entry E)) → Extends n xs log → Extends m ys log → Extends n (longer xs ys) log × Extends n xs (longer xs ys) × Extends m ys (longer xs ys)
  longer_of n m xs ys log g h = by_cases (ltb (length xs) (length ys)) refl
    where
      by_cases : (b : Bool) → ltb (length xs) (length ys) ≡ b → Extends n (cond b ys xs) log × Extends n xs (cond b ys xs) × Extends m ys (cond b ys xs)
      by_cases true is = let less : length xs < length ys = grind (arith, nat_tests) in
          let more = begins xs ys g.rest h.rest (sym g.whole ∙ h.whole) (omega arith) in
          (extends_longer n xs ys log h.rest more.0 g more.1 h.whole, extends_part n xs ys log h.rest more.0 g more.1 h.whole, extends_same m ys)
      by_cases false is = let less : length ys ≤ length xs = grind (arith, nat_tests) in
          let more = begins ys xs h.rest g.rest (sym h.whole ∙ g.whole) less in
          (g, extends_same n xs, extends_part m ys xs log g.rest more.0 h more.1 g.whole)

  pub extends_trans : (n : ℕ) (xs ys zs : List (Entry E)) → Extends n xs ys → Extends n ys zs → Extends n xs zs
  extends_trans n xs ys zs g h = subst (λ l. Extends n xs l) (sym h.whole) (extends_on n xs ys h.rest g h.others)

  pub take_all : (xs : List (Entry E)) → take (length xs) (events xs) ≡ events xs
  take_all [] = refl
  take_all (x ∷ xs) = ap (λ (zs : List E). x.event ∷ zs) (take_all xs)

  pub events_more : (xs : List (Entry E)) (n : ℕ) (e : E) → events (xs ++ entry n e ∷ []) ≡ events xs ++ e ∷ []
  events_more xs n e = map-append event_of xs (entry n e ∷ [])

  pub length_events : (zs : List (Entry E)) → length (events zs) ≡ length zs
  length_events [] = refl
  length_events (z ∷ zs) = ap suc (length_events zs)

  -- what a pass has seen beyond its list changes nothing of its own entries
  pub own_extends : (n : ℕ) (xs ys : List (Entry E)) → Extends n xs ys → own n ys ≡ own n xs
  own_extends n xs ys g = ap (own n) g.whole ∙ own-append n xs g.rest ∙ ap (λ l. own n xs ++ l) g.others ∙ append-nil (own n xs)

  -- a pass sees the history, and gives one event
  pub own_given : (n : ℕ) (xs ys : List (Entry E)) (e : E) → Extends n xs ys → own n (ys ++ entry n e ∷ []) ≡ own n xs ++ entry n e ∷ []
  own_given n xs ys e g = own-append n ys (entry n e ∷ []) ∙ (λ i. own_extends n xs ys g i ++ own_mine n e i)
