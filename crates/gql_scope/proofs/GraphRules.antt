-- What is marked is what is reached.
use Rattle.std.proofs.Common.{
  ◌≡◌,
  ◌∙◌,
  ◌⊎◌,
  inl,
  inr,
  ◌<◌,
  ◌+◌,
  ◌*◌,
  ◌≤◌,
  length-append,
  ◌||◌,
  ◌&&◌,
  ◌↔◌,
  nat_eq,
  not,
  sym,
  ap,
  refl,
  subst,
  arith,
  ℕ,
  zero,
  suc,
  Bool,
  true,
  false,
  List,
  [],
  ◌∷◌,
  ◌++◌,
  length,
  get_or,
  set,
  IsTrue,
}
use Rattle.std.proofs.lemmas.List.Folds.{list_any-append}
use Rattle.gql_scope.specs.Graph.{is_in, is_marked, targets_at, AreBelow, AllBelow, unmarked, Reaches, starts, goes}
use Rattle.std.proofs.lemmas.Bool.{or_cases, or_left, or_right, or_parts, and_parts}
use Rattle.gql_scope.proofs.TruthRules.{same_number, itself}

pub unmarked_set : (ms : List Bool) (k : ℕ) → k < length ms → is_marked ms k ≡ false →
    unmarked (set ms k true) + 1 ≡ unmarked ms
unmarked_set [] k lt h = absurd (omega (arith, lt))
unmarked_set (true ∷ ms) zero lt h = cc
unmarked_set (false ∷ ms) zero lt h = refl
unmarked_set (true ∷ ms) (suc k) lt h = unmarked_set ms k (omega (arith, lt)) h
unmarked_set (false ∷ ms) (suc k) lt h = ap (λ n. n + 1) (unmarked_set ms k (omega (arith, lt)) h)

pub less_unmarked : (ms : List Bool) (w more : List ℕ) (t : ℕ) → t < length ms → is_marked ms t ≡ false →
    more ≡ w ++ t ∷ [] → 2 * unmarked (set ms t true) + length more ≤ 2 * unmarked ms + length w
less_unmarked ms w more t lt h e = omega (arith, unmarked_set ms t lt h, ap length e ∙ length-append w (t ∷ []))

pub read_false : (ms : List Bool) (i : ℕ) (b : Bool) → b ≡ get_or ms i b → b ≡ false → is_marked ms i ≡ false
read_false ms i b e f = ap (λ d. get_or ms i d) (sym f) ∙ sym e ∙ f

pub marked_within : (ms : List Bool) (k : ℕ) → is_marked ms k ≡ true → k < length ms
marked_within [] k h = cc
marked_within (m ∷ ms) zero h = omega arith
marked_within (m ∷ ms) (suc k) h = omega (arith, marked_within ms k h)

pub all_at : (n : ℕ) (edges : List (List ℕ)) (j : ℕ) → AllBelow n edges → AreBelow n (targets_at edges j)
all_at n [] j h = refl
all_at n (ts ∷ edges) zero h = (and_parts _ _ h).0
all_at n (ts ∷ edges) (suc j) h = all_at n edges j (and_parts _ _ h).1

-- ---- the marks on the way: each that is marked is reached, and waits for its targets to be marked, or they are

pub record Marking (edges : List (List ℕ)) (start : List ℕ) (marks : List Bool) (waiting : List ℕ) : Type 0 where
  pub len : length marks ≡ length edges
  pub reached : (k : ℕ) → IsTrue (is_marked marks k) → Reaches edges start k
  pub started : (k : ℕ) → IsTrue (is_in k start) → IsTrue (is_marked marks k)
  pub waits : (k : ℕ) → IsTrue (is_in k waiting) → IsTrue (is_marked marks k)
  pub closed : (j : ℕ) → IsTrue (is_marked marks j) → is_in j waiting ≡ false → (k : ℕ) →
      IsTrue (is_in k (targets_at edges j)) → IsTrue (is_marked marks k)

module _ (edges : List (List ℕ)) (start : List ℕ) where
  pub begun : (none marks : List Bool) (nobody waiting : List ℕ) → nobody ≡ [] → length none ≡ length edges →
      ((k : ℕ) → is_marked none k ≡ false) → length marks ≡ length none →
      ((k : ℕ) → is_marked marks k ≡ (is_marked none k || is_in k start)) →
      ((k : ℕ) → is_in k waiting ≡ (is_in k nobody || (not (is_marked none k) && is_in k start))) →
      Marking edges start marks waiting
  begun none marks nobody waiting empty len unset same marked waits = record {
    len = same ∙ len;
    reached = λ k h. starts k (marked_start k h);
    started = λ k h. marked k ∙ or_right (is_marked none k) _ h;
    waits = λ k h. marked k ∙ or_right (is_marked none k) _ (waiting_start k h);
    closed = λ j h out k t. absurd (no_wait j (marked_start j h) out);
  }
    where
      marked_start : (k : ℕ) → IsTrue (is_marked marks k) → IsTrue (is_in k start)
      marked_start k h = sym (ap (λ b. b || is_in k start) (unset k)) ∙ sym (marked k) ∙ h

      all_start : (k : ℕ) → (is_in k nobody || (not (is_marked none k) && is_in k start)) ≡ is_in k start
      all_start k = ap (λ xs. is_in k xs || (not (is_marked none k) && is_in k start)) empty
          ∙ ap (λ b. not b && is_in k start) (unset k)

      waiting_start : (k : ℕ) → IsTrue (is_in k waiting) → IsTrue (is_in k start)
      waiting_start k h = sym (all_start k) ∙ sym (waits k) ∙ h

      no_wait : (k : ℕ) → IsTrue (is_in k start) → is_in k waiting ≡ false → ⊥
      no_wait k h out = let e : is_in k start ≡ false = sym (all_start k) ∙ sym (waits k) ∙ out in
          let f : true ≡ false = sym h ∙ e in cc

  last_in : (w rest : List ℕ) (next k : ℕ) → w ≡ rest ++ next ∷ [] → is_in k w
      ≡ (is_in k rest || (nat_eq k next || false))
  last_in w rest next k e = ap (is_in k) e ∙ list_any-append (nat_eq k) rest (next ∷ [])

  module _ (marks after : List Bool) (w rest new : List ℕ) (next : ℕ) (was : Marking edges start marks w)
      (popped : w ≡ rest ++ next ∷ []) (same : length after ≡ length marks)
      (marked : (k : ℕ) → is_marked after k ≡ (is_marked marks k || is_in k (targets_at edges next)))
      (waits : (k : ℕ) → is_in k new ≡ (is_in k rest
      || (not (is_marked marks k) && is_in k (targets_at edges next)))) where
    next_marked : IsTrue (is_marked marks next)
    next_marked = was.waits next (last_in w rest next next popped
        ∙ or_right (is_in next rest) _ (or_left (nat_eq next next) false (itself next)))

    reached_by : (k : ℕ) → (is_marked marks k ≡ true) ⊎ (is_in k (targets_at edges next) ≡ true) → Reaches edges start k
    reached_by k (inl h) = was.reached k h
    reached_by k (inr h) = goes next k (was.reached next next_marked) h

    stays : (k : ℕ) → is_marked marks k ≡ true → is_marked after k ≡ true
    stays k h = marked k ∙ or_left (is_marked marks k) _ h

    waiting_by : (k : ℕ) → (is_in k rest ≡ true)
        ⊎ ((not (is_marked marks k) && is_in k (targets_at edges next)) ≡ true) → is_marked after k ≡ true
    waiting_by k (inl h) = stays k (was.waits k (last_in w rest next k popped ∙ or_left (is_in k rest) _ h))
    waiting_by k (inr h) = marked k ∙ or_right (is_marked marks k) _ (and_parts _ _ h).1

    closed_next : (j k : ℕ) (is : Bool) → nat_eq j next ≡ is → is_marked marks j ≡ true → is_in j rest ≡ false →
        is_in k (targets_at edges j) ≡ true → is_marked after k ≡ true
    closed_next j k true e h out t = marked k
        ∙ or_right (is_marked marks k) _ (subst (λ i. is_in k (targets_at edges i) ≡ true) (same_number j next e) t)
    closed_next j k false e h out t = stays k
        (was.closed j h (last_in w rest next j popped ∙ ap (λ b. b || (nat_eq j next || false)) out
        ∙ ap (λ b. b || false) e) k t)

    closed_by : (j k : ℕ) (old : Bool) → is_marked marks j ≡ old → is_marked after j ≡ true → is_in j new ≡ false →
        is_in k (targets_at edges j) ≡ true → is_marked after k ≡ true
    closed_by j k true e h out t = closed_next j k (nat_eq j next) refl e
        (or_parts (is_in j rest) _ (sym (waits j) ∙ out)).0 t
    closed_by j k false e h out t =
        let target : is_in j (targets_at edges next) ≡ true = sym (ap (λ b. b || is_in j (targets_at edges next)) e)
        ∙ sym (marked j) ∙ h in
        let none : is_in j (targets_at edges next) ≡ false = sym (ap (λ b. not b && is_in j (targets_at edges next)) e)
        ∙ (or_parts (is_in j rest) _ (sym (waits j) ∙ out)).1 in
        let no : true ≡ false = sym target ∙ none in cc

    pub gone_on : Marking edges start after new
    gone_on = record {
      len = same ∙ was.len;
      reached = λ k h. reached_by k (or_cases _ _ (sym (marked k) ∙ h));
      started = λ k h. stays k (was.started k h);
      waits = λ k h. waiting_by k (or_cases _ _ (sym (waits k) ∙ h));
      closed = λ j h out k t. closed_by j k (is_marked marks j) refl h out t;
    }

    pub next_within : next < length edges
    next_within = subst (λ n. next < n) was.len (marked_within marks next next_marked)

  all_marked : (marks : List Bool) → Marking edges start marks [] → {k : ℕ} → Reaches edges start k →
      IsTrue (is_marked marks k)
  all_marked marks m (starts k h) = m.started k h
  all_marked marks m (goes j k r h) = m.closed j (all_marked marks m r) refl k h

  pub done : (marks : List Bool) (waiting : List ℕ) → waiting ≡ [] → Marking edges start marks waiting → (k : ℕ) →
      IsTrue (is_marked marks k) ↔ Reaches edges start k
  done marks waiting none m k = (m.reached k, all_marked marks (subst (λ w. Marking edges start marks w) none m))

  pub targets_within : (marks : List Bool) (w ts : List ℕ) (next : ℕ) → Marking edges start marks w →
      AllBelow (length edges) edges → ts ≡ targets_at edges next → AreBelow (length marks) ts
  targets_within marks w ts next m below e = subst (λ n. AreBelow n ts) (sym m.len)
      (subst (λ us. AreBelow (length edges) us) (sym e) (all_at (length edges) edges next below))

pub none_left : (w : List ℕ) → length w ≡ 0 → w ≡ []
none_left [] h = refl
none_left (x ∷ w) h = absurd (omega (arith, h))
