-- What a job is made of.
use Rattle.std.proofs.Common.{◌≡◌, ◌∙◌, inl, inr, sym, ap, refl, ℕ, zero, suc, ◌+◌, ◌-◌, ◌<◌, ◌≤◌, max}
use Rattle.std.proofs.Common.{◌==◌, ◌||◌, Bool, true, false, Some, List, [], ◌∷◌, ◌++◌, length}
use Rattle.std.proofs.Common.{take, set, get_or, slice_get, replicate, arith}
use Rattle.std.specs.List.{AllByRecursion, list_any}
use Rattle.std.proofs.lemmas.Bool.{eqb-true, eq-eqb}
use Rattle.std.proofs.lemmas.List.{take_more}
use Rattle.std.proofs.lemmas.List.Folds.{list_any-append}
use Rattle.cohort_map.specs.declared.member.Member.{Member}
use Rattle.cohort_map.specs.Entries.{Entry, is_entry, entry_at, has}
use Rattle.hub_model.proofs.Items.{any_among, and_true, and_both, or_true_left, or_true_right, not_both}
use Rattle.hub_model.proofs.Items.{all_among}
use Rattle.hub_model.proofs.Filtered.{by_test, among_found}
use Rattle.hub.specs.Taking.{most, has_id, speaks, IsSpeaker, HasEntry}

-- ---- the greatest id

most_push : (ms : List Member) (m : Member) → most (ms ++ m ∷ []) ≡ max (most ms) m.id
most_push [] m = omega arith
most_push (n ∷ ms) m = let r = most_push ms m in omega (arith, r)

pub most_more : (ms : List Member) (i : ℕ) (m : Member) → i < length ms →
    most (take (i + 1) ms) ≡ max (most (take i ms)) (get_or ms i m).id
most_more ms i m within = ap most (take_more ms i m within) ∙ most_push (take i ms) (get_or ms i m)

-- ---- entries

pub entry_of_number : (number : ℕ) (entries : List Entry) → has number entries ≡ true →
    (e : Entry) × (entry_at number entries ≡ Some e)
entry_of_number number entries h =
    let e = any_among (is_entry number) entries h in among_found (is_entry number) e.0 entries e.1 e.2

-- ---- speakers

got_same : (xs : List ℕ) (j v n : ℕ) → slice_get (set xs j v) j ≡ Some n → n ≡ v
got_same [] j v n e = absurd (cc)
got_same (x ∷ xs) zero v n e = cc
got_same (x ∷ xs) (suc j) v n e = got_same xs j v n e

got_other : (xs : List ℕ) (j i v : ℕ) → (i ≡ j → ⊥) → slice_get (set xs j v) i ≡ slice_get xs i
got_other [] j i v h = refl
got_other (x ∷ xs) zero zero v h = absurd (h refl)
got_other (x ∷ xs) zero (suc i) v h = refl
got_other (x ∷ xs) (suc j) zero v h = refl
got_other (x ∷ xs) (suc j) (suc i) v h = got_other xs j i v (λ e. h (ap suc e))

pub none_speak : (other : ℕ) (i number n : ℕ) → slice_get (replicate n other) i ≡ Some number →
    IsSpeaker [] other (i + 1) number
none_speak other i number n e = inr (replicated n i e, refl)
  where
    replicated : (n i : ℕ) → slice_get (replicate n other) i ≡ Some number → number ≡ other
    replicated zero i e = absurd (cc)
    replicated (suc n) zero e = cc
    replicated (suc n) (suc i) e = replicated n i e

any_last : (p : Member → Bool) (ms : List Member) (m : Member) → p m ≡ true → list_any p (ms ++ m ∷ []) ≡ true
any_last p ms m h =
    list_any-append p ms (m ∷ []) ∙ or_true_right (list_any p ms) (list_any p (m ∷ [])) (or_true_left (p m) false h)

any_before : (p : Member → Bool) (ms : List Member) (m : Member) → list_any p ms ≡ true →
    list_any p (ms ++ m ∷ []) ≡ true
any_before p ms m h = list_any-append p ms (m ∷ []) ∙ or_true_left (list_any p ms) (list_any p (m ∷ [])) h

none_more : (p : Member → Bool) (ms : List Member) (m : Member) → list_any p ms ≡ false → p m ≡ false →
    list_any p (ms ++ m ∷ []) ≡ false
none_more p ms m h i = list_any-append p ms (m ∷ []) ∙ (λ j. h j || (i j || false))

abbrev AllSpeak : List Member → ℕ → List ℕ → Type 0
AllSpeak ms other subs = (i number : ℕ) → slice_get subs i ≡ Some number → IsSpeaker ms other (i + 1) number

still_speaks : (ms : List Member) (m : Member) (other id number : ℕ) → has_id id m ≡ false →
    IsSpeaker ms other id number → IsSpeaker (ms ++ m ∷ []) other id number
still_speaks ms m other id number e (inl a) = inl (any_before (speaks id number) ms m a)
still_speaks ms m other id number e (inr (a, b)) = inr (a, none_more (has_id id) ms m b e)

pub speaks_more : (ms : List Member) (m : Member) (other : ℕ) (subs : List ℕ) → 1 ≤ m.id → AllSpeak ms other subs →
    AllSpeak (ms ++ m ∷ []) other (set subs (m.id - 1) m.sub)
speaks_more ms m other subs low all i number got =
    by_test (IsSpeaker (ms ++ m ∷ []) other (i + 1) number) (has_id (i + 1) m)
    (λ h.
    let id = eqb-true m.id (i + 1) h in
    let same : i ≡ m.id - 1 = omega (arith, id) in
    let is = got_same subs (m.id - 1) m.sub number (ap (slice_get (set subs (m.id - 1) m.sub)) (sym same) ∙ got) in
    inl (any_last (speaks (i + 1) number) ms m
    (and_both (m.id == i + 1) (m.sub == number) h (eq-eqb m.sub number (sym is)))))
    (λ h.
    let other_id : i ≡ m.id - 1 → ⊥ =
    (λ e. not_both (has_id (i + 1) m) (eq-eqb m.id (i + 1) (omega (arith, e, low))) h) in
    still_speaks ms m other (i + 1) number h
    (all i number (sym (got_other subs (m.id - 1) i m.sub other_id) ∙ got)))

-- whoever speaks has an entry
pub speaker_has : (entries : List Entry) (members : List Member) (other id number : ℕ) →
    AllByRecursion (HasEntry entries) members → has other entries ≡ true → IsSpeaker members other id number →
    has number entries ≡ true
speaker_has entries members other id number all h (inl a) =
    let m = any_among (speaks id number) members a in
    let is = and_true (m.0.id == id) (m.0.sub == number) m.2 in
    ap (λ (n : ℕ). has n entries) (sym (eqb-true m.0.sub number is.1))
    ∙ all_among (HasEntry entries) members m.0 m.1 all
speaker_has entries members other id number all h (inr (a, b)) = ap (λ (n : ℕ). has n entries) a ∙ h
