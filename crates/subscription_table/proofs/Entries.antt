-- Entries of a map, each a subscription under its number, and the list of these subscriptions.
use Rattle.std.proofs.Common.{◌≡◌, ◌∙◌, ℕ, ◌<◌, suc, Bool, true, false, ◌==◌, not, cond, Some, None, List, [], ◌∷◌, ◌++◌, map, refl, sym, ap, subst, arith}
use Rattle.std.proofs.lemmas.Bool.Decides.{nat_tests}
use Rattle.std.proofs.lemmas.Cmp.{nat_cmp_total}
use Rattle.std.proofs.lemmas.Map.{NonePasses, none_passes_from_lookup}
use Rattle.std.proofs.lemmas.Map.Entries.{none_past_head}
use Rattle.std.proofs.lemmas.Map.Keys.{sorted_tail, IsDistinct-from_sorted}
use Rattle.std.specs.BTreeMap.{insert_entry, is_at}
use Rattle.std.specs.Cmp.{eq_by_cmp_equiv}
use Rattle.std.specs.declared.cmp.Ordering.TheVariants.{Greater}
use Rattle.std.specs.List.{All}
use Rattle.std.specs.List.Sorted.{IsStrictlySortedBy}
use Rattle.std.specs.Map.{keys_of, lookup, remove_entry, set_value, values_of}
use Rattle.std.specs.Ordering.{is_eq, nat_cmp}
use Rattle.subscription_table.specs.declared.held.Held.{Held}
use Rattle.subscription_table.specs.Kept.{held_at, remembers, with_last, without}
use Rattle.subscription_table.specs.Numbered.{AreNumbered}

-- the test by which the map looks a number up
abbrev pub at : ℕ → ℕ → Bool
at n = is_at (nat_cmp n)

tells : (n k : ℕ) → is_eq (nat_cmp n k) ≡ (k == n)
tells n k = grind (arith, nat_tests)

pub passes : (n : ℕ) (e : ℕ × Held) → e.1.number ≡ e.0 → at n e.0 ≡ (e.1.number == n)
passes n e is = rw is (tells n e.0)

-- ---- the numbers

pub keys_are : (es : List (ℕ × Held)) → AreNumbered es → keys_of es ≡ map (λ (h : Held). h.number) (values_of es)
keys_are [] all = refl
keys_are (e ∷ es) all = λ i. sym all.0 i ∷ keys_are es all.1 i

pub ascends : (es : List (ℕ × Held)) → AreNumbered es → IsStrictlySortedBy nat_cmp (keys_of es) → IsStrictlySortedBy nat_cmp (map (λ (h : Held). h.number) (values_of es))
ascends es all sorted = subst (IsStrictlySortedBy nat_cmp) (keys_are es all) sorted

-- ---- a look-up

pub found : (n : ℕ) (es : List (ℕ × Held)) → AreNumbered es → lookup (at n) es ≡ held_at n (values_of es)
found n [] all = refl
found n (e ∷ es) all = rw (passes n e all.0, found n es all.1) refl

-- ---- one more at the end

above : (k n : ℕ) → k < n → nat_cmp n k ≡ Greater
above k n less = grind (arith, nat_tests)

pub inserted : (es : List (ℕ × Held)) (h : Held) → AreNumbered es → All (λ (g : Held). g.number < h.number) (values_of es) → insert_entry nat_cmp es h.number h ≡ es ++ (h.number, h) ∷ []
inserted [] h all below = refl
inserted (e ∷ es) h all below =
    let less : e.0 < h.number = subst (λ (k : ℕ). k < h.number) all.0 (below 0 e.1 (omega arith)) in
    let rest = inserted es h all.1 (λ k d within. below (suc k) d (omega arith)) in
    rw (above e.0 h.number less) (ap (λ (fs : List (ℕ × Held)). e ∷ fs) rest)

pub values_more : (es : List (ℕ × Held)) (n : ℕ) (h : Held) → values_of (es ++ (n, h) ∷ []) ≡ values_of es ++ h ∷ []
values_more [] n h = refl
values_more (e ∷ es) n h = ap (λ (hs : List Held). e.1 ∷ hs) (values_more es n h)

pub numbered_more : (es : List (ℕ × Held)) (h : Held) → AreNumbered es → AreNumbered (es ++ (h.number, h) ∷ [])
numbered_more [] h all = (refl, tt)
numbered_more (e ∷ es) h all = (all.0, numbered_more es h all.1)

-- ---- entries at none of which a number stands

none_after : (n : ℕ) (e : ℕ × Held) (es : List (ℕ × Held)) → IsStrictlySortedBy nat_cmp (keys_of (e ∷ es)) → at n e.0 ≡ true → NonePasses (at n) es
none_after n e es sorted here =
    none_past_head (eq_by_cmp_equiv nat_cmp_total) n e es (IsDistinct-from_sorted nat_cmp (keys_of (e ∷ es)) sorted) here

without_none : (n : ℕ) (es : List (ℕ × Held)) → AreNumbered es → NonePasses (at n) es → without n (values_of es) ≡ values_of es
without_none n [] all none = refl
without_none n (e ∷ es) all none = rw (sym (passes n e all.0), none.0, without_none n es all.1 none.1) refl

last_none : (n : ℕ) (text : List ℕ) (es : List (ℕ × Held)) → AreNumbered es → NonePasses (at n) es → with_last n text (values_of es) ≡ values_of es
last_none n text [] all none = refl
last_none n text (e ∷ es) all none = rw (sym (passes n e all.0), none.0, last_none n text es all.1 none.1) refl

-- ---- without a number

pub numbered_without : (test : ℕ → Bool) (es : List (ℕ × Held)) → AreNumbered es → AreNumbered (remove_entry test es)
numbered_without test [] all = tt
numbered_without test (e ∷ es) all =
    elim (test e.0) as (λ (b : Bool). AreNumbered (cond b es (e ∷ remove_entry test es))) [
      | true ↦ all.1
      | false ↦ (all.0, numbered_without test es all.1)
    ]

removed_by : (n : ℕ) (e : ℕ × Held) (es : List (ℕ × Held)) (b : Bool) → at n e.0 ≡ b → AreNumbered (e ∷ es) → IsStrictlySortedBy nat_cmp (keys_of (e ∷ es)) → values_of (remove_entry (at n) es) ≡ without n (values_of es) → values_of (cond b es (e ∷ remove_entry (at n) es)) ≡ cond (not b) (e.1 ∷ without n (values_of es)) (without n (values_of es))
removed_by n e es true is all sorted rest = sym (without_none n es all.1 (none_after n e es sorted is))
removed_by n e es false is all sorted rest = ap (λ (hs : List Held). e.1 ∷ hs) rest

pub removed : (n : ℕ) (es : List (ℕ × Held)) → AreNumbered es → IsStrictlySortedBy nat_cmp (keys_of es) → values_of (remove_entry (at n) es) ≡ without n (values_of es)
removed n [] all sorted = refl
removed n (e ∷ es) all sorted =
    rw (sym (passes n e all.0)) (removed_by n e es (at n e.0) refl all sorted (removed n es all.1 (sorted_tail nat_cmp e.0 (keys_of es) sorted)))

-- ---- another text

some_is : (g h : Held) → Some g ≡ Some h → g ≡ h
some_is g h e = cc

written_by : (n : ℕ) (text : List ℕ) (h : Held) (e : ℕ × Held) (es : List (ℕ × Held)) (b : Bool) → at n e.0 ≡ b → AreNumbered (e ∷ es) → IsStrictlySortedBy nat_cmp (keys_of (e ∷ es)) → cond b (Some e.1) (lookup (at n) es) ≡ Some h → (lookup (at n) es ≡ Some h → values_of (set_value (at n) es (remembers text h)) ≡ with_last n text (values_of es)) → values_of (cond b ((e.0, remembers text h) ∷ es) (e ∷ set_value (at n) es (remembers text h))) ≡ cond b (remembers text e.1) e.1 ∷ with_last n text (values_of es)
written_by n text h e es true is all sorted there rest =
    let same = some_is e.1 h there in
    let others = last_none n text es all.1 (none_after n e es sorted is) in
    λ i. remembers text (sym same i) ∷ sym others i
written_by n text h e es false is all sorted there rest = ap (λ (hs : List Held). e.1 ∷ hs) (rest there)

pub written : (n : ℕ) (text : List ℕ) (h : Held) (es : List (ℕ × Held)) → AreNumbered es → IsStrictlySortedBy nat_cmp (keys_of es) → lookup (at n) es ≡ Some h → values_of (set_value (at n) es (remembers text h)) ≡ with_last n text (values_of es)
written n text h [] all sorted there = absurd (cc)
written n text h (e ∷ es) all sorted there =
    rw (sym (passes n e all.0)) (written_by n text h e es (at n e.0) refl all sorted there (written n text h es all.1 (sorted_tail nat_cmp e.0 (keys_of es) sorted)))

pub unwritten : (n : ℕ) (text : List ℕ) (es : List (ℕ × Held)) → AreNumbered es → lookup (at n) es ≡ None → values_of es ≡ with_last n text (values_of es)
unwritten n text es all absent = sym (last_none n text es all (none_passes_from_lookup (at n) es absent))

numbered_by : (test : ℕ → Bool) (w h : Held) (e : ℕ × Held) (es : List (ℕ × Held)) (b : Bool) → w.number ≡ h.number → AreNumbered (e ∷ es) → cond b (Some e.1) (lookup test es) ≡ Some h → (lookup test es ≡ Some h → AreNumbered (set_value test es w)) → AreNumbered (cond b ((e.0, w) ∷ es) (e ∷ set_value test es w))
numbered_by test w h e es true same all there rest =
    (same ∙ ap (λ (g : Held). g.number) (sym (some_is e.1 h there)) ∙ all.0, all.1)
numbered_by test w h e es false same all there rest = (all.0, rest there)

pub numbered_written : (test : ℕ → Bool) (w h : Held) (es : List (ℕ × Held)) → w.number ≡ h.number → AreNumbered es → lookup test es ≡ Some h → AreNumbered (set_value test es w)
numbered_written test w h [] same all there = tt
numbered_written test w h (e ∷ es) same all there =
    numbered_by test w h e es (test e.0) same all there (numbered_written test w h es same all.1)
