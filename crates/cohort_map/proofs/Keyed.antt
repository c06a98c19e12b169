-- An index of keys, one key at each place.
use Rattle.std.proofs.Common.{if◌then◌else◌, ◌≡◌, ◌∙◌, ℕ, zero, suc, Bool, true, false, Some, List, [], ◌∷◌, ◌++◌, length, refl, sym, ap, subst, inl, inr, ◌⊎◌}
use Rattle.std.specs.List.{slice_get}
use Rattle.std.specs.BTreeMap.{BTreeMap, get}
use Rattle.cohort_map.specs.declared.key.CohortKey.{CohortKey}
use Rattle.std.specs.Ordering.{is_eq}
use Rattle.cohort_map.specs.Keys.{key_cmp}
use Rattle.cohort_map.specs.KeyOrder.{key_cmp-total}
use Rattle.cohort_map.proofs.Exact.{eq_is, key_cmp-exact, equal_itself}
use Rattle.cohort_map.specs.Indexed.{IsIndexed, AreApart}

some_is : {X : Type 0} (x y : X) → Some x ≡ Some y → x ≡ y
some_is x y e = cc

pub apart : (keys : List CohortKey) (places : BTreeMap CohortKey ℕ) → IsIndexed keys places → AreApart keys
apart keys places indexed i j k ati atj = some_is i j (sym (indexed.placed i k ati) ∙ indexed.placed j k atj)

pub get_more : (keys : List CohortKey) (key : CohortKey) (i : ℕ) (k : CohortKey) → slice_get keys i ≡ Some k → slice_get (keys ++ key ∷ []) i ≡ Some k
get_more [] key i k is = absurd (cc)
get_more (l ∷ keys) key zero k is = is
get_more (l ∷ keys) key (suc i) k is = get_more keys key i k is

pub get_last : (keys : List CohortKey) (key : CohortKey) → slice_get (keys ++ key ∷ []) (length keys) ≡ Some key
get_last [] key = refl
get_last (l ∷ keys) key = get_last keys key

later : (keys : List CohortKey) (l : CohortKey) (i : ℕ) (k key : CohortKey) → (slice_get keys i ≡ Some k) ⊎ ((i ≡ length keys) × (key ≡ k)) → (slice_get (l ∷ keys) (suc i) ≡ Some k) ⊎ ((suc i ≡ length (l ∷ keys)) × (key ≡ k))
later keys l i k key (inl is) = inl is
later keys l i k key (inr (at, same)) = inr (ap suc at, same)

split_more : (keys : List CohortKey) (key : CohortKey) (i : ℕ) (k : CohortKey) → slice_get (keys ++ key ∷ []) i ≡ Some k → (slice_get keys i ≡ Some k) ⊎ ((i ≡ length keys) × (key ≡ k))
split_more [] key zero k is = inr (refl, some_is key k is)
split_more [] key (suc i) k is = absurd (cc)
split_more (l ∷ keys) key zero k is = inl is
split_more (l ∷ keys) key (suc i) k is = later keys l i k key (split_more keys key i k is)

abbrev pub is_key : CohortKey → CohortKey → Bool
is_key key k = is_eq (key_cmp key k)

other_key : (keys : List CohortKey) (key : CohortKey) (i : ℕ) (k : CohortKey) (b : Bool) → ((j : ℕ) → slice_get keys j ≡ Some key → ⊥) → slice_get keys i ≡ Some k → is_key key k ≡ b → b ≡ false
other_key keys key i k true absent is same = absurd (absent i (is ∙ ap (λ (l : CohortKey). Some l) (sym (key_cmp-exact key k (eq_is _ same)))))
other_key keys key i k false absent is same = refl

itself : (key : CohortKey) → is_key key key ≡ true
itself key = rw (equal_itself key_cmp key_cmp-total key) refl

placed_on : (keys : List CohortKey) (places more : BTreeMap CohortKey ℕ) (key : CohortKey) (i : ℕ) (k : CohortKey) → IsIndexed keys places → ((j : ℕ) → slice_get keys j ≡ Some key → ⊥) → get key_cmp more k ≡ (if is_key key k then Some (length keys) else get key_cmp places k) → (slice_get keys i ≡ Some k) ⊎ ((i ≡ length keys) × (key ≡ k)) → get key_cmp more k ≡ Some i
placed_on keys places more key i k indexed absent grows (inl is) =
    grows ∙ ap (λ (b : Bool). if b then Some (length keys) else get key_cmp places k) (other_key keys key i k (is_key key k) absent is refl) ∙ indexed.placed i k is
placed_on keys places more key i k indexed absent grows (inr (at, same)) =
    grows ∙ ap (λ (b : Bool). if b then Some (length keys) else get key_cmp places k) (subst (λ (l : CohortKey). is_key key l ≡ true) same (itself key)) ∙ ap (λ (n : ℕ). Some n) (sym at)

found_on : (keys : List CohortKey) (places : BTreeMap CohortKey ℕ) (key : CohortKey) (i : ℕ) (k : CohortKey) (b : Bool) → IsIndexed keys places → is_key key k ≡ b → (if b then Some (length keys) else get key_cmp places k) ≡ Some i → slice_get (keys ++ key ∷ []) i ≡ Some k
found_on keys places key i k true indexed same is =
    let at : length keys ≡ i = some_is (length keys) i is in
    let key_is : key ≡ k = key_cmp-exact key k (eq_is _ same) in
    subst (λ (n : ℕ). slice_get (keys ++ key ∷ []) n ≡ Some k) at (get_last keys key ∙ ap (λ (l : CohortKey). Some l) key_is)
found_on keys places key i k false indexed same is = get_more keys key i k (indexed.found i k is)

pub indexed_more : (keys : List CohortKey) (places more : BTreeMap CohortKey ℕ) (key : CohortKey) → IsIndexed keys places → ((j : ℕ) → slice_get keys j ≡ Some key → ⊥) → ((k : CohortKey) → get key_cmp more k ≡ (if is_key key k then Some (length keys) else get key_cmp places k)) → IsIndexed (keys ++ key ∷ []) more
indexed_more keys places more key indexed absent grows = record {
  placed = λ i k is. placed_on keys places more key i k indexed absent (grows k) (split_more keys key i k is);
  found = λ i k is. found_on keys places key i k (is_key key k) indexed refl (sym (grows k) ∙ is);
}

-- the same entries, the same index
pub indexed_kept : (keys : List CohortKey) (places more : BTreeMap CohortKey ℕ) → more.entries ≡ places.entries → IsIndexed keys places → IsIndexed keys more
indexed_kept keys places more same indexed = record {
  placed = λ i k is. rw same (indexed.placed i k is);
  found = λ i k is. indexed.found i k (rw (← same) is);
}
