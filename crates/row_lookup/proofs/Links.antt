-- Chains that are made from the last place to the first.
use Rattle.std.proofs.Common.{◌≡◌, ◌≢◌, ◌∙◌, ◌<◌, ◌≤◌, ◌+◌, ℕ, suc, zero, List, [], ◌∷◌, length, get_or, slice_set, refl, sym, ap, subst, arith, inl, inr}
use Rattle.std.proofs.lemmas.Bool.{cases_eq, cases_lt}
use Rattle.std.proofs.lemmas.List.{get_or-set_same, get_or-set_other, length-set}
use Rattle.std.proofs.lemmas.Grind.{common_steps, get_or-set_at}
use Rattle.data_model.specs.Rows.{Row, Rows}
use Rattle.row_lookup.specs.Ascending.{row_at}
use Rattle.row_lookup.specs.Chaining.{Chained, slot_in}

-- places from `at` to `n` have slots by `s`, of so many; the chains of these places
pub record Linked (s : ℕ → ℕ) (n size at : ℕ) (heads next : List ℕ) : Type 0 where
  pub wide : length heads ≡ size
  pub long : length next ≡ n
  pub first : (h i : ℕ) → h < size → at ≤ i → i < get_or heads h 0 → s i ≢ h
  pub starts : (h : ℕ) → h < size → get_or heads h 0 < n → s (get_or heads h 0) ≡ h
  pub ahead : (h : ℕ) → h < size → at ≤ get_or heads h 0
  pub skips : (i j : ℕ) → at ≤ i → i < n → i < j → j < get_or next i 0 → s j ≢ s i
  pub stays : (i : ℕ) → at ≤ i → i < n → get_or next i 0 < n → s (get_or next i 0) ≡ s i
  pub onward : (i : ℕ) → at ≤ i → i < n → i < get_or next i 0

-- all heads stand past the end
pub linked-none : (s : ℕ → ℕ) (n size : ℕ) (heads next : List ℕ) → length heads ≡ size → length next ≡ n → ((h : ℕ) → h < size → get_or heads h 0 ≡ n) → Linked s n size n heads next
linked-none s n size heads next wide long ends = record {
  wide = wide;
  long = long;
  first = λ h i hw ai ih. absurd (omega (arith, ends h hw));
  starts = λ h hw hn. absurd (omega (arith, ends h hw));
  ahead = λ h hw. omega (arith, ends h hw);
  skips = λ i j ai iw ij jn. absurd (omega arith);
  stays = λ i ai iw nn. absurd (omega arith);
  onward = λ i ai iw. absurd (omega arith);
}

-- a place more at the front
module _ (s : ℕ → ℕ) (n size at head : ℕ) (heads next : List ℕ) (l : Linked s n size (at + 1) heads next) (within : at < n) (slot : s at ≡ head) (fits : head < size) where
  abbrev pub now : List ℕ
  now = slice_set heads head at

  abbrev pub onto : List ℕ
  onto = slice_set next at (get_or heads head 0)

  own : get_or now head 0 ≡ at
  own = get_or-set_same heads head at 0 (omega (arith, l.wide))

  other : (h : ℕ) → h ≢ head → get_or now h 0 ≡ get_or heads h 0
  other h ne = get_or-set_other heads head h at 0 ne

  led : get_or onto at 0 ≡ get_or heads head 0
  led = get_or-set_same next at (get_or heads head 0) 0 (omega (arith, l.long))

  kept : (i : ℕ) → i ≢ at → get_or onto i 0 ≡ get_or next i 0
  kept i ne = get_or-set_other next at i (get_or heads head 0) 0 ne

  first : (h i : ℕ) → h < size → at ≤ i → i < get_or now h 0 → s i ≢ h
  first h i hw ai ih = elim (cases_eq h head) [
    | inl e ↦ absurd (omega (arith, own, subst (λ x. i < get_or now x 0) e ih))
    | inr ne ↦ elim (cases_eq i at) [
      | inl e ↦ λ same. ne (sym same ∙ ap s e ∙ slot)
      | inr na ↦ l.first h i hw (omega arith) (subst (λ x. i < x) (other h ne) ih)
    ]
  ]

  starts : (h : ℕ) → h < size → get_or now h 0 < n → s (get_or now h 0) ≡ h
  starts h hw hn = elim (cases_eq h head) [
    | inl e ↦ ap s (ap (λ x. get_or now x 0) e ∙ own) ∙ slot ∙ sym e
    | inr ne ↦ ap s (other h ne) ∙ l.starts h hw (subst (λ x. x < n) (other h ne) hn)
  ]

  ahead : (h : ℕ) → h < size → at ≤ get_or now h 0
  ahead h hw = elim (cases_eq h head) [
    | inl e ↦ subst (λ x. at ≤ get_or now x 0) (sym e) (omega (arith, own))
    | inr ne ↦ omega (arith, other h ne, l.ahead h hw)
  ]

  skips : (i j : ℕ) → at ≤ i → i < n → i < j → j < get_or onto i 0 → s j ≢ s i
  skips i j ai iw ij jn = elim (cases_eq i at) [
    | inl e ↦ λ same. l.first head j fits (omega arith) (subst (λ x. j < x) (ap (λ x. get_or onto x 0) e ∙ led) jn) (same ∙ ap s e ∙ slot)
    | inr ne ↦ l.skips i j (omega arith) iw ij (subst (λ x. j < x) (kept i ne) jn)
  ]

  stays : (i : ℕ) → at ≤ i → i < n → get_or onto i 0 < n → s (get_or onto i 0) ≡ s i
  stays i ai iw nn = elim (cases_eq i at) [
    | inl e ↦ ap s (ap (λ x. get_or onto x 0) e ∙ led) ∙ l.starts head fits (subst (λ x. x < n) (ap (λ x. get_or onto x 0) e ∙ led) nn) ∙ sym slot ∙ ap s (sym e)
    | inr ne ↦ ap s (kept i ne) ∙ l.stays i (omega arith) iw (subst (λ x. x < n) (kept i ne) nn)
  ]

  onward : (i : ℕ) → at ≤ i → i < n → i < get_or onto i 0
  onward i ai iw = elim (cases_eq i at) [
    | inl e ↦ omega (arith, e, ap (λ x. get_or onto x 0) e ∙ led, l.ahead head fits)
    | inr ne ↦ omega (arith, kept i ne, l.onward i (omega arith) iw)
  ]

  pub linked-more : Linked s n size at now onto
  linked-more = record {
    wide = length-set heads head at ∙ l.wide;
    long = length-set next at (get_or heads head 0) ∙ l.long;
    first = first;
    starts = starts;
    ahead = ahead;
    skips = skips;
    stays = stays;
    onward = onward;
  }

-- all places are chained
pub linked-all : (column : ℕ) (rows : Rows) (size at : ℕ) (heads next : List ℕ) → at < 1 → Linked (slot_in size column rows) (length rows) size at heads next → Chained column rows heads next
linked-all column rows size at heads next none l =
    let same = l.wide in
    record {
      long = l.long;
      first = λ h i hw ih. subst (λ m. slot_in m column rows i ≢ h) (sym same) (l.first h i (omega (arith, same)) (omega arith) ih);
      starts = λ h hw hn. subst (λ m. slot_in m column rows (get_or heads h 0) ≡ h) (sym same) (l.starts h (omega (arith, same)) hn);
      skips = λ i j iw ij jn. subst (λ m. slot_in m column rows j ≢ slot_in m column rows i) (sym same) (l.skips i j (omega arith) iw ij jn);
      stays = λ i iw nn. subst (λ m. slot_in m column rows (get_or next i 0) ≡ slot_in m column rows i) (sym same) (l.stays i (omega arith) iw nn);
      onward = λ i iw. l.onward i (omega arith) iw;
    }

pub read_default : (xs : List ℕ) (i v d : ℕ) → i < length xs → v ≡ get_or xs i v → v ≡ get_or xs i d
read_default [] i v d within is = absurd (omega arith)
read_default (x ∷ xs) zero v d within is = is
read_default (x ∷ xs) (suc i) v d within is = read_default xs i v d (omega arith) is

-- the same in the words of a loop that goes down
pub linked_before : (s : ℕ → ℕ) (n size at before head value : ℕ) (heads next : List ℕ) → Linked s n size at heads next → at ≡ before + 1 → at ≤ n → s before ≡ head → head < size → value ≡ get_or heads head value
    → Linked s n size before (slice_set heads head before) (slice_set next before value)
linked_before s n size at before head value heads next l is within slot fits led =
    let at_head : value ≡ get_or heads head 0 = read_default heads head value 0 (omega (arith, l.wide)) led in
    subst (λ v. Linked s n size before (slice_set heads head before) (slice_set next before v)) (sym at_head)
    (linked-more s n size before head heads next (subst (λ a. Linked s n size a heads next) is l) (omega (arith, is)) slot fits)

pub read_row : (rows : Rows) (i : ℕ) (row : Row) → i < length rows → row ≡ get_or rows i row → row_at rows i ≡ row
read_row [] i row within is = absurd (omega arith)
read_row (r ∷ rs) zero row within is = sym is
read_row (r ∷ rs) (suc i) row within is = read_row rs i row (omega arith) is
