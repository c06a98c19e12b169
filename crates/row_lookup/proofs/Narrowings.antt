-- Rows that are left out because they aren't wanted.
use Rattle.std.proofs.Common.{◌≡◌, ◌≢◌, ◌∙◌, ◌<◌, ◌≤◌, ◌+◌, ◌++◌, ℕ, suc, zero, Bool, true, false, true≢false, ◌&&◌, if◌then◌else◌, IsTrue, List, [], ◌∷◌, length, take, drop, filter, refl, sym, ap, subst, arith, inl, inr}
use Rattle.std.specs.List.{list_all}
use Rattle.std.proofs.lemmas.Bool.{cases_Bool}
use Rattle.data_model.specs.Rows.{Row, Rows}
use Rattle.row_lookup.specs.Ascending.{row_at}
use Rattle.row_lookup.specs.Finding.{kept}
use Rattle.row_lookup.specs.Narrowing.{Narrowed}

pub both : (a b : Bool) → IsTrue (a && b) → IsTrue a × IsTrue b
both true b h = (refl, h)
both false b h = cc

pub and_in : (a b : Bool) → IsTrue a → IsTrue b → IsTrue (a && b)
and_in true b h k = k
and_in false b h k = cc

-- ---- a fact of all rows is one of some

pub all_drop : (p : Row → Bool) (rows : Rows) (n : ℕ) → IsTrue (list_all p rows) → IsTrue (list_all p (drop n rows))
all_drop p rows zero h = h
all_drop p [] (suc n) h = h
all_drop p (r ∷ rs) (suc n) h = all_drop p rs n (both (p r) (list_all p rs) h).1

pub all_take : (p : Row → Bool) (rows : Rows) (n : ℕ) → IsTrue (list_all p rows) → IsTrue (list_all p (take n rows))
all_take p rows zero h = refl
all_take p [] (suc n) h = h
all_take p (r ∷ rs) (suc n) h =
    let parts = both (p r) (list_all p rs) h in and_in (p r) (list_all p (take n rs)) parts.0 (all_take p rs n parts.1)

-- ---- rows in front and at the end that aren't shown may be left out

pub skipped : (shown : Row → Bool) (rows : Rows) (b : ℕ)
    → ((j : ℕ) → j < b → j < length rows → shown (row_at rows j) ≡ false) → filter shown rows ≡ filter shown (drop b rows)
skipped shown rows zero h = refl
skipped shown [] (suc b) h = refl
skipped shown (r ∷ rs) (suc b) h =
    ap (λ (x : Bool). if x then r ∷ filter shown rs else filter shown rs) (h 0 (omega arith) (omega arith))
    ∙ skipped shown rs b (λ j jb jn. h (suc j) (omega arith) (omega arith))

pub none_shown : (shown : Row → Bool) (rows : Rows) → ((j : ℕ) → j < length rows → shown (row_at rows j) ≡ false)
    → filter shown rows ≡ []
none_shown shown [] h = refl
none_shown shown (r ∷ rs) h =
    ap (λ (x : Bool). if x then r ∷ filter shown rs else filter shown rs) (h 0 (omega arith))
    ∙ none_shown shown rs (λ j jn. h (suc j) (omega arith))

pub cut_off : (shown : Row → Bool) (rows : Rows) (b : ℕ)
    → ((j : ℕ) → b ≤ j → j < length rows → shown (row_at rows j) ≡ false) → filter shown (take b rows) ≡ filter shown rows
cut_off shown rows zero h = sym (none_shown shown rows (λ j jn. h j (omega arith) jn))
cut_off shown [] (suc b) h = refl
cut_off shown (r ∷ rs) (suc b) h =
    ap (λ rest. if shown r then r ∷ rest else rest)
    (cut_off shown rs b (λ j bj jn. h (suc j) (omega arith) (omega arith)))

-- from one row to a later one, where none between is shown

one_more : (is_shown : Bool) (row : Row) (rest : Rows)
    → (if is_shown then row ∷ rest else rest) ≡ kept is_shown row ++ rest
one_more true row rest = refl
one_more false row rest = refl

pub skip_to : (shown : Row → Bool) (rows : Rows) (a b : ℕ) → a < length rows → a < b
    → ((j : ℕ) → a < j → j < b → j < length rows → shown (row_at rows j) ≡ false)
    → filter shown (drop a rows) ≡ kept (shown (row_at rows a)) (row_at rows a) ++ filter shown (drop b rows)
skip_to shown [] a b within after h = absurd (omega arith)
skip_to shown (r ∷ rs) a zero within after h = absurd (omega arith)
skip_to shown (r ∷ rs) zero (suc b) within after h =
    one_more (shown r) r (filter shown rs)
    ∙ ap (λ rest. kept (shown r) r ++ rest)
    (skipped shown rs b (λ j jb jn. h (suc j) (omega arith) (omega arith) (omega arith)))
skip_to shown (r ∷ rs) (suc a) (suc b) within after h =
    skip_to shown rs a b (omega arith) (omega arith)
    (λ j aj jb jn. h (suc j) (omega arith) (omega arith) (omega arith))

pub head_told : (shown : Row → Bool) (row : Row) (rest : Rows)
    → filter shown (row ∷ rest) ≡ kept (shown row) row ++ filter shown rest
head_told shown row rest = one_more (shown row) row (filter shown rest)

-- a row of which something holds that holds of none that is shown
pub not_shown : (shown : Row → Bool) (row : Row) → (shown row ≡ true → ⊥) → shown row ≡ false
not_shown shown row h = elim (cases_Bool (shown row)) [
  | inl is ↦ absurd (h is)
  | inr isnt ↦ isnt
]

-- ---- narrowings

pub narrowed_all : (W : Row → Type 0) (rows : Rows) → Narrowed W rows rows
narrowed_all W rows = record { told = λ shown h. refl; of = λ p h. h }

pub narrowed_none : (W : Row → Type 0) (rows : Rows) → ((row : Row) → W row → ⊥) → Narrowed W rows []
narrowed_none W rows never = record {
  told = λ shown h. sym (none_shown shown rows (λ j jn. not_shown shown (row_at rows j) (λ is. never (row_at rows j) (h (row_at rows j) is))));
  of = λ p h. refl;
}

pub narrowed_weaker : (V W : Row → Type 0) (all some : Rows) → ((row : Row) → V row → W row) → Narrowed W all some
    → Narrowed V all some
narrowed_weaker V W all some from n = record { told = λ shown h. n.told shown (λ row is. from row (h row is)); of = n.of }

pub narrowed_then : (W : Row → Type 0) (all some fewer : Rows) → Narrowed W all some → Narrowed W some fewer
    → Narrowed W all fewer
narrowed_then W all some fewer m n = record {
  told = λ shown h. n.told shown h ∙ m.told shown h;
  of = λ p h. n.of p (m.of p h);
}

pub narrowed_drop : (W : Row → Type 0) (rows : Rows) (n : ℕ)
    → ((j : ℕ) → j < n → j < length rows → W (row_at rows j) → ⊥) → Narrowed W rows (drop n rows)
narrowed_drop W rows n never = record {
  told = λ shown h. sym (skipped shown rows n (λ j jn jl. not_shown shown (row_at rows j) (λ is. never j jn jl (h (row_at rows j) is))));
  of = λ p h. all_drop p rows n h;
}

pub narrowed_take : (W : Row → Type 0) (rows : Rows) (n : ℕ)
    → ((j : ℕ) → n ≤ j → j < length rows → W (row_at rows j) → ⊥) → Narrowed W rows (take n rows)
narrowed_take W rows n never = record {
  told = λ shown h. cut_off shown rows n (λ j nj jl. not_shown shown (row_at rows j) (λ is. never j nj jl (h (row_at rows j) is)));
  of = λ p h. all_take p rows n h;
}
