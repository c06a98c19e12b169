-- Rows that ascend in a column, and where a bound parts them.
use Rattle.std.proofs.Common.{◌≡◌, ◌≢◌, ◌∙◌, ◌<◌, ◌≤◌, ◌+◌, ◌-◌, ℕ, suc, zero, unwrap_or, Bool, true, false, true≢false, if◌then◌else◌, List, [], ◌∷◌, length, take, drop, get_or, map, Option, Some, None, slice_get, refl, sym, ap, subst, arith, inl, inr}
use Rattle.std.proofs.lemmas.Bool.{cases_lt, cases_eq, cases_Bool}
use Rattle.std.proofs.lemmas.List.{get_or-drop, length-drop}
use Rattle.std.specs.List.{AllByRecursion}
use Rattle.std.specs.Cmp.{IsTotalOrder}
use Rattle.std.specs.Cmp.Lexicographic.{slice_cmp}
use Rattle.std.specs.Ordering.{is_le, is_lt, is_eq, is_gt, is_ge, ordering_reverse, ordering_then}
use Rattle.std.specs.declared.cmp.Ordering.{Ordering}
use Rattle.std.specs.declared.cmp.Ordering.TheVariants.{Less, Equal, Greater}
use Rattle.scalar_val.specs.declared.val.Val.{Val}
use Rattle.scalar_val.specs.ValOrder.{val_cmp}
use Rattle.scalar_val.specs.Values.{cell, is_null}
use Rattle.scalar_val.proofs.OrderLaws.{val_cmp-total, val_cmp-exact}
use Rattle.data_model.specs.declared.catalog.TableDef.{TableDef}
use Rattle.data_model.specs.Rows.{Row, Rows, Ascends, Pairwise, key_of, key_cmp}
use Rattle.plan_model.specs.declared.filter.Op.{Op}
use Rattle.plan_model.specs.declared.filter.Op.TheVariants.{Eq, Neq, Gt, Gte, Lt, Lte}
use Rattle.plan_model.specs.Truth.{is_yes, known, compared, holds}
use Rattle.plan_model.specs.declared.filter.TruthValue.{TruthValue}
use Rattle.plan_model.specs.declared.filter.TruthValue.TheVariants.{Yes, No, Unknown}
use Rattle.row_lookup.specs.declared.key.Bound.{Bound}
use Rattle.row_lookup.specs.declared.comparison.Comparison.{Comparison}
use Rattle.row_lookup.specs.Ascending.{row_at, AscendsIn, is_before, row_before, Parted}
use Rattle.row_lookup.specs.Comparing.{meets}
use Rattle.row_lookup.specs.Narrowing.{Narrowed}
use Rattle.row_lookup.proofs.Narrowings.{narrowed_drop, narrowed_take}

-- ---- what stands before what stands before

module _ (a b v : Val) where
  le_lt : (o : Ordering) → val_cmp a b ≡ o → is_le o ≡ true → is_lt (val_cmp b v) ≡ true → is_lt (val_cmp a v) ≡ true
  le_lt Less e h k = ap is_lt (val_cmp-total.trans a b v e (less_from (val_cmp b v) k))
    where
      less_from : (o : Ordering) → is_lt o ≡ true → o ≡ Less
      less_from Less h = refl
      less_from Equal h = absurd (true≢false (sym h))
      less_from Greater h = absurd (true≢false (sym h))
  le_lt Equal e h k = ap is_lt (val_cmp-total.congr a b v e) ∙ k
  le_lt Greater e h k = absurd (true≢false (sym h))

  le_le : (o p : Ordering) → val_cmp a b ≡ o → val_cmp b v ≡ p → is_le o ≡ true → is_le p ≡ true
      → is_le (val_cmp a v) ≡ true
  le_le Less Less e f h k = ap is_le (val_cmp-total.trans a b v e f)
  le_le Less Equal e f h k = ap is_le (subst (λ x. val_cmp a x ≡ Less) (val_cmp-exact b v f) e)
  le_le Equal p e f h k = ap is_le (val_cmp-total.congr a b v e ∙ f) ∙ k
  le_le Less Greater e f h k = absurd (true≢false (sym k))
  le_le Greater p e f h k = absurd (true≢false (sym h))

  pub before_before : (or_equal : Bool) → is_le (val_cmp a b) ≡ true → is_before or_equal b v ≡ true
      → is_before or_equal a v ≡ true
  before_before true h k = le_le (val_cmp a b) (val_cmp b v) refl refl h k
  before_before false h k = le_lt (val_cmp a b) refl h k

pub before_up_to : (b : Bound) (rows : Rows) (i j : ℕ) → AscendsIn b.column rows → i < j → j < length rows
    → row_before b (row_at rows j) ≡ true → row_before b (row_at rows i) ≡ true
before_up_to b rows i j up ij jn h =
    before_before (cell (row_at rows i) b.column) (cell (row_at rows j) b.column) b.value.now b.or_equal (up i j ij jn) h

pub low_step : (b : Bound) (rows : Rows) (middle : ℕ) → AscendsIn b.column rows → middle < length rows
    → row_before b (row_at rows middle) ≡ true → (j : ℕ) → j < middle + 1 → row_before b (row_at rows j) ≡ true
low_step b rows middle up within is j below = elim (cases_eq j middle) [
  | inl e ↦ subst (λ k. row_before b (row_at rows k) ≡ true) (sym e) is
  | inr ne ↦ before_up_to b rows j middle up (omega arith) within is
]

pub high_step : (b : Bound) (rows : Rows) (middle : ℕ) → AscendsIn b.column rows
    → row_before b (row_at rows middle) ≡ false → (j : ℕ) → middle ≤ j → j < length rows
    → row_before b (row_at rows j) ≡ false
high_step b rows middle up isnt j above within = elim (cases_eq j middle) [
  | inl e ↦ subst (λ k. row_before b (row_at rows k) ≡ false) (sym e) isnt
  | inr ne ↦ elim (cases_Bool (row_before b (row_at rows j))) [
    | inl is ↦ absurd (true≢false (sym (before_up_to b rows middle j up (omega arith) within is) ∙ isnt))
    | inr before ↦ before
  ]
]

pub parted_here : (b : Bound) (rows : Rows) (count : ℕ) → AscendsIn b.column rows → count < length rows
    → row_before b (row_at rows count) ≡ false
    → ((j : ℕ) → j < count → row_before b (row_at rows j) ≡ true) → Parted b rows count
parted_here b rows count up within isnt below = record {
  within = omega arith;
  below = below;
  above = high_step b rows count up isnt;
}

pub below_here : (b : Bound) (rows : Rows) (count : ℕ) → AscendsIn b.column rows → 0 < count → count ≤ length rows
    → row_before b (row_at rows (count - 1)) ≡ true → (j : ℕ) → j < count → row_before b (row_at rows j) ≡ true
below_here b rows count up some within is j below =
    low_step b rows (count - 1) up (omega arith) is j (omega arith)

slice_row : (rows : Rows) (i : ℕ) (row : Row) → Some row ≡ slice_get rows i → (i < length rows) × (row_at rows i ≡ row)
slice_row [] i row h = cc
slice_row (r ∷ rs) zero row h = (omega arith, ap (λ o. unwrap_or o r) (sym h))
slice_row (r ∷ rs) (suc i) row h = let there = slice_row rs i row h in (omega (arith, there.0), there.1)

-- the last row stands before the bound, and so do all
pub end_parted : (b : Bound) (rows : Rows) (row : Row) (before : Bool) → AscendsIn b.column rows
    → Some row ≡ slice_get rows (length rows - 1) → before ≡ row_before b row → before ≡ true → Parted b rows (length rows)
end_parted b rows row before up last is does =
    let there = slice_row rows (length rows - 1) row last in
    record {
      within = omega arith;
      below = below_here b rows (length rows) up (omega (arith, there.0)) (omega arith) (ap (row_before b) there.1 ∙ sym is ∙ does);
      above = λ j above within. absurd (omega arith);
    }

pub ascends_drop : (column : ℕ) (rows : Rows) (n : ℕ) → AscendsIn column rows → AscendsIn column (drop n rows)
ascends_drop column rows n up i j ij jn =
    let long : length (drop n rows) ≡ length rows - n = length-drop n rows in
    let at : (k : ℕ) → row_at (drop n rows) k ≡ row_at rows (n + k) = λ k. get_or-drop n rows k [] in
    subst (λ r. is_le (val_cmp (cell (row_at (drop n rows) i) column) (cell r column)) ≡ true) (sym (at j))
    (subst (λ r. is_le (val_cmp (cell r column) (cell (row_at rows (n + j)) column)) ≡ true) (sym (at i))
    (up (n + i) (n + j) (omega arith) (omega (arith, long))))

pub narrowed_from : (b : Bound) (rows : Rows) (count : ℕ) → Parted b rows count
    → Narrowed (λ row. row_before b row ≡ false) rows (drop count rows)
narrowed_from b rows count p =
    narrowed_drop (λ row. row_before b row ≡ false) rows count
    (λ j jc jn isnt. true≢false (sym (p.below j jc) ∙ isnt))

pub narrowed_to : (b : Bound) (rows : Rows) (count : ℕ) → Parted b rows count
    → Narrowed (λ row. row_before b row ≡ true) rows (take count rows)
narrowed_to b rows count p =
    narrowed_take (λ row. row_before b row ≡ true) rows count
    (λ j cj jn is. true≢false (sym is ∙ p.above j cj jn))

-- ---- what a comparison says of a bound

parts : (p q x : Bool) → is_yes (if p then Unknown else if q then Unknown else known x) ≡ true → (q ≡ false) × (x ≡ true)
parts true q x h = absurd (true≢false (sym h))
parts false true x h = absurd (true≢false (sym h))
parts false false true h = (refl, refl)
parts false false false h = absurd (true≢false (sym h))

pub no_null : (c : Comparison) (row : Row) → meets c row ≡ true → is_null c.value.now ≡ false
no_null c row h =
    (parts (is_null (cell row c.column)) (is_null c.value.now) (holds c.op (cell row c.column) c.value.now) h).0

pub held : (c : Comparison) (op : Op) (row : Row) → c.op ≡ op → meets c row ≡ true
    → holds op (cell row c.column) c.value.now ≡ true
held c op row is h =
    subst (λ o. holds o (cell row c.column) c.value.now ≡ true) is
    (parts (is_null (cell row c.column)) (is_null c.value.now) (holds c.op (cell row c.column) c.value.now) h).1

pub eq_not_lt : (o : Ordering) → is_eq o ≡ true → is_lt o ≡ false
eq_not_lt Less h = absurd (true≢false (sym h))
eq_not_lt Equal h = refl
eq_not_lt Greater h = absurd (true≢false (sym h))

pub eq_le : (o : Ordering) → is_eq o ≡ true → is_le o ≡ true
eq_le Less h = absurd (true≢false (sym h))
eq_le Equal h = refl
eq_le Greater h = absurd (true≢false (sym h))

pub gt_not_le : (o : Ordering) → is_gt o ≡ true → is_le o ≡ false
gt_not_le Less h = absurd (true≢false (sym h))
gt_not_le Equal h = absurd (true≢false (sym h))
gt_not_le Greater h = refl

pub ge_not_lt : (o : Ordering) → is_ge o ≡ true → is_lt o ≡ false
ge_not_lt Less h = absurd (true≢false (sym h))
ge_not_lt Equal h = refl
ge_not_lt Greater h = refl

-- values whose comparison is yes are one
exact : (o : Ordering) → is_eq o ≡ true → o ≡ Equal
exact Less h = absurd (true≢false (sym h))
exact Equal h = refl
exact Greater h = absurd (true≢false (sym h))

pub equal_values : (c : Comparison) (row : Row) → c.op ≡ Eq → meets c row ≡ true → cell row c.column ≡ c.value.now
equal_values c row is h =
    val_cmp-exact (cell row c.column) c.value.now (exact (val_cmp (cell row c.column) c.value.now) (held c Eq row is h))

-- ---- rows in the order of their keys ascend in the first column of the key

first_below : (a b : Val) (xs ys : List Val) → key_cmp (a ∷ xs) (b ∷ ys) ≡ Less → is_le (val_cmp a b) ≡ true
first_below a b xs ys h = by (val_cmp a b) (slice_cmp val_cmp xs ys) h
  where
    by : (o p : Ordering) → ordering_then o p ≡ Less → is_le o ≡ true
    by Less p h = refl
    by Equal p h = refl
    by Greater p h = cc

module _ (t : TableDef) (column : ℕ) (columns : List ℕ) (key : t.key ≡ column ∷ columns) where
  below_first : (a b : Row) → key_cmp (key_of t a) (key_of t b) ≡ Less → is_le (val_cmp (cell a column) (cell b column)) ≡ true
  below_first a b h =
      first_below (cell a column) (cell b column) (map (cell a) columns) (map (cell b) columns)
      (subst (λ ks. key_cmp (map (cell a) ks) (map (cell b) ks) ≡ Less) key h)

  from_first : (row : Row) (rows : Rows) (j : ℕ)
      → AllByRecursion (λ b. key_cmp (key_of t row) (key_of t b) ≡ Less) rows → j < length rows
      → is_le (val_cmp (cell row column) (cell (row_at rows j) column)) ≡ true
  from_first row [] j h within = absurd (omega arith)
  from_first row (r ∷ rs) zero h within = below_first row r h.0
  from_first row (r ∷ rs) (suc j) h within = from_first row rs j h.1 (omega arith)

  ascends_first : (rows : Rows) → Ascends t rows → AscendsIn column rows
  ascends_first [] h i j ij jn = absurd (omega arith)
  ascends_first (r ∷ rs) h i zero ij jn = absurd (omega arith)
  ascends_first (r ∷ rs) h zero (suc j) ij jn = from_first r rs j h.0 (omega arith)
  ascends_first (r ∷ rs) h (suc i) (suc j) ij jn = ascends_first rs h.1 i j (omega arith) (omega arith)

rest_of : List ℕ → List ℕ
rest_of [] = []
rest_of (c ∷ cs) = cs

first_is : (columns : List ℕ) (column : ℕ) → Some column ≡ slice_get columns 0 → columns ≡ column ∷ rest_of columns
unfolding rest_of
first_is [] column h = cc
first_is (c ∷ cs) column h = cc

pub ascends_in_key : (t : TableDef) (rows : Rows) (column : ℕ) → Some column ≡ slice_get t.key 0 → Ascends t rows
    → AscendsIn column rows
ascends_in_key t rows column first up = ascends_first t column (rest_of t.key) (first_is t.key column first) rows up
