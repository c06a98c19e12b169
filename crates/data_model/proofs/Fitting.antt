-- Changes keep a database that fits.
use Rattle.std.proofs.Common.{◌≡◌, ℕ, ◌+◌, ◌<◌, ◌≤◌, zero, suc, Bool, true, false, not, ◌&&◌, ◌||◌, ◌==◌, IsTrue, List, [], ◌∷◌, ◌++◌, length, take, drop, get_or, map, refl, sym, ap, subst, ◌∙◌, arith, nat_le, Option, Some, None, unwrap_or, option_map, length-append, length-take, length-drop, take-append-drop, add-one}
use Rattle.std.specs.Ordering.{is_eq, is_gt, is_lt, ordering_reverse}
use Rattle.std.specs.declared.cmp.Ordering.{Ordering}
use Rattle.std.specs.declared.cmp.Ordering.TheVariants.{Less, Equal, Greater}
use Rattle.std.specs.List.{All, AllByRecursion, list_any, list_all, slice_get, insert, remove, slice_set}
use Rattle.std.proofs.lemmas.Bool.{eqb-false}
use Rattle.std.proofs.lemmas.Bool.Decides.{nat_tests}
use Rattle.std.proofs.lemmas.List.{drop_more, set_split}
use Rattle.scalar_val.proofs.OrderLaws.{val_cmp-total, val_cmp-exact}
use Rattle.scalar_val.specs.declared.val.Val.{Val}
use Rattle.scalar_val.specs.ValOrder.{val_cmp}
use Rattle.data_model.specs.declared.catalog.Column.{Column}
use Rattle.data_model.specs.declared.catalog.TableDef.{TableDef}
use Rattle.data_model.specs.declared.transaction.SetCell.{SetCell}
use Rattle.scalar_val.specs.Values.{is_null, cell}
use Rattle.data_model.specs.Rows.{Row, Rows, Database, key_of, key_cmp, is_below, is_above, stands_in, may_stand, set_cells, row_fits, alike_at, clash, Pairwise, Ascends, FitsTable, FitAll}
use Rattle.data_model.specs.Places.{IsFree, IsHeld}
use Rattle.data_model.proofs.Lists.{or_false, all_in, all_out, none_from_any, out_append, out_parts, pairwise_with, pairwise_without, pairwise_before, pairwise_after}
use Rattle.data_model.proofs.Places.{is_less, lt_is, gt_is, eq_is, held_parts}

no_and : (a : Bool) → (a && false) ≡ false
no_and true = refl
no_and false = refl

same_by : (nx ny : Bool) (o p : Ordering) → p ≡ ordering_reverse o → (o ≡ Equal → nx ≡ ny) → (not nx && is_eq o) ≡ (not ny && is_eq p)
same_by nx ny Less p e same = no_and (not nx) ∙ sym (rw e (no_and (not ny)))
same_by nx ny Equal p e same = rw (e, same refl) refl
same_by nx ny Greater p e same = no_and (not nx) ∙ sym (rw e (no_and (not ny)))

-- two rows are alike in a column either way
alike_back : (a b : Row) (column : ℕ) → alike_at a b column ≡ alike_at b a column
alike_back a b column =
    let x = cell a column in
    let y = cell b column in
    same_by (is_null x) (is_null y) (val_cmp x y) (val_cmp y x) (val_cmp-total.antisymm y x) (λ e. ap is_null (val_cmp-exact x y e))

any_agree : {X : Type 0} (p q : X → Bool) (xs : List X) → ((x : X) → p x ≡ q x) → list_any p xs ≡ list_any q xs
any_agree p q [] h = refl
any_agree p q (x ∷ xs) h = let here = h x in let rest = any_agree p q xs h in cc

-- rows that clash, clash either way
pub clash_back : (t : TableDef) (a b : Row) → clash t a b ≡ clash t b a
clash_back t a b = any_agree (alike_at a b) (alike_at b a) t.unique (alike_back a b)

whole : {X : Type 0} (P : List X → Type 0) (rows : List X) (at : ℕ) → P rows → P (take at rows ++ drop at rows)
whole P rows at h = rw take-append-drop h

below_most : (most n : ℕ) → nat_le most n ≡ false → n < most
below_most most n h = grind (arith, nat_tests)

longer : {X : Type 0} (xs : List X) (at : ℕ) (x : X) (most : ℕ) → at ≤ length xs → length xs < most → length (take at xs ++ x ∷ drop at xs) ≤ most
longer xs at x most within less = omega (arith, length-append (take at xs) (x ∷ drop at xs), length-take at xs, length-drop at xs)

shorter : {X : Type 0} (xs : List X) (at most : ℕ) → length xs ≤ most → length (take at xs ++ drop (suc at) xs) ≤ most
shorter xs at most less = omega (arith, length-append (take at xs) (drop (suc at) xs), length-take at xs, length-drop (suc at) xs)

as_long : {X : Type 0} (xs : List X) (x y : X) (ys : List X) (most : ℕ) → length (xs ++ y ∷ ys) ≤ most → length (xs ++ x ∷ ys) ≤ most
as_long xs x y ys most less = omega (arith, length-append xs (x ∷ ys), length-append xs (y ∷ ys))

pub fits_insert : (t : TableDef) (row : Row) (rows : Rows) (at : ℕ) → FitsTable t rows → IsTrue (row_fits t.columns row) → IsFree t (key_of t row) rows at → list_any (clash t row) rows ≡ false → nat_le t.max_rows (length rows) ≡ false → FitsTable t (insert rows at row)
fits_insert t row rows at fits row_is free apart room =
    let alone = whole (λ rows. All (λ other. clash t row other ≡ false) rows) rows at (none_from_any (clash t row) rows apart) in
    let apart_parts = out_parts (λ other. clash t row other ≡ false) (take at rows) (drop at rows) (all_out _ _ alone) in
    let kinds_parts = out_parts (λ row. IsTrue (row_fits t.columns row)) (take at rows) (drop at rows) (whole (λ rows. AllByRecursion (λ row. IsTrue (row_fits t.columns row)) rows) rows at fits.kinds) in
    record {
      kinds = out_append (λ row. IsTrue (row_fits t.columns row)) (take at rows) (row ∷ drop at rows) kinds_parts.0 (row_is, kinds_parts.1);
      ascending =
          pairwise_with (λ a b. key_cmp (key_of t a) (key_of t b) ≡ Less) (take at rows) row (drop at rows) (whole (λ rows. Ascends t rows) rows at fits.ascending)
          (all_out _ _ (λ k d in'. lt_is _ (free.below k d in'))) (all_out _ _ (λ k d in'. is_less (key_of t (get_or (drop at rows) k d)) (key_of t row) (gt_is _ (free.above k d in'))));
      unique =
          pairwise_with (λ a b. clash t a b ≡ false) (take at rows) row (drop at rows) (whole (λ rows. Pairwise (λ a b. clash t a b ≡ false) rows) rows at fits.unique)
          (all_out _ _ (λ k d in'. clash_back t _ row ∙ all_in (λ other. clash t row other ≡ false) (take at rows) apart_parts.0 k d in')) apart_parts.1;
      room = longer rows at row t.max_rows free.within (below_most t.max_rows (length rows) room);
    }

kinds_of : TableDef → Row → Type 0
kinds_of t row = IsTrue (row_fits t.columns row)

-- without the row at a place
pub fits_remove : (t : TableDef) (rows : Rows) (at : ℕ) (d : Row) → at < length rows → FitsTable t rows → FitsTable t (remove rows at)
fits_remove t rows at d within fits =
    let r = get_or rows at d in
    let split : rows ≡ take at rows ++ r ∷ drop (suc at) rows = rw add-one at (held_parts rows at d within) in
    let kinds = out_parts (λ row. IsTrue (row_fits t.columns row)) (take at rows) (r ∷ drop (suc at) rows) (subst (λ rows. AllByRecursion (λ row. IsTrue (row_fits t.columns row)) rows) split fits.kinds) in
    record {
      kinds = out_append (λ row. IsTrue (row_fits t.columns row)) (take at rows) (drop (suc at) rows) kinds.0 kinds.1.1;
      ascending = pairwise_without (λ a b. key_cmp (key_of t a) (key_of t b) ≡ Less) (take at rows) r (drop (suc at) rows) (subst (λ rows. Ascends t rows) split fits.ascending);
      unique = pairwise_without (λ a b. clash t a b ≡ false) (take at rows) r (drop (suc at) rows) (subst (λ rows. Pairwise (λ a b. clash t a b ≡ false) rows) split fits.unique);
      room = shorter rows at t.max_rows fits.room;
    }

-- with another row at a place, of the same key
pub fits_set : (t : TableDef) (after : Row) (rows : Rows) (at : ℕ) (d : Row) → at < length rows → FitsTable t rows → IsTrue (row_fits t.columns after) → key_of t after ≡ key_of t (get_or rows at d) → list_any (clash t after) (remove rows at) ≡ false → FitsTable t (slice_set rows at after)
fits_set t after rows at d within fits row_is same_key apart =
    let r = get_or rows at d in
    let front = take at rows in
    let back = drop (suc at) rows in
    let split : rows ≡ front ++ r ∷ back = rw add-one at (held_parts rows at d within) in
    let rest = fits_remove t rows at d within fits in
    let apart_parts = out_parts (λ other. clash t after other ≡ false) front back (all_out _ _ (none_from_any (clash t after) (front ++ back) apart)) in
    let kinds = out_parts (λ row. IsTrue (row_fits t.columns row)) front back rest.kinds in
    let up = subst (λ rows. Ascends t rows) split fits.ascending in
    let made : FitsTable t (front ++ after ∷ back) = record {
      kinds = out_append (λ row. IsTrue (row_fits t.columns row)) front (after ∷ back) kinds.0 (row_is, kinds.1);
      ascending = pairwise_with (λ a b. key_cmp (key_of t a) (key_of t b) ≡ Less) front after back rest.ascending
          (subst (λ k. AllByRecursion (λ a. key_cmp (key_of t a) k ≡ Less) front) (sym same_key) (pairwise_before (λ a b. key_cmp (key_of t a) (key_of t b) ≡ Less) front r back up))
          (subst (λ k. AllByRecursion (λ b. key_cmp k (key_of t b) ≡ Less) back) (sym same_key) (pairwise_after (λ a b. key_cmp (key_of t a) (key_of t b) ≡ Less) front r back up));
      unique = pairwise_with (λ a b. clash t a b ≡ false) front after back rest.unique
          (all_out _ _ (λ k e in'. clash_back t _ after ∙ all_in (λ other. clash t after other ≡ false) front apart_parts.0 k e in')) apart_parts.1;
      room = as_long front after r back t.max_rows (subst (λ rows. length rows ≤ t.max_rows) split fits.room);
    } in
    subst (λ rows. FitsTable t rows) (sym (set_split rows at after within)) made

some_same : {X : Type 0} (x y : X) → Some x ≡ Some y → x ≡ y
some_same x y e = cc

-- the tables of a database
pub fits_at : (ts : List TableDef) (db : Database) (n : ℕ) (t : TableDef) → FitAll ts db → slice_get ts n ≡ Some t → FitsTable t (unwrap_or (slice_get db n) [])
fits_at [] db n t h e = cc
fits_at (u ∷ ts) [] n t h e = absurd h
fits_at (u ∷ ts) (rows ∷ db) zero t h e = subst (λ t. FitsTable t rows) (some_same u t e) h.0
fits_at (u ∷ ts) (rows ∷ db) (suc n) t h e = fits_at ts db n t h.1 e

pub fits_with : (ts : List TableDef) (db : Database) (n : ℕ) (t : TableDef) (rows : Rows) → FitAll ts db → slice_get ts n ≡ Some t → FitsTable t rows → FitAll ts (slice_set db n rows)
fits_with [] db n t rows h e fits = cc
fits_with (u ∷ ts) [] n t rows h e fits = absurd h
fits_with (u ∷ ts) (old ∷ db) zero t rows h e fits = (subst (λ t. FitsTable t rows) (sym (some_same u t e)) fits, h.1)
fits_with (u ∷ ts) (old ∷ db) (suc n) t rows h e fits = (h.0, fits_with ts db n t rows h.1 e fits)

pub as_many : (ts : List TableDef) (db : Database) → FitAll ts db → length ts ≡ length db
as_many [] [] h = refl
as_many [] (rows ∷ db) h = absurd h
as_many (t ∷ ts) [] h = absurd h
as_many (t ∷ ts) (rows ∷ db) h = ap (λ n. suc n) (as_many ts db h.1)

pub no_rows_fit : (ts : List TableDef) → FitAll ts (map (λ (t : TableDef). []) ts)
no_rows_fit [] = tt
no_rows_fit (t ∷ ts) = (record { kinds = tt; ascending = tt; unique = tt; room = omega arith }, no_rows_fit ts)

-- new values in a row
both_true : (a b : Bool) → IsTrue (a && b) → IsTrue a × IsTrue b
both_true true b h = (refl, h)
both_true false b h = cc

true_both : (a b : Bool) → IsTrue a → IsTrue b → IsTrue (a && b)
true_both true b h k = k
true_both false b h k = cc

row_set : (cs : List Column) (row : Row) (n : ℕ) (v : Val) → IsTrue (row_fits cs row) → IsTrue (unwrap_or (option_map (λ column. stands_in column v) (slice_get cs n)) false) → IsTrue (row_fits cs (slice_set row n v))
row_set [] [] n v h k = refl
row_set [] (w ∷ row) n v h k = cc
row_set (c ∷ cs) [] n v h k = cc
row_set (c ∷ cs) (w ∷ row) zero v h k = true_both (stands_in c v) _ k (both_true (stands_in c w) _ h).1
row_set (c ∷ cs) (w ∷ row) (suc n) v h k =
    let parts = both_true (stands_in c w) (row_fits cs row) h in
    true_both (stands_in c w) _ parts.0 (row_set cs row n v parts.1 k)

other_cell : (row : Row) (n m : ℕ) (v : Val) → (m ≡ n → ⊥) → cell (slice_set row n v) m ≡ cell row m
other_cell [] n m v h = refl
other_cell (w ∷ row) zero zero v h = absurd (h refl)
other_cell (w ∷ row) zero (suc m) v h = refl
other_cell (w ∷ row) (suc n) zero v h = refl
other_cell (w ∷ row) (suc n) (suc m) v h = other_cell row n m v (λ e. h (ap (λ k. suc k) e))

other_key : (key : List ℕ) (row : Row) (n : ℕ) (v : Val) → list_any (λ column. column == n) key ≡ false → map (cell (slice_set row n v)) key ≡ map (cell row) key
other_key [] row n v h = refl
other_key (m ∷ key) row n v h =
    let parts = or_false (m == n) (list_any (λ column. column == n) key) h in
    let here = other_cell row n m v (eqb-false m n parts.0) in
    let rest = other_key key row n v parts.1 in
    cc

not_true : (b : Bool) → IsTrue (not b) → b ≡ false
not_true true h = cc
not_true false h = refl

pub set_fits : (t : TableDef) (cells : List SetCell) (row : Row) → IsTrue (list_all (may_stand t) cells) → IsTrue (row_fits t.columns row) → IsTrue (row_fits t.columns (set_cells cells row))
set_fits t [] row h k = k
set_fits t (c ∷ cells) row h k =
    let parts = both_true (may_stand t c) (list_all (may_stand t) cells) h in
    let here = both_true (unwrap_or (option_map (λ column. stands_in column c.value) (slice_get t.columns c.column)) false) _ parts.0 in
    set_fits t cells (slice_set row c.column c.value) parts.1 (row_set t.columns row c.column c.value k here.0)

pub set_keeps_key : (t : TableDef) (cells : List SetCell) (row : Row) → IsTrue (list_all (may_stand t) cells) → key_of t (set_cells cells row) ≡ key_of t row
set_keeps_key t [] row h = refl
set_keeps_key t (c ∷ cells) row h =
    let parts = both_true (may_stand t c) (list_all (may_stand t) cells) h in
    let here = both_true (unwrap_or (option_map (λ column. stands_in column c.value) (slice_get t.columns c.column)) false) _ parts.0 in
    set_keeps_key t cells (slice_set row c.column c.value) parts.1 ∙ other_key t.key row c.column c.value (not_true _ here.1)
