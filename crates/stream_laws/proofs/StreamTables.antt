-- What a change makes of one table of a database.
use Rattle.std.proofs.Common.{◌≡◌, ℕ, zero, suc, Bool, true, false, ◌||◌, cond, List, [], ◌∷◌, ◌++◌, filter, find, slice_get, Option, Some, None, Result, Ok, Err, refl, ap, sym, ◌∙◌, subst, ◌⊎◌, inl, inr}
use Rattle.std.proofs.lemmas.List.Folds.{find_at}
use Rattle.std.specs.Prelude.{slice_set}
use Rattle.std.specs.Str.{bytes_eq}
use Rattle.std.specs.Ordering.{is_lt, is_eq, is_gt, ordering_reverse}
use Rattle.std.specs.declared.cmp.Ordering.{Ordering}
use Rattle.std.specs.declared.cmp.Ordering.TheVariants.{Less, Equal, Greater}
use Rattle.std.specs.List.{AllByRecursion, list_any, position_or_len}
use Rattle.scalar_val.specs.declared.val.Val.{Val}
use Rattle.data_model.specs.declared.catalog.TableDef.{TableDef}
use Rattle.data_model.specs.declared.catalog.Catalog.{Catalog}
use Rattle.data_model.specs.declared.transaction.Reason.{Reason}
use Rattle.data_model.specs.declared.transaction.TxChange.{TxChange}
use Rattle.data_model.specs.Rows.{Row, Rows, Database, Ascends, key_of, key_cmp, has_key, is_below, is_above, first_reason}
use Rattle.data_model.specs.Transactions.{rows_at, rows_after, tests_of, table_of, is_table, change, change_in, unless}
use Rattle.data_model.proofs.Places.{key_total, is_greater}
use Rattle.query_model.proofs.Positions.{each_found}
use Rattle.stream_laws.proofs.SortedRows.{all_weaker, keeps_none, keeps_all, each_of}

-- ---- one table among the others

same_or_not : (n k : ℕ) → (n ≡ k) ⊎ (n ≡ k → ⊥)
same_or_not zero zero = inl refl
same_or_not zero (suc k) = inr (λ e. cc)
same_or_not (suc n) zero = inr (λ e. cc)
same_or_not (suc n) (suc k) = go (same_or_not n k)
  where
    go : (n ≡ k) ⊎ (n ≡ k → ⊥) → (suc n ≡ suc k) ⊎ (suc n ≡ suc k → ⊥)
    go (inl e) = inl (ap suc e)
    go (inr f) = inr (λ e. f cc)

other_rows : (db : Database) (n k : ℕ) (rows : Rows) → (n ≡ k → ⊥) → rows_at (slice_set db n rows) k ≡ rows_at db k
other_rows [] n k rows f = refl
other_rows (r ∷ db) zero zero rows f = absurd (f refl)
other_rows (r ∷ db) zero (suc k) rows f = refl
other_rows (r ∷ db) (suc n) zero rows f = refl
other_rows (r ∷ db) (suc n) (suc k) rows f = other_rows db n k rows (λ e. f (ap suc e))

own_rows : (db : Database) (n : ℕ) (rows : Rows) → (rows_at (slice_set db n rows) n ≡ rows) ⊎ (rows_at (slice_set db n rows) n ≡ rows_at db n)
own_rows [] n rows = inr refl
own_rows (r ∷ db) zero rows = inl refl
own_rows (r ∷ db) (suc n) rows = own_rows db n rows

-- a change leaves a table alone or is one of it
pub record Changed (tables : List TableDef) (place : ℕ) (c : TxChange) (before after : Rows) : Type 0 where
  pub table : TableDef
  pub there : slice_get tables place ≡ Some table
  pub named : bytes_eq table.name (table_of c) ≡ true
  pub allowed : first_reason (tests_of c table before) ≡ None
  pub made : after ≡ rows_after c table before

pub change_at : (catalog : Catalog) (db after : Database) (c : TxChange) (place : ℕ) → change catalog db c ≡ Ok after →
    (rows_at after place ≡ rows_at db place) ⊎ (Changed catalog.tables place c (rows_at db place) (rows_at after place))
change_at catalog db after c place h = go (find (is_table (table_of c)) catalog.tables) refl h
  where
    at : ℕ
    at = position_or_len (is_table (table_of c)) catalog.tables

    done : (t : TableDef) → find (is_table (table_of c)) catalog.tables ≡ Some t → (o : Option Reason) → first_reason (tests_of c t (rows_at db at)) ≡ o → unless o (slice_set db at (rows_after c t (rows_at db at))) ≡ Ok after →
        (rows_at after place ≡ rows_at db place) ⊎ (Changed catalog.tables place c (rows_at db place) (rows_at after place))
    done t e (Some r) f k = absurd (let q : ◌≡◌ {A = Result Database Reason} (Err r) (Ok after) = k in cc)
    done t e None f k = by (same_or_not at place)
      where
        is : slice_set db at (rows_after c t (rows_at db at)) ≡ after
        is = let q : ◌≡◌ {A = Result Database Reason} (Ok (slice_set db at (rows_after c t (rows_at db at)))) (Ok after) = k in cc

        by : (at ≡ place) ⊎ (at ≡ place → ⊥) → (rows_at after place ≡ rows_at db place) ⊎ (Changed catalog.tables place c (rows_at db place) (rows_at after place))
        by (inr free) = inl (ap (λ d. rows_at d place) (sym is) ∙ other_rows db at place (rows_after c t (rows_at db at)) free)
        by (inl same) = subst (λ n. (rows_at after n ≡ rows_at db n) ⊎ (Changed catalog.tables n c (rows_at db n) (rows_at after n))) same (own (own_rows db at (rows_after c t (rows_at db at))))
          where
            own : (rows_at (slice_set db at (rows_after c t (rows_at db at))) at ≡ rows_after c t (rows_at db at)) ⊎ (rows_at (slice_set db at (rows_after c t (rows_at db at))) at ≡ rows_at db at) →
                (rows_at after at ≡ rows_at db at) ⊎ (Changed catalog.tables at c (rows_at db at) (rows_at after at))
            own (inr e) = inl (ap (λ d. rows_at d at) (sym is) ∙ e)
            own (inl m) = inr (record {
              table = t;
              there = sym (find_at (is_table (table_of c)) catalog.tables) ∙ e;
              named = (each_found (λ _. Unit {0}) (is_table (table_of c)) catalog.tables t (each_of (λ _. Unit {0}) (λ _. tt) catalog.tables) e).1;
              allowed = f;
              made = ap (λ d. rows_at d at) (sym is) ∙ m;
            })

    go : (o : Option TableDef) → find (is_table (table_of c)) catalog.tables ≡ o → change_in o at db c ≡ Ok after → (rows_at after place ≡ rows_at db place) ⊎ (Changed catalog.tables place c (rows_at db place) (rows_at after place))
    go None e k = absurd (let q : ◌≡◌ {A = Result Database Reason} (Err _) (Ok after) = k in cc)
    go (Some t) e k = done t e (first_reason (tests_of c t (rows_at db at))) refl k

-- ---- rows whose keys ascend

parted_by : (t : TableDef) (key : List Val) (y : Row) (ys : Rows) (o : Ordering) → key_cmp (key_of t y) key ≡ o → AllByRecursion (λ z. key_cmp (key_of t y) (key_of t z) ≡ Less) ys → is_eq o ≡ false →
    filter (is_below t key) ys ++ filter (is_above t key) ys ≡ ys →
    cond (is_lt o) (y ∷ filter (is_below t key) ys) (filter (is_below t key) ys) ++ cond (is_gt o) (y ∷ filter (is_above t key) ys) (filter (is_above t key) ys) ≡ y ∷ ys
parted_by t key y ys Less e up free more = ap (λ zs. y ∷ zs) more
parted_by t key y ys Equal e up free more = absurd (let k : true ≡ false = free in cc)
parted_by t key y ys Greater e up free more =
    let above : (z : Row) → key_cmp (key_of t y) (key_of t z) ≡ Less → key_cmp (key_of t z) key ≡ Greater =
    λ z l. is_greater key (key_of t z) (key_total.trans key (key_of t y) (key_of t z) (key_total.antisymm key (key_of t y) ∙ ap ordering_reverse e) l) in
    ap (λ zs. zs ++ y ∷ filter (is_above t key) ys) (keeps_none (is_below t key) ys (all_weaker _ (λ z. is_below t key z ≡ false) (λ z l. ap is_lt (above z l)) ys up))
    ∙ ap (λ zs. y ∷ zs) (keeps_all (is_above t key) ys (all_weaker _ (λ z. is_above t key z ≡ true) (λ z l. ap is_gt (above z l)) ys up))

or_parts : (a b : Bool) → (a || b) ≡ false → (a ≡ false) × (b ≡ false)
or_parts true b h = absurd (let k : true ≡ false = h in cc)
or_parts false b h = (refl, h)

pub parted : (t : TableDef) (key : List Val) (rows : Rows) → Ascends t rows → list_any (has_key t key) rows ≡ false → filter (is_below t key) rows ++ filter (is_above t key) rows ≡ rows
parted t key [] up free = refl
parted t key (y ∷ ys) up free =
    let parts = or_parts (has_key t key y) (list_any (has_key t key) ys) free in
    parted_by t key y ys (key_cmp (key_of t y) key) refl up.0 parts.0 (parted t key ys up.1 parts.1)
