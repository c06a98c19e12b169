-- The rows of a table in any snapshot: their keys ascend, and no two have one value in a unique column.
use Rattle.std.proofs.Common.{◌≡◌, ℕ, Bool, true, false, not, ◌&&◌, if◌then◌else◌, cond, List, [], ◌∷◌, ◌++◌, length, map, filter, slice_get, Option, Some, None, Ok, refl, ap, ap₂, sym, ◌∙◌, subst, ◌⊎◌, inl, inr}
use Rattle.std.specs.List.{AllByRecursion, list_all, list_any}
use Rattle.data_model.specs.declared.catalog.TableDef.{TableDef}
use Rattle.data_model.specs.declared.catalog.Catalog.{Catalog}
use Rattle.data_model.specs.declared.transaction.Reason.{Reason}
use Rattle.data_model.specs.declared.transaction.TxCell.{TxCell}
use Rattle.data_model.specs.declared.transaction.TxChange.{TxChange}
use Rattle.data_model.specs.declared.transaction.TxChange.TheVariants.{Insert, Update, Delete}
use Rattle.data_model.specs.Rows.{Row, Rows, Database, Pairwise, Ascends, key_of, key_cmp, has_key, is_below, is_above, clash, inserted, updated, deleted, first_reason, Test, test}
use Rattle.data_model.specs.Transactions.{rows_at, rows_after, row_given, tests_of, key_given, set_given, names_one, is_wrong, lacks, tests_of_insert, tests_of_update, change}
use Rattle.stream_laws.proofs.StreamTables.{Changed, change_at, parted}
use Rattle.data_model.specs.declared.transaction.Reason.TheVariants as reason
use Rattle.scalar_val.specs.declared.val.Val.{Val}
use Rattle.std.specs.Prelude.{nat_le}
use Rattle.std.specs.declared.cmp.Ordering.TheVariants.{Less}
use Rattle.data_model.proofs.Lists.{or_false, pairwise_with}
use Rattle.data_model.proofs.Places.{lt_is, gt_is, is_less}
use Rattle.data_model.proofs.Fitting.{clash_back}
use Rattle.stream_laws.proofs.StreamPieces.{passing}
use Rattle.std.proofs.Common.{IsTrue}
use Rattle.std.specs.Ordering.{is_eq}
use Rattle.std.specs.Option.{option_or}
use Rattle.std.specs.declared.cmp.Ordering.TheVariants.{Equal}
use Rattle.std.proofs.lemmas.Cmp.{alike_right, tied_back}
use Rattle.data_model.specs.declared.transaction.SetCell.{SetCell}
use Rattle.data_model.specs.Rows.{set_cells, may_stand, update_tests}
use Rattle.data_model.proofs.Places.{key_total, eq_is}
use Rattle.data_model.proofs.Fitting.{set_keeps_key}
use Rattle.data_model.specs.Naming.{update_naming}
use Rattle.data_model.proofs.Gives.{update_first, set_given_stands}
use Rattle.stream_laws.proofs.SortedRows.{pairs_filter, all_filter, all_weaker}

abbrev pub Orderly : TableDef → Rows → Type 0
Orderly t rows = Ascends t rows × Pairwise (λ a b. clash t a b ≡ false) rows

abbrev pub Settled : List TableDef → ℕ → Rows → Type 0
Settled tables place rows = (t : TableDef) → slice_get tables place ≡ Some t → Orderly t rows

past : (r : Reason) (b : Bool) (o : Option Reason) → (if b then Some r else o) ≡ None → (b ≡ false) × (o ≡ None)
past r true o h = absurd (let k : Some r ≡ None = h in cc)
past r false o h = (refl, h)

record Passed (a b c d e : Bool) : Type 0 where
  first : a ≡ false
  second : b ≡ false
  third : c ≡ false
  fourth : d ≡ false
  fifth : e ≡ false

five : (q r s t u : Reason) (a b c d e : Bool) (rest : List Test) → first_reason (test q a ∷ test r b ∷ test s c ∷ test t d ∷ test u e ∷ rest) ≡ None → Passed a b c d e
five q r s t u true b c d e rest h = absurd (let k : Some q ≡ None = h in cc)
five q r s t u false true c d e rest h = absurd (let k : Some r ≡ None = h in cc)
five q r s t u false false true d e rest h = absurd (let k : Some s ≡ None = h in cc)
five q r s t u false false false true e rest h = absurd (let k : Some t ≡ None = h in cc)
five q r s t u false false false false true rest h = absurd (let k : Some u ≡ None = h in cc)
five q r s t u false false false false false rest h = record { first = refl; second = refl; third = refl; fourth = refl; fifth = refl }

insert_free : (t : TableDef) (row : List TxCell) (rows : Rows) → first_reason (tests_of_insert t row rows) ≡ None → (list_any (has_key t (key_of t (row_given t row))) rows ≡ false) × (list_any (clash t (row_given t row)) rows ≡ false)
insert_free t row rows h =
    let r = five reason.NoColumn reason.WrongKind reason.NullGiven reason.KeyTaken reason.UniqueTaken (not (list_all (names_one t.columns) row)) (list_any (is_wrong t.columns) row) (list_any (lacks row) t.columns)
    (list_any (has_key t (key_of t (row_given t row))) rows) (list_any (clash t (row_given t row)) rows) (test reason.TableFull (nat_le t.max_rows (length rows)) ∷ []) h in
    (r.fourth, r.fifth)

pub key_free : (t : TableDef) (row : List TxCell) (rows : Rows) → first_reason (tests_of_insert t row rows) ≡ None → list_any (has_key t (key_of t (row_given t row))) rows ≡ false
key_free t row rows h = (insert_free t row rows h).0

none_told : (f : Row → Bool) (rows : Rows) → list_any f rows ≡ false → AllByRecursion (λ r. f r ≡ false) rows
none_told f [] h = tt
none_told f (r ∷ rows) h = let parts = or_false (f r) (list_any f rows) h in (parts.0, none_told f rows parts.1)

below_key : (t : TableDef) (key : List Val) (rows : Rows) → AllByRecursion (λ r. key_cmp (key_of t r) key ≡ Less) (filter (is_below t key) rows)
below_key t key rows = all_weaker (λ r. is_below t key r ≡ true) (λ r. key_cmp (key_of t r) key ≡ Less) (λ r h. lt_is _ h) (filter (is_below t key) rows) (passing (is_below t key) rows)

above_key : (t : TableDef) (key : List Val) (rows : Rows) → AllByRecursion (λ r. key_cmp key (key_of t r) ≡ Less) (filter (is_above t key) rows)
above_key t key rows = all_weaker (λ r. is_above t key r ≡ true) (λ r. key_cmp key (key_of t r) ≡ Less) (λ r h. is_less (key_of t r) key (gt_is _ h)) (filter (is_above t key) rows) (passing (is_above t key) rows)

orderly_inserted : (t : TableDef) (row : Row) (rows : Rows) → list_any (has_key t (key_of t row)) rows ≡ false → list_any (clash t row) rows ≡ false → Orderly t rows → Orderly t (inserted t row rows)
orderly_inserted t row rows free apart o =
    let key = key_of t row in
    let front = filter (is_below t key) rows in
    let back = filter (is_above t key) rows in
    let whole : front ++ back ≡ rows = parted t key rows o.0 free in
    let told = none_told (clash t row) rows apart in (
      pairwise_with (λ a b. key_cmp (key_of t a) (key_of t b) ≡ Less) front row back (subst (Ascends t) (sym whole) o.0) (below_key t key rows) (above_key t key rows),
      pairwise_with (λ a b. clash t a b ≡ false) front row back (subst (λ ys. Pairwise (λ a b. clash t a b ≡ false) ys) (sym whole) o.1)
          (all_filter (λ r. clash t r row ≡ false) (is_below t key) rows (all_weaker (λ r. clash t row r ≡ false) (λ r. clash t r row ≡ false) (λ r h. clash_back t r row ∙ h) rows told))
          (all_filter (λ r. clash t row r ≡ false) (is_above t key) rows told),
    )

pairs_mapped : (R S : Row → Row → Type 0) (f : Row → Row) → ((x y : Row) → R x y → S (f x) (f y)) → (ys : Rows) → Pairwise R ys → Pairwise S (map f ys)
pairs_mapped R S f g [] h = tt
pairs_mapped R S f g (y ∷ ys) h = (each ys h.0, pairs_mapped R S f g ys h.1)
  where
    each : (zs : Rows) → AllByRecursion (R y) zs → AllByRecursion (S (f y)) (map f zs)
    each [] k = tt
    each (z ∷ zs) k = (g y z k.0, each zs k.1)

equal_keys : (x y key : List Val) → is_eq (key_cmp x key) ≡ true → is_eq (key_cmp y key) ≡ true → key_cmp x y ≡ Less → ⊥
equal_keys x y key e f l =
    let same : key_cmp y x ≡ Equal = alike_right key_total x key y (eq_is _ e) ∙ eq_is _ f in
    let back : key_cmp x y ≡ Equal = tied_back key_total y x same in
    let k : Equal ≡ Less = sym back ∙ l in cc

module _ (t : TableDef) (key : List Val) (cells : List SetCell) where
  abbrev set_row : Row → Row
  set_row row = if has_key t key row then set_cells cells row else row

  abbrev Fresh : Row → Row → Type 0
  Fresh x y = has_key t key x ≡ true → has_key t key y ≡ false → clash t (set_cells cells x) y ≡ false

  left_told : (x : Row) (rows : Rows) → has_key t key x ≡ true → list_any (clash t (set_cells cells x)) (filter (λ row. not (has_key t key row)) rows) ≡ false → AllByRecursion (Fresh x) rows
  left_told x [] e h = tt
  left_told x (y ∷ ys) e h = go (has_key t key y) refl h (left_told x ys e)
    where
      rest : Rows
      rest = filter (λ row. not (has_key t key row)) ys

      go : (b : Bool) → has_key t key y ≡ b → list_any (clash t (set_cells cells x)) (cond (not b) (y ∷ rest) rest) ≡ false → (list_any (clash t (set_cells cells x)) rest ≡ false → AllByRecursion (Fresh x) ys) → AllByRecursion (Fresh x) (y ∷ ys)
      go true f k more = (λ _ g. absurd (let z : true ≡ false = sym f ∙ g in cc), more k)
      go false f k more = let parts = or_false (clash t (set_cells cells x) y) (list_any (clash t (set_cells cells x)) rest) k in (λ _ _. parts.0, more parts.1)

  never_fresh : (x : Row) (rows : Rows) → has_key t key x ≡ false → AllByRecursion (Fresh x) rows
  never_fresh x [] e = tt
  never_fresh x (y ∷ ys) e = (λ f _. absurd (let z : true ≡ false = sym f ∙ e in cc), never_fresh x ys e)

  fresh_of : (x : Row) (rows : Rows) → (has_key t key x && list_any (clash t (set_cells cells x)) (deleted t key rows)) ≡ false → AllByRecursion (Fresh x) rows
  fresh_of x rows h = go (has_key t key x) refl h
    where
      go : (b : Bool) → has_key t key x ≡ b → (b && list_any (clash t (set_cells cells x)) (deleted t key rows)) ≡ false → AllByRecursion (Fresh x) rows
      go true e k = left_told x rows e k
      go false e k = never_fresh x rows e

  set_apart : (x y : Row) → key_cmp (key_of t x) (key_of t y) ≡ Less → clash t x y ≡ false → Fresh x y → Fresh y x → clash t (set_row x) (set_row y) ≡ false
  set_apart x y less apart f g = go (has_key t key x) (has_key t key y) refl refl
    where
      go : (a b : Bool) → has_key t key x ≡ a → has_key t key y ≡ b → clash t (if a then set_cells cells x else x) (if b then set_cells cells y else y) ≡ false
      go true true h k = absurd (equal_keys (key_of t x) (key_of t y) key h k less)
      go true false h k = f h k
      go false true h k = clash_back t x (set_cells cells y) ∙ g k h
      go false false h k = apart

  all_apart : (ys : Rows) → Ascends t ys → Pairwise (λ a b. clash t a b ≡ false) ys → AllByRecursion (λ x. AllByRecursion (Fresh x) ys) ys → Pairwise (λ a b. clash t a b ≡ false) (map set_row ys)
  all_apart [] up o h = tt
  all_apart (y ∷ ys) up o h = (each ys up.0 o.0 h.0.1 h.1, all_apart ys up.1 o.1 (all_weaker (λ x. AllByRecursion (Fresh x) (y ∷ ys)) (λ x. AllByRecursion (Fresh x) ys) (λ x k. k.1) ys h.1))
    where
      each : (zs : Rows) → AllByRecursion (λ z. key_cmp (key_of t y) (key_of t z) ≡ Less) zs → AllByRecursion (λ z. clash t y z ≡ false) zs → AllByRecursion (Fresh y) zs → AllByRecursion (λ z. AllByRecursion (Fresh z) (y ∷ ys)) zs → AllByRecursion (λ z. clash t (set_row y) z ≡ false) (map set_row zs)
      each [] a b c d = tt
      each (z ∷ zs) a b c d = (set_apart y z a.0 b.0 c.0 d.0.0, each zs a.1 b.1 c.1 d.1)

  same_key : IsTrue (list_all (may_stand t) cells) → (x : Row) → key_of t (set_row x) ≡ key_of t x
  same_key may x = go (has_key t key x)
    where
      go : (b : Bool) → key_of t (if b then set_cells cells x else x) ≡ key_of t x
      go true = set_keeps_key t cells x may
      go false = refl

  set_orderly : (rows : Rows) → IsTrue (list_all (may_stand t) cells) → list_any (λ row. has_key t key row && list_any (clash t (set_cells cells row)) (deleted t key rows)) rows ≡ false → Orderly t rows → Orderly t (updated t key cells rows)
  set_orderly rows may free o = (
    pairs_mapped (λ a b. key_cmp (key_of t a) (key_of t b) ≡ Less) (λ a b. key_cmp (key_of t a) (key_of t b) ≡ Less) set_row (λ x y h. ap₂ key_cmp (same_key may x) (same_key may y) ∙ h) rows o.0,
    all_apart rows o.0 o.1 (all_weaker (λ x. (has_key t key x && list_any (clash t (set_cells cells x)) (deleted t key rows)) ≡ false) (λ x. AllByRecursion (Fresh x) rows) (λ x h. fresh_of x rows h) rows
        (none_told (λ x. has_key t key x && list_any (clash t (set_cells cells x)) (deleted t key rows)) rows free)),
  )

neither_reason : (a b : Option Reason) → option_or a b ≡ None → (a ≡ None) × (b ≡ None)
neither_reason None b h = (refl, h)
neither_reason (Some r) b h = absurd (let k : Some r ≡ None = h in cc)

orderly_updated : (t : TableDef) (key set : List TxCell) (rows : Rows) → first_reason (tests_of_update t key set rows) ≡ None → Orderly t rows → Orderly t (updated t (key_given t key) (set_given t set) rows)
orderly_updated t key set rows h o =
    let k = key_given t key in
    let cells = set_given t set in
    let parts = neither_reason (update_naming t key set) (first_reason (update_tests t k cells rows)) (sym (update_first t key set rows) ∙ h) in
    let one = past reason.NoRow (not (list_any (has_key t k) rows)) _ parts.1 in
    let two = past reason.UniqueTaken (list_any (λ row. has_key t k row && list_any (clash t (set_cells cells row)) (deleted t k rows)) rows) None one.1 in
    set_orderly t k cells rows (set_given_stands t key set parts.0) two.0 o

orderly_after : (t : TableDef) (c : TxChange) (rows : Rows) → first_reason (tests_of c t rows) ≡ None → Orderly t rows → Orderly t (rows_after c t rows)
orderly_after t (Insert name row) rows allowed o = let h = insert_free t row rows allowed in orderly_inserted t (row_given t row) rows h.0 h.1 o
orderly_after t (Update name key set) rows allowed o = orderly_updated t key set rows allowed o
orderly_after t (Delete name key) rows allowed o =
    let keeps = λ (row : Row). not (has_key t (key_given t key) row) in
    (pairs_filter (λ a b. key_cmp (key_of t a) (key_of t b) ≡ Less) keeps rows o.0, pairs_filter (λ a b. clash t a b ≡ false) keeps rows o.1)

pub settled_after : (catalog : Catalog) (db after : Database) (c : TxChange) (place : ℕ) → Settled catalog.tables place (rows_at db place) → change catalog db c ≡ Ok after → Settled catalog.tables place (rows_at after place)
settled_after catalog db after c place settled e t there = go (change_at catalog db after c place e)
  where
    go : (rows_at after place ≡ rows_at db place) ⊎ (Changed catalog.tables place c (rows_at db place) (rows_at after place)) → Orderly t (rows_at after place)
    go (inl same) = subst (Orderly t) (sym same) (settled t there)
    go (inr ch) =
        let is : ch.table ≡ t = let k : Some ch.table ≡ Some t = sym ch.there ∙ there in cc in
        subst (Orderly t) (sym (ch.made ∙ ap (λ u. rows_after c u (rows_at db place)) is))
        (orderly_after t c (rows_at db place) (subst (λ u. first_reason (tests_of c u (rows_at db place)) ≡ None) is ch.allowed) (settled t there))
