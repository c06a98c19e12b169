-- What a database that fits its catalog, and a selection that is ready, give.
use Rattle.std.proofs.Common.{◌≡◌, ◌<◌, ℕ, zero, suc, Bool, true, false, ◌&&◌, IsTrue, List, [], ◌∷◌, length, map}
use Rattle.std.proofs.Common.{slice_get, unwrap_or, option_map, refl, sym, ap, subst, arith, nat_lt}
use Rattle.std.specs.List.{AllByRecursion, list_all}
use Rattle.std.proofs.lemmas.Bool.Decides.{nat_tests}
use Rattle.data_model.specs.declared.catalog.Column.{Column}
use Rattle.data_model.specs.declared.catalog.TableDef.{TableDef}
use Rattle.data_model.specs.declared.catalog.Catalog.{Catalog}
use Rattle.data_model.specs.Rows.{Row, Rows, Database, row_fits, stands_in, FitAll}
use Rattle.data_model.specs.Transactions.{rows_at}
use Rattle.plan_model.specs.declared.filter.Binding.{Binding}
use Rattle.plan_model.specs.declared.filter.Filter.{Filter}
use Rattle.plan_model.specs.declared.plan.Field.TheFolds.{fold_out-Select}
use Rattle.plan_model.specs.declared.plan.Select.{Select}
use Rattle.plan_model.specs.FilterFits.{fits, itself}
use Rattle.plan_model.specs.PlanFits.{width}
use Rattle.plan_model.specs.Readiness.{ready_field_step, ready_select_step, is_ready, is_ready_field}

pub both : (a b : Bool) → IsTrue (a && b) → IsTrue a × IsTrue b
both true b h = (refl, h)
both false b h = cc

-- ---- lengths

as_long : (columns : List Column) (row : Row) → IsTrue (row_fits columns row) → length row ≡ length columns
as_long [] [] h = refl
as_long (c ∷ cs) (v ∷ vs) h = ap suc (as_long cs vs (both (stands_in c v) (row_fits cs vs) h).1)
as_long [] (v ∷ vs) h = cc
as_long (c ∷ cs) [] h = cc

all_as_long : (columns : List Column) (rows : Rows)
    → AllByRecursion (λ row. IsTrue (row_fits columns row)) rows
    → AllByRecursion (λ row. length row ≡ length columns) rows
all_as_long columns [] h = tt
all_as_long columns (r ∷ rs) h = (as_long columns r h.0, all_as_long columns rs h.1)

abbrev width_in : List TableDef → ℕ → ℕ
width_in tables n = unwrap_or (option_map (λ (t : TableDef). length t.columns) (slice_get tables n)) 0

widths : (tables : List TableDef) (db : Database) (n : ℕ)
    → FitAll tables db → AllByRecursion (λ row. length row ≡ width_in tables n) (rows_at db n)
widths [] [] n h = tt
widths [] (rows ∷ db) n h = absurd h
widths (t ∷ ts) [] n h = absurd h
widths (t ∷ ts) (rows ∷ db) zero h = all_as_long t.columns rows h.0.kinds
widths (t ∷ ts) (rows ∷ db) (suc n) h = widths ts db n h.1

all_fit : (b : Binding) (f : Filter) (n : ℕ) (rows : Rows) → IsTrue (fits n b f)
    → AllByRecursion (λ row. length row ≡ n) rows → AllByRecursion (λ row. IsTrue (fits (length row) b f)) rows
all_fit b f n [] h all = tt
all_fit b f n (r ∷ rs) h all = (subst (λ m. IsTrue (fits m b f)) (sym all.0) h, all_fit b f n rs h all.1)

pub same_length : (tables : List TableDef) (db : Database) → FitAll tables db → length tables ≡ length db
same_length [] [] h = refl
same_length [] (rows ∷ db) h = absurd h
same_length (t ∷ ts) [] h = absurd h
same_length (t ∷ ts) (rows ∷ db) h = ap suc (same_length ts db h.1)

-- ---- a selection that is ready

pub record Ready (catalog : Catalog) (b : Binding) (s : Select) : Type 0 where
  pub table : IsTrue (nat_lt s.table (length catalog.tables))
  pub filter : IsTrue (fits (width catalog s.table) b s.filter)
  pub fields : IsTrue (list_all itself (map (is_ready_field catalog b) s.fields))

pub ready_parts : (catalog : Catalog) (b : Binding) (s : Select) → IsTrue (is_ready catalog b s) → Ready catalog b s
ready_parts catalog b s h =
    let table : Bool = nat_lt s.table (length catalog.tables) in
    let filter : Bool = fits (width catalog s.table) b s.filter in
    let fields : Bool = list_all itself (map (is_ready_field catalog b) s.fields) in
    let opened : is_ready catalog b s ≡ ((table && filter) && fields) =
    fold_out-Select Bool Bool (ready_field_step catalog b) (ready_select_step catalog b) s in
    let all = both (table && filter) fields (subst IsTrue opened h) in
    let first = both table filter all.0 in
    record { table = first.0; filter = first.1; fields = all.1 }

below : (n m : ℕ) → IsTrue (nat_lt n m) → n < m
below n m h = grind (arith, nat_tests)

module _ (catalog : Catalog) (db : Database) (b : Binding) (s : Select) (fit : FitAll catalog.tables db)
    (ready : IsTrue (is_ready catalog b s)) where
  pub table_within : s.table < length db
  table_within = subst (λ n. s.table < n) (same_length catalog.tables db fit)
      (below s.table (length catalog.tables) (ready_parts catalog b s ready).table)

  pub rows_ready : AllByRecursion (λ row. IsTrue (fits (length row) b s.filter)) (rows_at db s.table)
  rows_ready =
      all_fit b s.filter (width catalog s.table) (rows_at db s.table) (ready_parts catalog b s ready).filter
      (widths catalog.tables db s.table fit)
