-- Rows that are shown of those that are found.
use Rattle.std.proofs.Common.{◌≡◌, ◌∙◌, ◌<◌, ◌+◌, ◌++◌, ℕ, zero, suc, Bool, true, false, ◌&&◌, IsTrue, List, [], ◌∷◌, length, filter, take, map, refl, sym, ap, subst, arith, append_assoc, Option, Some, None, slice_get}
use Rattle.std.specs.Option.{IfSome}
use Rattle.std.specs.List.{list_all, AllByRecursion}
use Rattle.data_model.specs.declared.catalog.TableDef.{TableDef}
use Rattle.data_model.specs.Rows.{Row, Rows, Database, FitAll, Ascends}
use Rattle.data_model.specs.Transactions.{rows_at}
use Rattle.row_store.specs.Held.{def_at}
use Rattle.row_lookup.specs.declared.comparison.Comparison.{Comparison}
use Rattle.row_lookup.specs.declared.comparison.Comparisons.{Comparisons}
use Rattle.row_lookup.specs.Comparing.{meets_if, meets_both}
use Rattle.row_lookup.specs.Finding.{Stepped, kept}
use Rattle.row_lookup.specs.Ascending.{AscendsIn}
use Rattle.row_lookup.proofs.Ascents.{ascends_in_key}
use Rattle.plan_model.proofs.Readiness.{and_in}

-- ---- the rows of a table ascend by its key

pub ascending_at : (tables : List TableDef) (db : Database) (n : ℕ) → FitAll tables db → Ascends (def_at tables n) (rows_at db n)
ascending_at [] [] n h = tt
ascending_at [] (rows ∷ db) n h = absurd h
ascending_at (t ∷ ts) [] n h = absurd h
ascending_at (t ∷ ts) (rows ∷ db) zero h = h.0.ascending
ascending_at (t ∷ ts) (rows ∷ db) (suc n) h = ascending_at ts db n h.1

-- ---- a fact of all rows

pub all_in : (p : Row → Bool) (rows : Rows) → AllByRecursion (λ row. IsTrue (p row)) rows → IsTrue (list_all p rows)
all_in p [] h = refl
all_in p (r ∷ rs) h = and_in (p r) (list_all p rs) h.0 (all_in p rs h.1)

pub meets_two : (c : Comparisons) (row : Row) → meets_if c.by_key row ≡ true → meets_if c.by_chain row ≡ true
    → meets_both c row ≡ true
meets_two c row h k = and_in (meets_if c.by_key row) (meets_if c.by_chain row) h k

-- ---- from one row to the next

module _ (shown : Row → Bool) (c : Comparisons) (before : Rows) (row : Row) (after : Rows) (step : Stepped c before row after)
    (pinned : (r : Row) → shown r ≡ true → meets_both c r ≡ true) where
  pub kept_next : (done now all : Rows) (is_shown : Bool) (cells : Row) → now ≡ done ++ kept is_shown row
      → is_shown ≡ shown cells → cells ≡ row → done ++ filter shown before ≡ all → now ++ filter shown after ≡ all
  kept_next done now all is_shown cells told is same was =
      let kept_is : now ≡ done ++ kept (shown row) row = told ∙ ap (λ x. done ++ kept x row) (is ∙ ap shown same) in
      ap (λ x. x ++ filter shown after) kept_is ∙ append_assoc done (kept (shown row) row) (filter shown after)
      ∙ ap (λ x. done ++ x) (sym (step.told shown pinned)) ∙ was

  passed : (is_shown : Bool) (cells : Row) → is_shown ≡ shown cells → cells ≡ row → shown row ≡ is_shown
  passed is_shown cells is same = ap shown (sym same) ∙ sym is

  pub passed_over : (is_shown : Bool) (cells : Row) → is_shown ≡ shown cells → cells ≡ row → is_shown ≡ false
      → filter shown before ≡ filter shown after
  passed_over is_shown cells is same isnt =
      step.told shown pinned ∙ ap (λ b. kept b row ++ filter shown after) (passed is_shown cells is same ∙ isnt)

  pub first_is : (is_shown : Bool) (cells : Row) → is_shown ≡ shown cells → cells ≡ row → is_shown ≡ true
      → take 1 (filter shown before) ≡ row ∷ []
  first_is is_shown cells is same does =
      ap (take 1) (step.told shown pinned ∙ ap (λ b. kept b row ++ filter shown after) (passed is_shown cells is same ∙ does))

pub none_left : (shown : Row → Bool) (done rows all : Rows) → rows ≡ [] → done ++ filter shown rows ≡ all → done ++ [] ≡ all
none_left shown done rows all end told = ap (λ (rs : Rows). done ++ filter shown rs) (sym end) ∙ told

pub ascends_by : (tables : List TableDef) (db : Database) (n : ℕ) (key : Option ℕ) → FitAll tables db
    → key ≡ slice_get (def_at tables n).key 0 → IfSome key (λ column. AscendsIn column (rows_at db n))
ascends_by tables db n (Some column) fit is =
    ascends_in_key (def_at tables n) (rows_at db n) column is (ascending_at tables db n fit)
ascends_by tables db n None fit is = tt
