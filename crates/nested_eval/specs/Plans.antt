-- A plan whose tables were read. This project's own.
use Rattle.std.specs.Prelude.{ℕ, Bool, ◌≡◌, ◌++◌, ◌∷◌, [], codes}
use Rattle.scalar_val.specs.Joined.{Text}
use Rattle.data_model.specs.declared.catalog.Catalog.{Catalog}
use Rattle.data_model.specs.Rows.{Database}
use Rattle.plan_model.specs.declared.plan.Field.{Field}
use Rattle.plan_model.specs.declared.plan.Field.TheFolds.{fold-Field}
use Rattle.plan_model.specs.declared.plan.Plan.{Plan}
use Rattle.plan_model.specs.Outcomes.{quoted_text}
use Rattle.plan_model.specs.PlanFits.{PlanFits, FitsAt, fits_field_step, fits_select_step}
use Rattle.plan_model.specs.Reads.{reads_field_step, reads_select_step}
use Rattle.row_store.specs.Held.{Held}
use Rattle.nested_eval.specs.declared.outcome.PreparedPlan.TheInside.{Inside}
use Rattle.nested_eval.specs.Nodes.{NodeMeans}

-- what a field needs of a catalog, and how many rows are read for it

abbrev pub field_fits : Catalog → Field → ℕ → Bool
field_fits catalog = fold-Field (ℕ → Bool) (FitsAt catalog) (fits_field_step catalog) (fits_select_step catalog)

abbrev pub field_reads : Database → Field → ℕ
field_reads db = fold-Field ℕ ℕ (reads_field_step db) (reads_select_step db)

-- a plan, and the snapshot on which it is run
pub record Prepared : Type 0 where
  pub plan : Plan
  pub snapshot : Held

abbrev pub prepared : Inside → Prepared
prepared a = record { plan = a.plan.now; snapshot = a.snapshot.now }

-- a payload up to the value of the plan's key
abbrev pub head_text : Text → Text
head_text key = 123 ∷ quoted_text (codes "data") ++ 58 ∷ 123 ∷ quoted_text key ++ 58 ∷ []

-- the plan fits, and its selections have the rows of the snapshot's tables
pub record IsPrepared (a : Inside) : Type 0 where
  pub fits : PlanFits a.snapshot.now.catalog a.plan.now
  pub head : a.head ≡ head_text a.plan.now.key
  pub root : NodeMeans a.plan.now.names a.snapshot.now.catalog a.snapshot.now.tables a.plan.now.root [] [] a.root
