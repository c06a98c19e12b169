-- How many rows a plan reads: those of the tables of its selections, each table counted once for each selection. This
-- project's own.
use Rattle.std.specs.Prelude.{ℕ, length, ◌+◌}
use Rattle.std.specs.List.{sum}
use Rattle.data_model.specs.Rows.{Database}
use Rattle.data_model.specs.Transactions.{rows_at}
use Rattle.plan_model.specs.declared.plan.Field.TheOpen.{Field-F, Select-F}
use Rattle.plan_model.specs.declared.plan.Field.TheFolds.{fold-Select}
use Rattle.plan_model.specs.declared.plan.Select.{Select}
use Rattle.plan_model.specs.declared.plan.Plan.{Plan}

module _ (db : Database) where
  abbrev pub reads_field_step : Field-F ℕ ℕ → ℕ
  reads_field_step (Field-F.Column key column) = 0
  reads_field_step (Field-F.Typename key) = 0
  reads_field_step (Field-F.Link key from to select) = select

  abbrev pub reads_select_step : Select-F ℕ ℕ → ℕ
  reads_select_step s = length (rows_at db s.table) + sum s.fields

  abbrev pub select_reads : Select → ℕ
  select_reads = fold-Select ℕ ℕ reads_field_step reads_select_step

abbrev pub reads : Plan → Database → ℕ
reads p db = select_reads db p.root
