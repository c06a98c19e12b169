-- Rows that meet comparisons. This project's own.
use Rattle.std.specs.Prelude.{Bool, true, ◌&&◌, Option, Some, None}
use Rattle.scalar_val.specs.Values.{cell}
use Rattle.data_model.specs.Rows.{Row}
use Rattle.plan_model.specs.Truth.{is_yes, compared}
use Rattle.row_lookup.specs.declared.comparison.Comparison.{Comparison}
use Rattle.row_lookup.specs.declared.comparison.Comparisons.{Comparisons}

abbrev pub meets : Comparison → Row → Bool
meets c row = is_yes (compared c.op (cell row c.column) c.value.now)

abbrev pub meets_if : Option Comparison → Row → Bool
meets_if (Some c) row = meets c row
meets_if None row = true

abbrev pub meets_both : Comparisons → Row → Bool
meets_both c row = meets_if c.by_key row && meets_if c.by_chain row
