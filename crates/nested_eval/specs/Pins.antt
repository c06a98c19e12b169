-- Comparisons that each row meets which a selection shows. This project's own.
use Rattle.std.specs.Prelude.{ℕ, ◌≡◌, Bool, true, List, map, Option, Some, None}
use Rattle.scalar_val.specs.declared.val.Val.{Val}
use Rattle.scalar_val.specs.Values.{cell}
use Rattle.data_model.specs.Rows.{Row}
use Rattle.plan_model.specs.declared.filter.Binding.{Binding}
use Rattle.plan_model.specs.declared.filter.Filter.{Filter}
use Rattle.plan_model.specs.declared.filter.TruthValue.{TruthValue}
use Rattle.plan_model.specs.declared.plan.Select.{Select}
use Rattle.plan_model.specs.Planned.{wanted}
use Rattle.plan_model.specs.Taken.{joins}
use Rattle.plan_model.specs.Truth.{is_yes, all_of, truth_of, compared}
use Rattle.plan_model.specs.Values.{operand_value}
use Rattle.nested_eval.specs.declared.pin.Origin.{Origin}
use Rattle.nested_eval.specs.declared.pin.Origin.TheVariants.{Parent, Operand, Cursor}
use Rattle.nested_eval.specs.declared.pin.Pin.{Pin}

-- the value for a binding and a parent's row
abbrev pub origin_value : Binding → Row → Origin → Val
origin_value b parent (Parent column) = cell parent column
origin_value b parent (Operand operand) = operand_value b operand.now
origin_value b parent Cursor = b.cursor

abbrev pub meets_pin : Binding → Row → Pin → Row → Bool
meets_pin b parent pin row = is_yes (compared pin.op (cell row pin.column) (origin_value b parent pin.origin))

abbrev pub meets_pin_if : Binding → Row → Option Pin → Row → Bool
meets_pin_if b parent (Some pin) row = meets_pin b parent pin row
meets_pin_if b parent None row = true

-- what conditions say of a row that all have to hold
abbrev pub parts_say : Binding → Row → List Filter → TruthValue
parts_say b row parts = all_of (map (λ (part : Row → TruthValue). part row) (map (truth_of b) parts))

-- whether a selection shows a row below a parent's, whose columns `from` are joined to the columns `to`
abbrev pub shows : Select → List ℕ → List ℕ → Binding → Row → Row → Bool
shows s from to b parent = (wanted b (joins from to parent) s).shown

-- each row that is shown meets it
abbrev pub Pinned : Select → List ℕ → List ℕ → Pin → Type 0
Pinned s from to pin = (b : Binding) (parent row : Row) → shows s from to b parent row ≡ true
    → meets_pin b parent pin row ≡ true
