-- What a plan gives with a binding: nested resolvers (GraphQL October 2021, section 6), with the plan's selections in
-- the place of the fields.
use Rattle.std.specs.Prelude.{ℕ, Bool, true, ◌&&◌, List, [], length, map, slice_get, Option, Some, None, unwrap_or}
use Rattle.scalar_val.specs.ValText.{val_text}
use Rattle.scalar_val.specs.Joined.{Text, named_text}
use Rattle.scalar_val.specs.Values.{cell}
use Rattle.data_model.specs.Rows.{Row, Rows, Database}
use Rattle.plan_model.specs.declared.filter.Operand.{Operand}
use Rattle.plan_model.specs.declared.filter.Binding.{Binding}
use Rattle.plan_model.specs.declared.plan.Order.{Order}
use Rattle.plan_model.specs.declared.plan.Shape.{Shape}
use Rattle.plan_model.specs.declared.plan.Shape.TheVariants as shape
use Rattle.plan_model.specs.declared.plan.Field.{Field}
use Rattle.plan_model.specs.declared.plan.Field.TheOpen.{Field-F, Select-F}
use Rattle.plan_model.specs.declared.plan.Field.TheViews.{out-Select}
use Rattle.plan_model.specs.declared.plan.Field.TheFolds.{fold-Field, fold-Select}
use Rattle.plan_model.specs.declared.plan.Select.{Select}
use Rattle.plan_model.specs.declared.plan.Plan.{Plan}
use Rattle.plan_model.specs.Truth.{is_yes, truth_of}
use Rattle.plan_model.specs.Values.{operand_value, number_in}
use Rattle.plan_model.specs.Taken.{Extent, All, First, Next, Wanted, joins, is_beyond}
use Rattle.plan_model.specs.Outcomes.{Pair, object_text, answer_text, wanted_text, quoted_text, payload_text, Outcome}
use Rattle.plan_model.specs.Outcomes.{last_value, result_of}

abbrev pub number_bound : Binding → Option Operand → Option ℕ
number_bound b (Some o) = number_in (operand_value b o)
number_bound b None = None

abbrev pub extent_of : Binding → Shape → List Order → Option Operand → Option Operand → Extent
extent_of b shape.List orders limit offset = All orders (unwrap_or (number_bound b offset) 0) (number_bound b limit)
extent_of b shape.One orders limit offset = First
extent_of b (shape.Stream column descending batch) orders limit offset =
    Next column descending (unwrap_or (number_bound b (Some batch)) 0)

-- a stream's rows are beyond the cursor
abbrev pub passes : Binding → Shape → Row → Bool
passes b (shape.Stream column descending batch) row = is_beyond descending b.cursor (cell row column)
passes b shape.List row = true
passes b shape.One row = true

-- the rows that a selection wants, of those that a parent row allows
abbrev pub select_wanted : {A B : Type 0} → Binding → (Row → Bool) → Select-F A B → Wanted
select_wanted b allowed s = record {
  table = s.table;
  shown = λ row. allowed row && is_yes (truth_of b s.filter row) && passes b s.shape row;
  extent = extent_of b s.shape s.order s.limit s.offset;
  cap = s.cap;
}

abbrev pub extent : Binding → Select → Extent
extent b s = extent_of b (out-Select s).shape (out-Select s).order (out-Select s).limit (out-Select s).offset

abbrev pub wanted : Binding → (Row → Bool) → Select → Wanted
wanted b allowed s = select_wanted b allowed (out-Select s)

module _ (names : List Text) (b : Binding) (db : Database) where
  -- what a selection gives for a parent row that allows some rows
  abbrev pub Selecting : Type 0
  Selecting = (Row → Bool) → Text

  abbrev pub field_step : Field-F Pair Selecting → Pair
  field_step (Field-F.Column key column) table row = named_text (quoted_text key) (val_text (cell row column))
  field_step (Field-F.Typename key) table row =
      named_text (quoted_text key) (quoted_text (unwrap_or (slice_get names table) []))
  field_step (Field-F.Link key from to select) table row = named_text (quoted_text key) (select (joins from to row))

  abbrev pub select_step : Select-F Pair Selecting → Selecting
  select_step s allowed = wanted_text db (select_wanted b allowed s) s.fields

  abbrev pub field_pair : Field → Pair
  field_pair = fold-Field Pair Selecting field_step select_step

  abbrev pub select_text : Select → Selecting
  select_text = fold-Select Pair Selecting field_step select_step

  -- the objects of rows of a table
  abbrev pub objects : List Field → ℕ → Rows → List Text
  objects fields table rows = map (object_text (map field_pair fields) table) rows

  -- what rows give that a selection took
  abbrev pub rows_text : Select → Rows → Text
  rows_text s rows = answer_text (extent b s) (objects (out-Select s).fields (out-Select s).table rows)

abbrev pub any_row : Row → Bool
any_row row = true

abbrev pub planned : Plan → Binding → Database → Outcome
planned p b db = result_of db p.key (select_wanted b any_row (out-Select p.root))
    (map (field_pair p.names b db) (out-Select p.root).fields)

-- the outcome of the rows that the root took
abbrev pub outcome_from : List Text → Binding → Database → Plan → Rows → Outcome
outcome_from names b db p rows = record {
  text = payload_text p.key (rows_text names b db p.root rows);
  rows = length rows;
  last = last_value (extent b p.root) rows;
}
