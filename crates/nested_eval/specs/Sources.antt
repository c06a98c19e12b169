-- What a selection takes its rows from. This project's own.
use Rattle.std.specs.Prelude.{ℕ, Bool, List, length, filter, IfSome}
use Rattle.std.specs.List.{list_all}
use Rattle.data_model.specs.Rows.{Row, Rows, Database}
use Rattle.data_model.specs.Transactions.{rows_at}
use Rattle.plan_model.specs.declared.filter.Binding.{Binding}
use Rattle.plan_model.specs.declared.plan.Select.{Select}
use Rattle.plan_model.specs.FilterFits.{fits}
use Rattle.plan_model.specs.Planned.{extent}
use Rattle.plan_model.specs.Taken.{cut}
use Rattle.nested_eval.specs.declared.source.Source.TheInside.{Inside}
use Rattle.nested_eval.specs.Pins.{shows, Pinned}

-- a selection, the columns of a parent's row that are joined to columns of its rows, and all rows of its table
pub record Sourced : Type 0 where
  pub select : Select
  pub from : List ℕ
  pub to : List ℕ
  pub rows : Rows

abbrev pub sourced : Inside → Sourced
sourced a = record { select = a.select.now; from = a.from.now; to = a.to.now; rows = a.rows }

abbrev pub IsPinned : Inside → Type 0
IsPinned a = IfSome a.by_key (Pinned a.select.now a.from.now a.to.now)
    × IfSome a.by_chain (Pinned a.select.now a.from.now a.to.now)

abbrev pub source_of : Database → Select → List ℕ → List ℕ → Sourced
source_of db select from to = record { select = select; from = from; to = to; rows = rows_at db select.table }

abbrev pub shown_below : Binding → Sourced → Row → Row → Bool
shown_below b s parent = shows s.select s.from s.to b parent

-- the rows that are taken for a parent's row
abbrev pub taken_below : Binding → Sourced → Row → Rows
taken_below b s parent = cut (extent b s.select) s.select.cap (filter (shown_below b s parent) s.rows)

-- the condition fits each row and the values
abbrev pub rows_fit : Binding → Sourced → Bool
rows_fit b s = list_all (λ row. fits (length row) b s.select.filter) s.rows
