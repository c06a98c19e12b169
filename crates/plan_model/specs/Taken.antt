-- The rows that a selection takes of a table: Hasura's `where`, `order_by`, `limit` and `offset`, its relationships and
-- its streams. That ties are in key order, and how nulls stand, is this project's own.
use Rattle.std.specs.Prelude.{ℕ, Bool, true, false, ◌&&◌, if◌then◌else◌, List, [], Option, Some, None, ◌∷◌, take, drop}
use Rattle.std.specs.Prelude.{filter}
use Rattle.std.specs.declared.cmp.Ordering.{Ordering}
use Rattle.std.specs.Ordering.{then_cmp}
use Rattle.std.specs.declared.cmp.Ordering.TheVariants.{Less, Equal, Greater}
use Rattle.scalar_val.specs.declared.val.Val.{Val}
use Rattle.scalar_val.specs.ValOrder.{val_cmp}
use Rattle.scalar_val.specs.Ordered.{ordered}
use Rattle.scalar_val.specs.Values.{cell, is_null}
use Rattle.data_model.specs.Rows.{Row, Rows, Database}
use Rattle.data_model.specs.Transactions.{rows_at}
use Rattle.plan_model.specs.declared.filter.Op.TheVariants.{Eq, Gt, Lt}
use Rattle.plan_model.specs.declared.plan.Order.{Order}
use Rattle.plan_model.specs.Truth.{is_yes, compared}

-- how many rows are taken, and in which order: a list, the first row alone, or the next rows of a stream
pub data Extent : Type 0 where
  All : (orders : List Order) (offset : ℕ) (limit : Option ℕ) → Extent
  First : Extent
  Next : (column : ℕ) (descending : Bool) (batch : ℕ) → Extent

-- `shown` tells which rows of the table match, and `cap` is the most that the role is given
pub record Wanted : Type 0 where
  pub table : ℕ
  pub shown : Row → Bool
  pub extent : Extent
  pub cap : Option ℕ

-- ---- which rows match

-- each pair of columns is equal, and none is null
abbrev pub joins : List ℕ → List ℕ → Row → Row → Bool
joins [] [] parent row = true
joins (f ∷ fs) (t ∷ ts) parent row = is_yes (compared Eq (cell row t) (cell parent f)) && joins fs ts parent row
joins [] (t ∷ ts) parent row = false
joins (f ∷ fs) [] parent row = false

-- greater than the cursor, or less where the stream descends
abbrev pub is_beyond : Bool → Val → Val → Bool
is_beyond descending cursor value = is_yes (compared (if descending then Lt else Gt) value cursor)

-- ---- their order

abbrev pub directed : Bool → Val → Val → Ordering
directed descending a b = if descending then val_cmp b a else val_cmp a b

abbrev pub null_cmp : Bool → Bool → Bool → Ordering → Ordering
null_cmp first true true other = Equal
null_cmp first true false other = if first then Less else Greater
null_cmp first false true other = if first then Greater else Less
null_cmp first false false other = other

abbrev pub entry_cmp : Order → Row → Row → Ordering
entry_cmp o a b = null_cmp o.nulls_first (is_null (cell a o.column)) (is_null (cell b o.column))
    (directed o.descending (cell a o.column) (cell b o.column))

abbrev pub rows_cmp : List Order → Row → Row → Ordering
rows_cmp [] a b = Equal
rows_cmp (o ∷ os) a b = then_cmp (entry_cmp o) (rows_cmp os) a b

-- ---- what is taken of them

abbrev pub at_most : {X : Type 0} → Option ℕ → List X → List X
at_most (Some n) xs = take n xs
at_most None xs = xs

abbrev pub along : ℕ → Bool → List Order
along column descending = record { column = column; descending = descending; nulls_first = false } ∷ []

-- Rows that tie in the entries stay in the order of their keys, in which the table has them.
abbrev pub cut : Extent → Option ℕ → Rows → Rows
cut (All orders offset limit) cap rows = at_most cap (at_most limit (drop offset (ordered (rows_cmp orders) rows)))
cut First cap rows = take 1 rows
cut (Next column descending batch) cap rows =
    at_most cap (take batch (ordered (rows_cmp (along column descending)) rows))

-- the same in two steps: the order, and then the cut

abbrev pub arranged : Extent → Rows → Rows
arranged (All orders offset limit) rows = ordered (rows_cmp orders) rows
arranged First rows = rows
arranged (Next column descending batch) rows = ordered (rows_cmp (along column descending)) rows

abbrev pub trimmed : Extent → Option ℕ → Rows → Rows
trimmed (All orders offset limit) cap rows = at_most cap (at_most limit (drop offset rows))
trimmed First cap rows = take 1 rows
trimmed (Next column descending batch) cap rows = at_most cap (take batch rows)

-- the rows that match, and those that are taken of them

abbrev pub matches : Database → Wanted → Rows
matches db w = filter w.shown (rows_at db w.table)

abbrev pub taken : Database → Wanted → Rows
taken db w = cut w.extent w.cap (matches db w)
