-- Rows that are given one after the other, some of them passed over. This project's own.
use Rattle.std.specs.Prelude.{ℕ, ◌≡◌, ◌≢◌, ◌<◌, Bool, true, ◌++◌, ◌∷◌, [], if◌then◌else◌, IsTrue, Option, length, filter, drop, IfSome, ⊤}
use Rattle.std.specs.List.{list_all}
use Rattle.scalar_val.specs.declared.val.Val.{Val}
use Rattle.scalar_val.specs.Values.{cell}
use Rattle.data_model.specs.Rows.{Row, Rows}
use Rattle.row_lookup.specs.declared.chain.Chains.{Chains}
use Rattle.row_lookup.specs.declared.comparison.Comparisons.{Comparisons}
use Rattle.row_lookup.specs.declared.found.Found.TheInside.{Inside}
use Rattle.row_lookup.specs.declared.found.Place.{Place}
use Rattle.row_lookup.specs.declared.found.Way.{Way}
use Rattle.row_lookup.specs.declared.found.Way.TheVariants.{Run, Chain}
use Rattle.row_lookup.specs.Ascending.{AscendsIn}
use Rattle.row_lookup.specs.Chaining.{slot_of, slot_in, Chained}
use Rattle.row_lookup.specs.Comparing.{meets_both}

-- what is asked of the rows, and the rows that are left
pub record Left : Type 0 where
  pub comparisons : Comparisons
  pub rows : Rows

abbrev pub left : Way → Rows
left (Run rows) = rows.now
left (Chain place) = drop place.at place.rows.now

abbrev pub seen_left : Inside → Left
seen_left a = record { comparisons = a.comparisons; rows = left a.way }

-- the chain of the slot that all rows have which meet the comparisons
pub record OnChain (c : Comparisons) (p : Place) : Type 0 where
  pub chained : Chained p.chains.now.column p.rows.now p.chains.now.heads.items p.chains.now.next.items
  pub pinned : (row : Row) → meets_both c row ≡ true
      → slot_of (length p.chains.now.heads.items) (cell row p.chains.now.column) ≡ p.slot
  pub on : p.at < length p.rows.now
      → slot_in (length p.chains.now.heads.items) p.chains.now.column p.rows.now p.at ≡ p.slot

-- the first row of a value's chain: no row before it has the value
pub record StartsChain (rows : Rows) (chains : Chains) (value : Val) (p : Place) : Type 0 where
  pub rows_are : p.rows.now ≡ rows
  pub chains_are : p.chains.now ≡ chains
  pub slot_is : p.slot ≡ slot_of (length chains.heads.items) value
  pub on : p.at < length rows → slot_in (length chains.heads.items) chains.column rows p.at ≡ p.slot
  pub first : (i : ℕ) → i < p.at → slot_in (length chains.heads.items) chains.column rows i ≢ p.slot

abbrev pub OnWay : Comparisons → Way → Type 0
OnWay c (Run rows) = ⊤
OnWay c (Chain place) = OnChain c place

abbrev pub IsOnWay : Inside → Type 0
IsOnWay a = OnWay a.comparisons a.way

-- a row, if it is shown
abbrev pub kept : Bool → Row → Rows
kept is_shown row = if is_shown then row ∷ [] else []

-- From some rows a row is given, and others are left: those that are passed over don't meet the comparisons.
pub record Stepped (c : Comparisons) (before : Rows) (row : Row) (after : Rows) : Type 0 where
  pub told : (shown : Row → Bool) → ((r : Row) → shown r ≡ true → meets_both c r ≡ true)
      → filter shown before ≡ kept (shown row) row ++ filter shown after
  pub fewer : length after < length before
  pub of : (p : Row → Bool) → IsTrue (list_all p before) → IsTrue (p row)
  pub rest : (p : Row → Bool) → IsTrue (list_all p before) → IsTrue (list_all p after)

-- ---- what finds rows of a table

abbrev pub Finds : Rows → Option ℕ → Option Chains → Type 0
Finds rows key chains = IfSome key (λ column. AscendsIn column rows)
    × IfSome chains (λ c. Chained c.column rows c.heads.items c.next.items)
