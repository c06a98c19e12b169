-- What an edit makes of a list, and where it may be made. This project's own.
use Rattle.std.specs.Prelude.{ℕ, ◌+◌, ◌-◌, ◌^◌, ◌<◌, ◌≤◌, List, insert, remove, slice_set, ⊤}
use Rattle.row_chunks.specs.declared.edit.Edit.{Edit}
use Rattle.row_chunks.specs.declared.edit.Edit.TheVariants.{Insert, Replace, Remove}

abbrev pub edited : {T : Type 0} → Edit T → ℕ → List T → List T
edited (Insert row) at rows = insert rows at row
edited (Replace row) at rows = slice_set rows at row
edited Remove at rows = remove rows at

-- a row is inserted at a place up to the end, and replaced or removed before it
abbrev pub IsPlace : {T : Type 0} → Edit T → ℕ → ℕ → Type 0
IsPlace (Insert row) at count = at ≤ count
IsPlace (Replace row) at count = at < count
IsPlace Remove at count = at < count

-- how many rows there are after an edit
abbrev pub count_after : {T : Type 0} → Edit T → ℕ → ℕ
count_after (Insert row) count = count + 1
count_after (Replace row) count = count
count_after Remove count = count - 1

-- the count after an edit is a number of 64 bits, where the one before is
abbrev pub HasRoom : {T : Type 0} → Edit T → ℕ → Type 0
HasRoom (Insert row) count = count + 1 < 2 ^ 64
HasRoom (Replace row) count = ⊤
HasRoom Remove count = ⊤
