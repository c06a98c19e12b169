-- What the steps of a move know of the list of moves that are left.
use Rattle.std.specs.Prelude.{◌≡◌, true, List, Contains, map}
use Rattle.std.specs.List.{AllByRecursion}
use Rattle.cohort_map.specs.Entries.{Entry, Ready, has}
use Rattle.stream_cursor.specs.declared.moves.Move.{Move}

abbrev pub IsThere : List Entry → Move → Type 0
IsThere entries m = has m.sub entries ≡ true

abbrev pub AreThere : List Move → List Entry → Type 0
AreThere moves entries = AllByRecursion (IsThere entries) moves

abbrev pub pair : Move → Ready
pair m = record { number = m.sub; cursor = m.cursor }

abbrev pub pairs : List Move → List Ready
pairs = map pair

abbrev pub IsReady : List Ready → Move → Type 0
IsReady ready m = Contains ready (pair m)

abbrev pub AreReady : List Move → List Ready → Type 0
AreReady moves ready = AllByRecursion (IsReady ready) moves
