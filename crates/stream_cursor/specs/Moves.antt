-- Moves of streams to new cursors. This project's own.
use Rattle.std.specs.Prelude.{◌≡◌, ⊤, ℕ, Bool, true, false, ◌==◌, Option, Some, None, List, [], ◌∷◌, map, find}
use Rattle.std.specs.List.{AllByRecursion}
use Rattle.cohort_map.specs.Keys.{with_cursor}
use Rattle.cohort_map.specs.Entries.{Entry, has_stream}
use Rattle.stream_cursor.specs.declared.moves.Move.{Move}

-- the move names this number
abbrev pub names : ℕ → Move → Bool
names number m = number == m.sub

-- each move names a stream of the map: an entry whose cursor isn't null
abbrev pub IsStream : List Entry → Move → Type 0
IsStream entries m = has_stream m.sub entries ≡ true

abbrev pub AreStreams : List Move → List Entry → Type 0
AreStreams moves entries = AllByRecursion (IsStream entries) moves

-- no two moves name one number
abbrev pub AreApart : List Move → Type 0
AreApart [] = ⊤
AreApart (m ∷ moves) = AllByRecursion (λ other. names m.sub other ≡ false) moves × AreApart moves

-- an entry that a move names has that move's cursor, and all others stay
abbrev pub moved_by : Entry → Option Move → Entry
moved_by e (Some m) = record e { binding = with_cursor m.cursor e.binding }
moved_by e None = e

abbrev pub rekeyed : List Move → List Entry → List Entry
rekeyed moves entries = map (λ e. moved_by e (find (names e.number) moves)) entries
