-- Moves of numbers below a bound, each once. This project's own.
use Rattle.std.specs.Prelude.{◌≤◌, ◌<◌, ℕ, List}
use Rattle.std.specs.List.{AllByRecursion}
use Rattle.stream_cursor.specs.declared.moves.Move.{Move}
use Rattle.stream_cursor.specs.Moves.{AreApart}

pub record IsWithin (next : ℕ) (m : Move) : Type 0 where
  pub least : 1 ≤ m.sub
  pub most : m.sub < next

pub record AreNumbered (next : ℕ) (moves : List Move) : Type 0 where
  pub within : AllByRecursion (IsWithin next) moves
  pub apart : AreApart moves
