-- Numbers below a limit. This project's own.
use Rattle.std.specs.Prelude.{ℕ, nat_lt, if◌then◌else◌, Option, Some, None, List}
use Rattle.machine.specs.Lines.{number_of}

-- the number that digits name, below a limit
abbrev pub small_number : ℕ → List ℕ → Option ℕ
small_number limit text = if nat_lt (number_of text) limit then Some (number_of text) else None
