-- The generated script. This project's own.
use Rattle.std.specs.Prelude.{ℕ, List}
use Rattle.wire_model.specs.Generated.{script}

-- the script of n subscribers, line by line with line feeds
unfoldable pub generated : ℕ → List ℕ
generated n = script n
