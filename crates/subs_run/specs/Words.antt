-- The words of a command line, and what is written for them. This project's own.
use Rattle.std.specs.Prelude.{
  Bool,
  false,
  ◌==◌,
  ◌||◌,
  ℕ,
  if◌then◌else◌,
  Option,
  Some,
  None,
  is_some,
  List,
  [],
  ◌∷◌,
  codes,
}
use Rattle.std.specs.Str.{bytes_eq}
use Rattle.wire_model.specs.Generated.{summary_line}
use Rattle.load_gen.specs.Generated.{generated}
use Rattle.machine.specs.Lines.{read_number}
use Rattle.machine.specs.Messages.{Message}
use Rattle.machine.specs.Script.{output}

-- the one word `run`
abbrev pub is_run : List (List ℕ) → Bool
is_run [] = false
is_run (word ∷ []) = bytes_eq word (codes "run")
is_run (word ∷ next ∷ words) = false

abbrev pub not_zero : Option ℕ → Option ℕ
not_zero None = None
not_zero (Some n) = if n == 0 then None else Some n

-- a number from 1 to 1,000 in decimal without leading zeros
abbrev pub subscribers : List ℕ → Option ℕ
subscribers text = not_zero (read_number 1001 text)

-- the word `load` and a number of subscribers
abbrev pub load_count : List (List ℕ) → Option ℕ
load_count [] = None
load_count (word ∷ []) = None
load_count (word ∷ number ∷ []) = if bytes_eq word (codes "load") then subscribers number else None
load_count (word ∷ number ∷ next ∷ words) = None

abbrev pub is_command : List (List ℕ) → Bool
is_command words = is_run words || is_some (load_count words)

abbrev pub usage_line : List ℕ
usage_line = codes "usage: subs COMMAND [WORDS]\n"

-- The line that sums up a run of the script of n subscribers: the lines and the digest are those of its whole transcript.
unfoldable pub load_line : (List ℕ → Message) → ℕ → List ℕ
load_line meant n = summary_line n (output meant (generated n))
