-- What a run of a script has read and written of an input. This project's own.
use Rattle.std.specs.Prelude.{◌≡◌, ℕ, ◌<◌, ◌≤◌, ◌+◌, Option, Some, None, List, [], ◌++◌, length, take}
use Rattle.machine.specs.Messages.{Message}
use Rattle.machine.specs.Lines.{lines}
use Rattle.machine.specs.Script.{Reading, Heading, At, Ran, AllSay, run_lines, limit, outcome}
use Rattle.machine.specs.declared.script.ScriptReason.{ScriptReason}
use Rattle.outside.specs.declared.source.Got.{Got}
use Rattle.outside.specs.declared.source.Got.TheVariants as got
use Rattle.subs_run.specs.declared.answer.RunEnd.{RunEnd}
use Rattle.subs_run.specs.declared.answer.RunEnd.TheVariants as run_end

-- the whole lines of a text, run from the start, where the texts of clients have these meanings
abbrev pub ran : (List ℕ → Message) → List ℕ → Ran
ran meant bytes = run_lines meant 1 (Heading []) (lines bytes).0

-- each text of a client in a script has the meaning that it is given
abbrev pub Reads : (List ℕ → Message) → List ℕ → Type 0
Reads meant all = AllSay meant (outcome meant all).said

-- of an input, a front was read
pub record HasRead (all : List ℕ) (left : Option (List ℕ)) : Type 0 where
  pub read : List ℕ
  pub rest : List ℕ
  pub all_is : all ≡ read ++ rest
  pub left_is : left ≡ Some rest
  pub within : length read ≤ limit + 1

-- the whole input was read, and it has no fault
pub record ReadWhole (all : List ℕ) (left : Option (List ℕ)) : Type 0 where
  pub read : left ≡ Some []
  pub faultless : (meant : List ℕ → Message) → Reads meant all → (outcome meant all).fault ≡ None

-- no whole line of these bytes is at fault, and the transcript of these lines was written behind w
pub record WroteLines (meant : List ℕ → Message) (read w : List ℕ) (written : Option (List ℕ)) : Type 0 where
  pub reading : Reading
  pub faultless : (ran meant read).standing ≡ At reading
  pub transcript : written ≡ Some (w ++ (ran meant read).text)

-- A front of the input was read, no whole line of it is at fault, and the transcript of these lines was written
-- behind w.
pub record WroteWholeLines (all w : List ℕ) (left written : Option (List ℕ)) : Type 0 where
  pub read : List ℕ
  pub rest : List ℕ
  pub all_is : all ≡ read ++ rest
  pub left_is : left ≡ Some rest
  pub within : length read ≤ limit
  pub ran_on : (meant : List ℕ → Message) → AllSay meant (ran meant read).said → WroteLines meant read w written

-- a front of the output stands behind w
pub record WroteFront (output w : List ℕ) (written : Option (List ℕ)) : Type 0 where
  pub count : ℕ
  pub front : written ≡ Some (w ++ take count output)

-- a read gave some bytes, but no more than so many
abbrev pub AtMost : ℕ → Got → Type 0
AtMost most (got.Bytes n) = (0 < n) × (n ≤ most)
AtMost most got.End = Unit {0}
AtMost most got.Failed = Unit {0}

-- what an answer says of the fault of the script
abbrev pub EndsAs : RunEnd → Option (ℕ × ScriptReason) → Type 0
EndsAs run_end.Done fault = fault ≡ None
EndsAs (run_end.ScriptFault line reason) fault = fault ≡ Some (line, reason)
EndsAs run_end.SourceFault fault = Unit {0}
EndsAs run_end.SinkFault fault = Unit {0}
EndsAs run_end.NoMemory fault = Unit {0}

-- the answers after which all of the output stands in the sink
abbrev pub IsToldWhole : RunEnd → Type 0
IsToldWhole run_end.Done = Unit {0}
IsToldWhole (run_end.ScriptFault line reason) = Unit {0}
IsToldWhole run_end.SourceFault = ⊥
IsToldWhole run_end.SinkFault = ⊥
IsToldWhole run_end.NoMemory = ⊥
