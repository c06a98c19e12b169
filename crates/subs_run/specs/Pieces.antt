-- A run between two reads, and its end. This project's own.
use Rattle.std.specs.Prelude.{◌≡◌, ℕ, ◌+◌, ◌<◌, ◌≤◌, ◌⊎◌, Option, Some, None, List, [], ◌++◌, length}
use Rattle.machine.specs.Messages.{Message}
use Rattle.machine.specs.Script.{limit, outcome, output, fault_line}
use Rattle.machine.specs.declared.script.ScriptReason.{ScriptReason}
use Rattle.subs_run.specs.declared.answer.RunEnd.{RunEnd}
use Rattle.subs_run.specs.declared.answer.RunEnd.TheVariants as run_end
use Rattle.subs_run.specs.declared.reader.Reader.{Reader}
use Rattle.subs_run.specs.declared.reader.PieceOutcome.{PieceOutcome}
use Rattle.subs_run.specs.declared.reader.PieceOutcome.TheVariants as piece_outcome
use Rattle.subs_run.specs.Runs.{ran, Reads, EndsAs, IsToldWhole, HasRead, ReadWhole, WroteWholeLines, WroteFront}
use Rattle.subs_run.specs.Written.{WritesAll, WritesFront, WritesOn, WritesFrontOn}
use Rattle.subs_run.specs.Standing.{HasRun, AreRead}

-- the script ends with this fault or with none, and its line is written, or a front of it
abbrev pub ClosesAs : RunEnd → Option (List ℕ) → Option (List ℕ) → Option (ℕ × ScriptReason) → Type 0
ClosesAs run_end.Done old new fault = (fault ≡ None) × (new ≡ old)
ClosesAs (run_end.ScriptFault line reason) old new fault = (fault ≡ Some (line, reason))
    × WritesAll old new (fault_line fault)
ClosesAs run_end.SourceFault old new fault = ⊥
ClosesAs run_end.SinkFault old new fault = WritesFront old new (fault_line fault)
ClosesAs run_end.NoMemory old new fault = WritesFront old new (fault_line fault)

-- a script ended: its fault is the one that is told, and its output, or a front of it, stands behind what stood there
abbrev pub EndsOn : (List ℕ → Message) → RunEnd → Option (List ℕ) → Option (List ℕ) → List ℕ → List ℕ → Type 0
EndsOn meant run_end.Done old new before all =
    ((outcome meant all).fault ≡ None) × WritesOn old new before (output meant all)
EndsOn meant (run_end.ScriptFault line reason) old new before all =
    ((outcome meant all).fault ≡ Some (line, reason)) × WritesOn old new before (output meant all)
EndsOn meant run_end.SourceFault old new before all = Unit {0}
EndsOn meant run_end.SinkFault old new before all = WritesFrontOn old new before (output meant all)
EndsOn meant run_end.NoMemory old new before all = WritesFrontOn old new before (output meant all)

abbrev pub IsNeither : RunEnd → Type 0
IsNeither run_end.Done = ⊥
IsNeither (run_end.ScriptFault line reason) = Unit {0}
IsNeither run_end.SourceFault = ⊥
IsNeither run_end.SinkFault = Unit {0}
IsNeither run_end.NoMemory = Unit {0}

-- what is written where a reader goes on from some bytes to more
abbrev pub WritesLines : Option (List ℕ) → Option (List ℕ) → List ℕ → List ℕ → Type 0
WritesLines old new seen more =
    (meant : List ℕ → Message) → AreRead meant (seen ++ more) →
    WritesOn old new (ran meant seen).text (ran meant (seen ++ more)).text

-- a piece was read, or the script ended within it, whatever comes behind
abbrev pub TakesTo : PieceOutcome → Reader → Option (List ℕ) → Option (List ℕ) → List ℕ → List ℕ → Type 0
TakesTo (piece_outcome.Read n) reader old new seen piece =
    HasRun reader (seen ++ piece) × WritesLines old new seen piece × (n ≡ length piece)
TakesTo (piece_outcome.Ended end) reader old new seen piece =
    IsNeither end
    × ((meant : List ℕ → Message) (rest : List ℕ) → Reads meant ((seen ++ piece) ++ rest) →
    EndsOn meant end old new (ran meant seen).text ((seen ++ piece) ++ rest))

-- where the source tells, these bytes were read of it
abbrev pub WasRead : Option (List ℕ) → Option (List ℕ) → List ℕ → Type 0
WasRead old new seen = (all : List ℕ) → old ≡ Some all → (rest : List ℕ) × (all ≡ seen ++ rest) × (new ≡ Some rest)

-- where the source and the sink of a run stand: what the one still gives and what the other has, where they tell
pub record Ends : Type 0 where
  pub left : Option (List ℕ)
  pub written : Option (List ℕ)

abbrev pub ends : Option (List ℕ) → Option (List ℕ) → Ends
ends left written = record { left = left; written = written }

-- between two reads, since the run began
pub record IsAt (start now : Ends) (reader : Reader) (count : ℕ) : Type 0 where
  pub seen : List ℕ
  pub after : HasRun reader seen
  pub read : WasRead start.left now.left seen
  pub lines : (meant : List ℕ → Message) → AreRead meant seen →
      WritesOn start.written now.written [] (ran meant seen).text
  pub count_is : count ≡ length seen
  pub within : count ≤ limit

-- how a run ended since it began
pub record ClosedAs (end : RunEnd) (start now : Ends) : Type 0 where
  pub done : end ≡ run_end.Done → (all : List ℕ) → start.left ≡ Some all → ReadWhole all now.left
  pub fault : (all : List ℕ) → start.left ≡ Some all → (meant : List ℕ → Message) → Reads meant all →
      EndsAs end (outcome meant all).fault
  pub whole : IsToldWhole end → (all w : List ℕ) → start.left ≡ Some all → start.written ≡ Some w →
      (meant : List ℕ → Message) → Reads meant all → now.written ≡ Some (w ++ output meant all)
  pub lines : end ≡ run_end.SourceFault → (all w : List ℕ) → start.left ≡ Some all → start.written ≡ Some w →
      WroteWholeLines all w now.left now.written
  pub front : (end ≡ run_end.SinkFault) ⊎ (end ≡ run_end.NoMemory) → (all w : List ℕ) → start.left ≡ Some all →
      start.written ≡ Some w → (meant : List ℕ → Message) → Reads meant all →
      WroteFront (output meant all) w now.written
  pub reads : (all : List ℕ) → start.left ≡ Some all → HasRead all now.left

abbrev pub LeadsTo : PieceOutcome → Ends → Ends → Reader → ℕ → Type 0
LeadsTo (piece_outcome.Read n) start now reader count = IsAt start now reader (count + n) × (0 < n)
LeadsTo (piece_outcome.Ended end) start now reader count = ClosedAs end start now
