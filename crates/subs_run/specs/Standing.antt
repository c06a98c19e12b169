-- Where a reader stands between two bytes. This project's own.
use Rattle.std.specs.Prelude.{◌≡◌, ℕ, ◌+◌, ◌≤◌, Option, List, [], length}
use Rattle.machine.specs.Messages.{Message}
use Rattle.machine.specs.Lines.{lines}
use Rattle.machine.specs.Script.{Reading, LineOutcome, Went, Faulty, At, Fault, AllSay, limit}
use Rattle.subs_run.specs.declared.reader.Reader.{Reader}
use Rattle.subs_run.specs.declared.line_result.LineResult.{LineResult}
use Rattle.subs_run.specs.declared.line_result.LineResult.TheVariants as line_result
use Rattle.subs_run.specs.declared.reader.Fed.{Fed}
use Rattle.subs_run.specs.declared.reader.Fed.TheVariants as fed
use Rattle.subs_run.specs.Runs.{ran}
use Rattle.subs_run.specs.Progress.{StandsAt, HasStand}
use Rattle.subs_run.specs.Written.{WritesOn, WritesFrontOn}

-- A line went as the rules say: its transcript and the progress after it, or its fault.
abbrev pub Matches : LineResult → LineOutcome → Reader → Type 0
Matches line_result.Went (Went reading text) after = StandsAt after.progress reading × (after.out.items ≡ text)
Matches line_result.Went (Faulty reason) after = ⊥
Matches (line_result.Faulty reason) (Went reading text) after = ⊥
Matches (line_result.Faulty reason) (Faulty other) after = other ≡ reason
Matches line_result.NoMemory took after = Unit {0}

-- a line that went was counted and is no longer kept; one at fault wasn't
abbrev pub Counts : LineResult → ℕ → Reader → Type 0
Counts line_result.Went before after = (after.line.items ≡ []) × (after.lines_read ≡ before + 1)
    × HasStand after.progress after.lines_read
Counts (line_result.Faulty reason) before after = after.lines_read ≡ before
Counts line_result.NoMemory before after = Unit {0}

-- whatever the texts of clients mean: the reader keeps what stands behind the whole lines of these bytes, and counts
-- them
pub record Keeps (reader : Reader) (seen : List ℕ) : Type 0 where
  pub stands : HasStand reader.progress reader.lines_read
  pub line : reader.line.items ≡ (lines seen).1
  pub lines_read : reader.lines_read ≡ length (lines seen).0

-- where the texts of clients have these meanings: the whole lines of these bytes were run, none of them at fault
pub record IsAfter (meant : List ℕ → Message) (reader : Reader) (seen : List ℕ) : Type 0 where
  pub reading : Reading
  pub faultless : (ran meant seen).standing ≡ At reading
  pub stands : StandsAt reader.progress reading

-- the texts that were taken so far have these meanings
abbrev pub AreRead : (List ℕ → Message) → List ℕ → Type 0
AreRead meant seen = AllSay meant (ran meant seen).said

-- the reader has run the whole lines of these bytes, and keeps what is behind them
pub record HasRun (reader : Reader) (seen : List ℕ) : Type 0 where
  pub keeps : Keeps reader seen
  pub after : (meant : List ℕ → Message) → AreRead meant seen → IsAfter meant reader seen

-- it may take so many bytes more
pub record HasRoom (reader : Reader) (more : ℕ) : Type 0 where
  pub seen : List ℕ
  pub ran : HasRun reader seen
  pub within : length seen + more ≤ limit

-- bytes were read, or the line behind those that went is at fault
abbrev pub FedAs : Fed → Reader → List ℕ → Type 0
FedAs fed.Done reader seen = HasRun reader seen
FedAs (fed.Faulty reason) reader seen =
    ((meant : List ℕ → Message) → AreRead meant seen →
    (ran meant seen).standing ≡ Fault (reader.lines_read + 1) reason)
    × (reader.lines_read ≤ length seen)
FedAs fed.SinkFailed reader seen = Unit {0}
FedAs fed.NoMemory reader seen = Unit {0}

-- what was written for them
abbrev pub FedAll : Fed → Option (List ℕ) → Option (List ℕ) → List ℕ → List ℕ → Type 0
FedAll fed.Done old new before after = WritesOn old new before after
FedAll (fed.Faulty reason) old new before after = WritesOn old new before after
FedAll fed.SinkFailed old new before after = WritesFrontOn old new before after
FedAll fed.NoMemory old new before after = WritesFrontOn old new before after
