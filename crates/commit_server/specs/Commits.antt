-- What serving the commit port did, from its first line to its end. This project's own.
use Rattle.std.specs.Prelude.{◌≡◌, ℕ, ◌^◌, ◌<◌, ◌≤◌, ◌⊎◌, Option, Some, is_some, true, List, [], ◌∷◌, ◌++◌}
use Rattle.std.specs.Prelude.{length}
use Rattle.std.specs.List.{AllByRecursion}
use Rattle.outside.specs.Ends.{Rose}
use Rattle.role_model.specs.declared.metadata.Metadata.{Metadata}
use Rattle.machine.specs.Lines.{lines}
use Rattle.machine.specs.State.{Event, Skip, Skipped}
use Rattle.history_lock.specs.PassViews.{PassView}
use Rattle.subs_engine.specs.Calls.{Call, plain, Did}
use Rattle.subs_engine.specs.Polls.{IsOne}
use Rattle.commit_server.specs.declared.end.CommitEnd.{CommitEnd}
use Rattle.commit_server.specs.declared.end.CommitEnd.TheVariants as end
use Rattle.commit_server.specs.Answers.{limit, IsShort, transaction_in, Answered, IsAnswered, lines_of, calls_of}
use Rattle.commit_server.specs.Answers.{texts_of}

-- what contracts see of a source: the bytes that are left, where it tells them, and the count of its faults
pub record SourceView : Type 0 where
  pub left : Option (List ℕ)
  pub faults : ℕ

abbrev pub source_view : Option (List ℕ) → ℕ → SourceView
source_view left faults = record { left = left; faults = faults }

-- the same of a sink: the bytes that were written
pub record SinkView : Type 0 where
  pub written : Option (List ℕ)
  pub faults : ℕ

abbrev pub sink_view : Option (List ℕ) → ℕ → SinkView
sink_view written faults = record { written = written; faults = faults }

-- between two moments these bytes were read, and left the source, where it tells them
pub record Reads (s s' : SourceView) (read : List ℕ) : Type 0 where
  pub told : (bytes : List ℕ) → s.left ≡ Some bytes → (rest : List ℕ) × (s'.left ≡ Some rest) × (bytes ≡ read ++ rest)
  pub later : s.faults ≤ s'.faults

-- between two moments these bytes were written, where the sink tells them
pub record Writes (k k' : SinkView) (sent : List ℕ) : Type 0 where
  pub told : (before : List ℕ) → k.written ≡ Some before → k'.written ≡ Some (before ++ sent)
  pub later : k.faults ≤ k'.faults

-- What is over at the end: lines that were not answered, calls that are those of no answer, the part of the answers
-- that wasn't written, the bytes behind the last line end, and bytes that were read and not looked at.
pub record Over : Type 0 where
  pub pending : List (List ℕ)
  pub calls : List Call
  pub unsent : List ℕ
  pub line : List ℕ
  pub ahead : List ℕ

-- each whole line was answered, and its answer was written
pub record AllAnswered (over : Over) : Type 0 where
  pub pending : over.pending ≡ []
  pub calls : over.calls ≡ []
  pub unsent : over.unsent ≡ []

-- the commit of a line that is a transaction was not made
pub record NotCommitted (over : Over) : Type 0 where
  pub line : List ℕ
  pub pending : over.pending ≡ line ∷ []
  pub is : is_some (transaction_in line) ≡ true
  pub unsent : over.unsent ≡ []

-- memory was wanting at a commit, which may be a skip; or anywhere else, at the last line
pub record LacksMemory (over : Over) : Type 0 where
  pub few : length over.pending ≤ 1
  pub calls : (over.calls ≡ []) ⊎ (IsOne over.calls Skip (plain Skipped) × NotCommitted over)

-- How serving ends by each answer. `turns` is how many entries were seen then.
abbrev pub EndsBy : (turns : ℕ) → SourceView → SourceView → SinkView → SinkView → CommitEnd → Over → Type 0
EndsBy turns s s' k k' end.Ended over = AllAnswered over × (over.ahead ≡ [])
    × ((bytes : List ℕ) → s.left ≡ Some bytes → s'.left ≡ Some [])
EndsBy turns s s' k k' end.SourceFault over = Rose s.faults s'.faults × AllAnswered over × (over.ahead ≡ [])
EndsBy turns s s' k k' end.SinkFault over = Rose k.faults k'.faults × (over.pending ≡ []) × (over.calls ≡ [])
EndsBy turns s s' k k' end.TooLong over = (limit < length over.line) × AllAnswered over
EndsBy turns s s' k k' end.Spent over = (turns ≡ 2 ^ 62) × (over.calls ≡ []) × NotCommitted over
EndsBy turns s s' k k' end.NoMemory over = LacksMemory over

-- the bytes behind the last line end are no line that is too long, but at that end
abbrev pub EndsShort : CommitEnd → Over → Type 0
EndsShort end.TooLong over = Unit {0}
EndsShort e over = IsShort over.line

-- What a whole call did between two moments: its calls, the bytes that it read, and those that it wrote.
pub record Commits (p q : PassView Event Metadata) (s s' : SourceView) (k k' : SinkView) (e : CommitEnd) : Type 0 where
  pub answered : List Answered
  pub over : Over
  -- the bytes that were read are whole lines, which were answered in order, and more
  pub read : List ℕ
  pub reads : Reads s s' read
  pub seen : List ℕ
  pub seen_of : read ≡ seen ++ over.ahead
  pub lines_are : lines seen ≡ (lines_of answered ++ over.pending, over.line)
  pub each : AllByRecursion IsAnswered answered
  -- no line is too long, and one that is is the end
  pub short : AllByRecursion IsShort (lines_of answered ++ over.pending)
  pub ends_short : EndsShort e over
  -- the calls are those of the lines, in order
  pub did : Did p q (calls_of answered ++ over.calls)
  -- what was written is the answers, in order
  pub sent : List ℕ
  pub texts : texts_of answered ≡ sent ++ over.unsent
  pub writes : Writes k k' sent
  -- how it ends
  pub ends : EndsBy (length q.seen) s s' k k' e over
