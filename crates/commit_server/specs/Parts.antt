-- What the functions that serve the commit port do, part by part. This project's own.
use Rattle.std.specs.Prelude.{◌≡◌, ℕ, ◌^◌, ◌<◌, ◌⊎◌, Result, Ok, Err, List, [], ◌∷◌, ◌++◌, length}
use Rattle.std.specs.List.{AllByRecursion}
use Rattle.outside.specs.Ends.{Rose}
use Rattle.data_model.specs.declared.transaction.TxChange.{TxChange}
use Rattle.role_model.specs.declared.metadata.Metadata.{Metadata}
use Rattle.machine.specs.Lines.{lines}
use Rattle.machine.specs.State.{Event, Commit}
use Rattle.machine.specs.Transcript.{commit_line}
use Rattle.history_lock.specs.PassViews.{PassView}
use Rattle.subs_engine.specs.Calls.{Answer, Did, IsSpent, MakesOne, Skips}
use Rattle.commit_server.specs.declared.end.CommitEnd.{CommitEnd}
use Rattle.commit_server.specs.declared.end.CommitEnd.TheVariants as end
use Rattle.commit_server.specs.Answers.{limit, IsShort, Answered, IsAnswered, lines_of, calls_of, texts_of}
use Rattle.commit_server.specs.Commits.{SourceView, SinkView, Reads, Writes, Over, AllAnswered, NotCommitted}
use Rattle.commit_server.specs.Commits.{LacksMemory, EndsBy, EndsShort}

-- ---- one transaction

-- the transaction was committed, and this is its answer
pub record CommitsOne (p q : PassView Event Metadata) (tx : List TxChange) (text : List ℕ) : Type 0 where
  pub answer : Answer
  pub made : MakesOne p q (Commit tx) answer
  pub text_is : text ≡ commit_line answer.reply ++ 10 ∷ []

-- the turns were spent, or memory was wanting, for the commit or for its answer
abbrev pub CommitFails : PassView Event Metadata → PassView Event Metadata → List TxChange → CommitEnd → Type 0
CommitFails p q tx end.Spent = IsSpent p q
CommitFails p q tx end.NoMemory = Skips p q ⊎ ((answer : Answer) × MakesOne p q (Commit tx) answer)
CommitFails p q tx e = ⊥

abbrev pub CommitsTx : PassView Event Metadata → PassView Event Metadata → List TxChange → List ℕ
    → Result (Unit {0}) CommitEnd → Type 0
CommitsTx p q tx text (Ok done) = CommitsOne p q tx text
CommitsTx p q tx text (Err e) = CommitFails p q tx e

-- ---- one line

-- how serving ends at a line
abbrev pub StopsBy : (turns : ℕ) → SinkView → SinkView → CommitEnd → Over → Type 0
StopsBy turns k k' end.SinkFault over = Rose k.faults k'.faults × (over.pending ≡ []) × (over.calls ≡ [])
StopsBy turns k k' end.TooLong over = (limit < length over.line) × AllAnswered over
StopsBy turns k k' end.Spent over = (turns ≡ 2 ^ 62) × (over.calls ≡ []) × NotCommitted over
StopsBy turns k k' end.NoMemory over = LacksMemory over
StopsBy turns k k' e over = ⊥

-- the line was answered with this text, which isn't written yet
pub record Replies (p q : PassView Event Metadata) (line text : List ℕ) : Type 0 where
  pub answered : Answered
  pub line_is : answered.line ≡ line
  pub text_is : answered.text ≡ text
  pub is : IsAnswered answered
  pub did : Did p q answered.calls

-- serving ends at this line
pub record LineStops (p q : PassView Event Metadata) (k k' : SinkView) (line : List ℕ) (e : CommitEnd) : Type 0 where
  pub answered : List Answered
  pub over : Over
  pub line_is : lines_of answered ++ over.pending ≡ line ∷ []
  pub no_line : over.line ≡ []
  pub no_ahead : over.ahead ≡ []
  pub each : AllByRecursion IsAnswered answered
  pub did : Did p q (calls_of answered ++ over.calls)
  pub sent : List ℕ
  pub texts : texts_of answered ≡ sent ++ over.unsent
  pub writes : Writes k k' sent
  pub stops : StopsBy (length q.seen) k k' e over

-- a line is replied to, or serving ends; nothing is written
abbrev pub RepliesTo : PassView Event Metadata → PassView Event Metadata → List ℕ → List ℕ →
    Result (Unit {0}) CommitEnd → Type 0
RepliesTo p q line text (Ok done) = Replies p q line text
RepliesTo p q line text (Err e) = (k : SinkView) → LineStops p q k k line e

-- the line was answered, and its answer was written
pub record LineAnswered (p q : PassView Event Metadata) (k k' : SinkView) (line : List ℕ) : Type 0 where
  pub answered : Answered
  pub line_is : answered.line ≡ line
  pub is : IsAnswered answered
  pub did : Did p q answered.calls
  pub writes : Writes k k' answered.text

abbrev pub AnswersLine : PassView Event Metadata → PassView Event Metadata → SinkView → SinkView → List ℕ
    → Result (Unit {0}) CommitEnd → Type 0
AnswersLine p q k k' line (Ok done) = LineAnswered p q k k' line
AnswersLine p q k k' line (Err e) = LineStops p q k k' line e

-- a text was written whole, or a front of it
pub record WritesFront (k k' : SinkView) (text : List ℕ) (e : CommitEnd) : Type 0 where
  pub sent : List ℕ
  pub unsent : List ℕ
  pub whole : text ≡ sent ++ unsent
  pub writes : Writes k k' sent
  pub fault : e ≡ end.SinkFault → Rose k.faults k'.faults
  pub sink : (e ≡ end.SinkFault) ⊎ (e ≡ end.NoMemory)

abbrev pub WritesText : SinkView → SinkView → List ℕ → Result (Unit {0}) CommitEnd → Type 0
WritesText k k' text (Ok done) = Writes k k' text
WritesText k k' text (Err e) = WritesFront k k' text e

-- ---- bytes

-- bytes behind a line end have no line end themselves
abbrev pub IsRest : List ℕ → Type 0
IsRest line = lines line ≡ ([], line)

-- These bytes came behind those of a line that wasn't ended. Each line that was ended then is answered, and the bytes
-- of the next one are these.
pub record Feeds (p q : PassView Event Metadata) (k k' : SinkView) (line line' bytes : List ℕ) : Type 0 where
  pub answered : List Answered
  pub lines_are : lines (line ++ bytes) ≡ (lines_of answered, line')
  pub each : AllByRecursion IsAnswered answered
  pub short : AllByRecursion IsShort (lines_of answered)
  pub short_line : IsShort line'
  pub did : Did p q (calls_of answered)
  pub writes : Writes k k' (texts_of answered)

-- the same until serving ends, with what is over then
pub record Until (p q : PassView Event Metadata) (k k' : SinkView) (line bytes : List ℕ) (e : CommitEnd)
    (over : Over) : Type 0
  where
    pub answered : List Answered
    pub seen : List ℕ
    pub seen_of : bytes ≡ seen ++ over.ahead
    pub lines_are : lines (line ++ seen) ≡ (lines_of answered ++ over.pending, over.line)
    pub each : AllByRecursion IsAnswered answered
    pub short : AllByRecursion IsShort (lines_of answered ++ over.pending)
    pub ends_short : EndsShort e over
    pub did : Did p q (calls_of answered ++ over.calls)
    pub sent : List ℕ
    pub texts : texts_of answered ≡ sent ++ over.unsent
    pub writes : Writes k k' sent

-- serving ends at one of the bytes
pub record Stops (p q : PassView Event Metadata) (k k' : SinkView) (line bytes : List ℕ) (e : CommitEnd) : Type 0 where
  pub over : Over
  pub until : Until p q k k' line bytes e over
  pub stops : StopsBy (length q.seen) k k' e over

abbrev pub FedAs : PassView Event Metadata → PassView Event Metadata → SinkView → SinkView → List ℕ → List ℕ → List ℕ
    → Result (Unit {0}) CommitEnd → Type 0
FedAs p q k k' line line' bytes (Ok done) = Feeds p q k k' line line' bytes
FedAs p q k k' line line' bytes (Err e) = Stops p q k k' line bytes e

-- ---- pieces

-- bytes were read, and their lines answered
pub record Goes (p q : PassView Event Metadata) (s s' : SourceView) (k k' : SinkView) (line line' : List ℕ) : Type 0
  where
    pub read : List ℕ
    pub reads : Reads s s' read
    pub feeds : Feeds p q k k' line line' read

-- one piece was read, or none, and serving ends
pub record Ends (p q : PassView Event Metadata) (s s' : SourceView) (k k' : SinkView) (line : List ℕ)
    (e : CommitEnd) : Type 0
  where
    pub over : Over
    pub read : List ℕ
    pub reads : Reads s s' read
    pub until : Until p q k k' line read e over
    pub ends : EndsBy (length q.seen) s s' k k' e over

abbrev pub TakesPiece : PassView Event Metadata → PassView Event Metadata → SourceView → SourceView → SinkView →
    SinkView → List ℕ → List ℕ → Result (Unit {0}) CommitEnd → Type 0
TakesPiece p q s s' k k' line line' (Ok done) = Goes p q s s' k k' line line'
TakesPiece p q s s' k k' line line' (Err e) = Ends p q s s' k k' line e
