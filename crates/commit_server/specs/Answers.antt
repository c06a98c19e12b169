-- Lines of the commit port, and what they are answered. This project's own.
use Rattle.std.specs.Prelude.{◌≡◌, ℕ, ◌≤◌, if◌then◌else◌, Option, Some, None, List, [], ◌∷◌, ◌++◌, length, map, codes}
use Rattle.std.specs.List.{flat_map}
use Rattle.std.specs.Str.{is_utf8}
use Rattle.data_model.specs.declared.transaction.TxChange.{TxChange}
use Rattle.data_model.specs.Form.{transaction}
use Rattle.machine.specs.State.{Commit}
use Rattle.machine.specs.Transcript.{commit_line}
use Rattle.subs_engine.specs.Calls.{Answer, Call}
use Rattle.subs_engine.specs.Polls.{IsOne}

-- the most bytes of a line, without its line end
abbrev pub limit : ℕ
limit = 1048576

abbrev pub IsShort : List ℕ → Type 0
IsShort line = length line ≤ limit

-- the transaction that a line is, if it is one
abbrev pub transaction_in : List ℕ → Option (List TxChange)
transaction_in line = if is_utf8 line then transaction line else None

-- a line, the calls that were made for it, and what it is answered
pub record Answered : Type 0 where
  pub line : List ℕ
  pub calls : List Call
  pub text : List ℕ

-- the commit of a transaction, and the reply to it; or `bad`
pub record IsCommitted (tx : List TxChange) (a : Answered) : Type 0 where
  pub answer : Answer
  pub one : IsOne a.calls (Commit tx) answer
  pub text : a.text ≡ commit_line answer.reply ++ 10 ∷ []

abbrev pub IsBad : Answered → Type 0
IsBad a = (a.calls ≡ []) × (a.text ≡ codes "bad" ++ 10 ∷ [])

abbrev pub IsAnsweredBy : Option (List TxChange) → Answered → Type 0
IsAnsweredBy (Some tx) a = IsCommitted tx a
IsAnsweredBy None a = IsBad a

-- the line is answered as it is to be
abbrev pub IsAnswered : Answered → Type 0
IsAnswered a = IsAnsweredBy (transaction_in a.line) a

abbrev pub line_of : Answered → List ℕ
line_of a = a.line

abbrev pub calls_by : Answered → List Call
calls_by a = a.calls

abbrev pub text_by : Answered → List ℕ
text_by a = a.text

abbrev pub lines_of : List Answered → List (List ℕ)
lines_of answered = map line_of answered

abbrev pub calls_of : List Answered → List Call
calls_of answered = flat_map calls_by answered

abbrev pub texts_of : List Answered → List ℕ
texts_of answered = flat_map text_by answered
