-- Scripts: the lines of a text, and what one line is. This project's own.
use Rattle.std.specs.Prelude.{
  ℕ,
  ◌+◌,
  ◌-◌,
  ◌*◌,
  ◌^◌,
  ◌&&◌,
  Bool,
  ◌==◌,
  nat_lt,
  if◌then◌else◌,
  Option,
  Some,
  None,
  option_map,
  List,
  [],
  ◌∷◌,
  drop,
  codes,
  decimal,
}
use Rattle.std.specs.List.{list_any, fold, starts_with, before_first, after_first}
use Rattle.std.specs.Str.{bytes_eq, is_utf8}

-- the whole lines of a text without their line ends, and what stands behind the last line end
abbrev pub Lines : Type 0
Lines = List (List ℕ) × List ℕ

abbrev pub onto_line : ℕ → Lines → Lines
onto_line b ([], rest) = ([], b ∷ rest)
onto_line b (l ∷ ls, rest) = ((b ∷ l) ∷ ls, rest)

abbrev pub lines : List ℕ → Lines
lines [] = ([], [])
lines (b ∷ bs) = if b == 10 then ([] ∷ (lines bs).0, (lines bs).1) else onto_line b (lines bs)

-- the number that decimal digits name
abbrev pub number_of : List ℕ → ℕ
number_of = fold (λ n b. n * 10 + (b - 48)) 0

-- a number in decimal without leading zeros, below a limit
abbrev pub read_number : ℕ → List ℕ → Option ℕ
read_number limit text = if bytes_eq text (decimal (number_of text)) && nat_lt (number_of text) limit
    then Some (number_of text) else None

-- One line of a script

pub data Line : Type 0 where
  Passed : Line
  Open : (connection : ℕ) → Line
  Receive : (connection : ℕ) (text : List ℕ) → Line
  Binary : (connection : ℕ) → Line
  Timeout : (connection : ℕ) → Line
  Gone : (connection : ℕ) → Line
  Commit : (text : List ℕ) → Line
  Tick : Line
  Take : Line
  Publish : (job : ℕ) → Line
  Abandon : (job : ℕ) → Line
  Drain : (connection : ℕ) → Line
  Report : Line
  Poll : Line

-- a connection has a number of 32 bits, a job one of 64 bits
abbrev pub of_connection : (ℕ → Line) → List ℕ → Option Line
of_connection form text = option_map form (read_number (2 ^ 32) text)

abbrev pub of_job : (ℕ → Line) → List ℕ → Option Line
of_job form text = option_map form (read_number (2 ^ 64) text)

abbrev pub is_space : ℕ → Bool
is_space b = b == 32

-- a connection, a space and a text, which may be empty
abbrev pub of_text : List ℕ → Option Line
of_text text = if list_any is_space text then option_map (λ c. Receive c (after_first is_space text))
    (read_number (2 ^ 32) (before_first is_space text)) else None

abbrev pub begins : List ℕ → List ℕ → Bool
begins text word = starts_with ◌==◌ text word

-- the forms of one word
abbrev pub read_word : List ℕ → Option Line
read_word text =
    if bytes_eq text (codes "tick") then Some Tick
    else (if bytes_eq text (codes "take") then Some Take
    else (if bytes_eq text (codes "report") then Some Report
    else (if bytes_eq text (codes "poll") then Some Poll
    else None)))

-- the forms of a word and a job
abbrev pub read_job : List ℕ → Option Line
read_job text =
    if begins text (codes "publish ") then of_job Publish (drop 8 text)
    else (if begins text (codes "abandon ") then of_job Abandon (drop 8 text)
    else read_word text)

-- the forms of a word and a connection
abbrev pub read_connection : List ℕ → Option Line
read_connection text =
    if begins text (codes "open ") then of_connection Open (drop 5 text)
    else (if begins text (codes "binary ") then of_connection Binary (drop 7 text)
    else (if begins text (codes "timeout ") then of_connection Timeout (drop 8 text)
    else (if begins text (codes "gone ") then of_connection Gone (drop 5 text)
    else (if begins text (codes "drain ") then of_connection Drain (drop 6 text)
    else read_job text))))

-- the forms that end with a text, and all others
abbrev pub read_form : List ℕ → Option Line
read_form text =
    if begins text (codes "recv ") then of_text (drop 5 text)
    else (if begins text (codes "commit ") then Some (Commit (drop 7 text))
    else read_connection text)

-- An empty line or a comment is passed over. Any other line is of one of the forms above, in UTF-8.
abbrev pub read_line : List ℕ → Option Line
read_line [] = Some Passed
read_line (b ∷ bs) = if b == 35 then Some Passed else (if is_utf8 (b ∷ bs) then read_form (b ∷ bs) else None)
