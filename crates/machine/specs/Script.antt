-- What a script does, line by line, and the outcome of a whole script. This project's own.
use Rattle.std.specs.Prelude.{
  ℕ,
  ◌+◌,
  Bool,
  true,
  false,
  nat_lt,
  is_some,
  if◌then◌else◌,
  Option,
  Some,
  None,
  List,
  [],
  ◌∷◌,
  ◌++◌,
  length,
  take,
  codes,
  decimal,
  Result,
  Ok,
  Err,
}
use Rattle.std.specs.List.{AllByRecursion}
use Rattle.std.specs.Str.{bytes_eq}
use Rattle.data_model.specs.declared.transaction.TxChange.{TxChange}
use Rattle.data_model.specs.Form.{transaction}
use Rattle.role_model.specs.declared.metadata.MetaFault.{MetaFault}
use Rattle.role_model.specs.declared.metadata.MetaFault.TheVariants as fault
use Rattle.role_model.specs.MetadataMeaning.{metadata_of}
use Rattle.role_model.specs.declared.metadata.Metadata.{Metadata}
use Rattle.machine.specs.declared.script.ScriptReason.{ScriptReason}
use Rattle.machine.specs.declared.script.ScriptReason.TheVariants.{
  Cut,
  Size,
  Metadata as BadMetadata,
  NotEvent,
  Transaction,
  Known,
  Unknown,
}
use Rattle.machine.specs.Messages.{Message, Says}
use Rattle.machine.specs.State.{State, Event, opening}
use Rattle.machine.specs.State as event
use Rattle.machine.specs.Connections.{connection_at}
use Rattle.machine.specs.Run.{happens}
use Rattle.machine.specs.Transcript.{Reached, goes, poll}
use Rattle.machine.specs.Lines.{
  Line,
  Lines,
  Passed,
  Open,
  Receive,
  Binary,
  Timeout,
  Gone,
  Commit,
  Tick,
  Take,
  Publish,
  Abandon,
  Drain,
  Report,
  Poll,
  lines,
  read_line,
}

-- the metadata's lines with their line ends, or the state reached
pub data Reading : Type 0 where
  Heading : (metadata : List ℕ) → Reading
  Running : (meta : Metadata) (state : State) → Reading

abbrev pub fault_name : MetaFault → List ℕ
fault_name fault.TooLong = codes "TooLong"
fault_name fault.Toml = codes "Toml"
fault_name fault.BadForm = codes "BadForm"
fault_name fault.BadVersion = codes "BadVersion"
fault_name fault.TooMany = codes "TooMany"
fault_name fault.BadName = codes "BadName"
fault_name fault.Duplicate = codes "Duplicate"
fault_name fault.NoTable = codes "NoTable"
fault_name fault.NoColumn = codes "NoColumn"
fault_name fault.BadKind = codes "BadKind"
fault_name fault.BadRole = codes "BadRole"
fault_name fault.BadFilter = codes "BadFilter"

abbrev pub reason_text : ScriptReason → List ℕ
reason_text Cut = codes "cut"
reason_text Size = codes "size"
reason_text (BadMetadata fault) = codes "metadata " ++ fault_name fault
reason_text NotEvent = codes "event"
reason_text Transaction = codes "transaction"
reason_text Known = codes "known"
reason_text Unknown = codes "unknown"

-- a line went, with its transcript, or is at fault
pub data LineOutcome : Type 0 where
  Went : (reading : Reading) (text : List ℕ) → LineOutcome
  Faulty : (reason : ScriptReason) → LineOutcome

abbrev pub knows : State → ℕ → Bool
knows s c = is_some (connection_at c s)

abbrev pub went : Metadata → Reached → LineOutcome
went meta r = Went (Running meta r.state) r.text

abbrev pub serves : Metadata → State → Event → LineOutcome
serves meta s e = went meta (goes e (happens meta s e))

-- a connection opens, which must not be known
abbrev pub opens : Metadata → State → ℕ → LineOutcome
opens meta s c = if knows s c then Faulty Known else serves meta s (event.Connect c)

-- an event on a connection that must be known
abbrev pub serves_known : Metadata → State → ℕ → Event → LineOutcome
serves_known meta s c e = if knows s c then serves meta s e else Faulty Unknown

abbrev pub commits : Metadata → State → Option (List TxChange) → LineOutcome
commits meta s (Some tx) = serves meta s (event.Commit tx)
commits meta s None = Faulty Transaction

-- the metadata ends: it has no fault, or its first fault is the line's
abbrev pub begin : Result Metadata MetaFault → LineOutcome
begin (Ok meta) = Went (Running meta opening) []
begin (Err f) = Faulty (BadMetadata f)

-- the text of a client's message that a line brings to a connection which is known
abbrev pub said_on : State → Option Line → List (List ℕ)
said_on s (Some (Receive c text)) = if knows s c then text ∷ [] else []
said_on s _ = []

abbrev pub said_by : Reading → List ℕ → List (List ℕ)
said_by (Heading metadata) text = []
said_by (Running meta s) text = said_on s (read_line text)

-- where reading stands after some lines: going on, or at the first fault
pub data Standing : Type 0 where
  At : (reading : Reading) → Standing
  Fault : (line : ℕ) (reason : ScriptReason) → Standing

-- the transcript of some lines, the texts of clients' messages in them, and where reading stands
pub record Ran : Type 0 where
  pub text : List ℕ
  pub said : List (List ℕ)
  pub standing : Standing

abbrev pub ran_on : ℕ → List (List ℕ) → LineOutcome → (Reading → Ran) → Ran
ran_on number said (Went reading text) more =
    record {
      text = text ++ (more reading).text;
      said = said ++ (more reading).said;
      standing = (more reading).standing;
    }
ran_on number said (Faulty reason) more = record { text = []; said = said; standing = Fault number reason }

abbrev pub limit : ℕ
limit = 67108864

-- The transcript up to the end or the first fault, the texts of clients' messages in it, and that fault: its line and
-- its reason.
pub record ScriptOutcome : Type 0 where
  pub text : List ℕ
  pub said : List (List ℕ)
  pub fault : Option (ℕ × ScriptReason)

-- the script ends here: within a line, before the metadata's end, or as it should
abbrev pub ended : ℕ → List ℕ → Reading → Option (ℕ × ScriptReason)
ended number [] (Running meta s) = None
ended number [] (Heading metadata) = Some (number, Cut)
ended number (b ∷ rest) reading = Some (number, Cut)

abbrev pub fault_at_end : Bool → ℕ → List ℕ → Standing → Option (ℕ × ScriptReason)
fault_at_end too_long number rest (Fault line reason) = Some (line, reason)
fault_at_end true number rest (At reading) = Some (number, Size)
fault_at_end false number rest (At reading) = ended number rest reading

abbrev pub outcome_of : Bool → Lines → Ran → ScriptOutcome
outcome_of too_long parts ran =
    record {
      text = ran.text;
      said = ran.said;
      fault = fault_at_end too_long (length parts.0 + 1) parts.1 ran.standing;
    }

abbrev pub fault_line : Option (ℕ × ScriptReason) → List ℕ
fault_line None = []
fault_line (Some (line, reason)) = codes "fault " ++ decimal line ++ 32 ∷ reason_text reason ++ 10 ∷ []

-- `meant` gives for each text of a client the message that it says
module _ (meant : List ℕ → Message) where
  -- what a line does
  abbrev pub acts : Metadata → State → Line → LineOutcome
  acts meta s Passed = Went (Running meta s) []
  acts meta s (Open c) = opens meta s c
  acts meta s (Receive c text) = serves_known meta s c (event.Receive c (meant text))
  acts meta s (Binary c) = serves_known meta s c (event.Binary c)
  acts meta s (Timeout c) = serves_known meta s c (event.Timeout c)
  acts meta s (Gone c) = serves_known meta s c (event.Gone c)
  acts meta s (Commit text) = commits meta s (transaction text)
  acts meta s Tick = serves meta s event.Tick
  acts meta s Take = serves meta s event.Take
  acts meta s (Publish job) = serves meta s (event.Publish job)
  acts meta s (Abandon job) = serves meta s (event.Abandon job)
  acts meta s (Drain c) = serves_known meta s c (event.Drain c)
  acts meta s Report = serves meta s event.Report
  acts meta s Poll = went meta (poll meta s)

  abbrev pub act : Metadata → State → Option Line → LineOutcome
  act meta s (Some line) = acts meta s line
  act meta s None = Faulty NotEvent

  abbrev pub take_line : Reading → List ℕ → LineOutcome
  take_line (Heading metadata) text =
      if bytes_eq text (codes "---") then begin (metadata_of metadata)
      else Went (Heading (metadata ++ text ++ 10 ∷ [])) []
  take_line (Running meta s) text = act meta s (read_line text)

  -- the transcript of lines, of which the first has this number
  abbrev pub run_lines : ℕ → Reading → List (List ℕ) → Ran
  run_lines number reading [] = record { text = []; said = []; standing = At reading }
  run_lines number reading (l ∷ ls) =
      ran_on number (said_by reading l) (take_line reading l) (λ r. run_lines (number + 1) r ls)

  -- A whole script: at most `limit` bytes are read; the lines that end within them run.
  abbrev pub outcome : List ℕ → ScriptOutcome
  outcome bytes = let parts = lines (take limit bytes) in
      outcome_of (nat_lt limit (length bytes)) parts (run_lines 1 (Heading []) parts.0)

  -- all that is written for a script
  abbrev pub output : List ℕ → List ℕ
  output bytes = (outcome bytes).text ++ fault_line (outcome bytes).fault

  -- each text of a client in these has the meaning that it is given
  abbrev pub AllSay : List (List ℕ) → Type 0
  AllSay texts = AllByRecursion (λ text. Says text (meant text)) texts
