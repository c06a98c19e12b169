-- What a line that was read says, and the words of the reasons that end a script. This project's own.
use Rattle.std.specs.Prelude.{◌≡◌, ℕ, List}
use Rattle.machine.specs.Lines as lines
use Rattle.machine.specs.Script as script
use Rattle.script_text.specs.declared.line.Line.{Line}
use Rattle.script_text.specs.declared.line.Line.TheVariants as line
use Rattle.machine.specs.declared.script.ScriptReason.{ScriptReason}
use Rattle.machine.specs.declared.script.ScriptReason.TheVariants as reason

abbrev pub line_of : Line → lines.Line
line_of line.Passed = lines.Passed
line_of (line.Open conn) = lines.Open conn
line_of (line.Receive conn text) = lines.Receive conn text.now
line_of (line.Binary conn) = lines.Binary conn
line_of (line.Timeout conn) = lines.Timeout conn
line_of (line.Gone conn) = lines.Gone conn
line_of (line.Commit text) = lines.Commit text.now
line_of line.Tick = lines.Tick
line_of line.Take = lines.Take
line_of (line.Publish job) = lines.Publish job
line_of (line.Abandon job) = lines.Abandon job
line_of (line.Drain conn) = lines.Drain conn
line_of line.Report = lines.Report
line_of line.Poll = lines.Poll

-- the one word of a reason, but for a fault of the metadata, which has two
abbrev pub IsWordOf : ScriptReason → List ℕ → Type 0
IsWordOf (reason.Metadata fault) word = Unit {0}
IsWordOf r word = word ≡ script.reason_text r
