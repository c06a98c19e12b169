-- What the engine's events and replies are to the machine. This project's own.
use Rattle.std.specs.Prelude.{ℕ, Bool, true, false, Option, Some, None, List}
use Rattle.machine.specs.Messages.{Message, Says}
use Rattle.machine.specs.State as machine
use Rattle.hub_model.specs.declared.reply.ConnReply.{ConnReply}
use Rattle.hub_model.specs.declared.reply.ConnReply.TheVariants as conn
use Rattle.hub_model.specs.declared.reply.CommitReply.{CommitReply}
use Rattle.hub_model.specs.declared.reply.CommitReply.TheVariants as commit
use Rattle.hub_model.specs.declared.reply.DrainReply.{DrainReply}
use Rattle.hub_model.specs.declared.reply.DrainReply.TheVariants as drain
use Rattle.hub_model.specs.Replies.{closes_of}
use Rattle.hub.specs.declared.event.Event.{Event}
use Rattle.hub.specs.declared.event.Event.TheVariants as event
use Rattle.hub.specs.declared.event.Reply.{Reply}
use Rattle.hub.specs.declared.event.Reply.TheVariants as reply
use Rattle.subs_engine.specs.Calls.{Answer, answer, plain}

-- ---- replies

abbrev pub conn_answer : ℕ → ConnReply → Answer
conn_answer c (conn.Did effect) = answer machine.Did effect.queued (closes_of c effect.closed)
conn_answer c conn.ConnKnown = plain machine.ConnectionKnown
conn_answer c conn.ConnUnknown = plain machine.ConnectionUnknown

abbrev pub commit_answer : CommitReply → Answer
commit_answer (commit.Committed version) = plain (machine.Committed version)
commit_answer (commit.Refused fault) = plain (machine.Declined fault)

abbrev pub abandon_answer : Bool → Answer
abandon_answer true = plain machine.Abandoned
abandon_answer false = plain machine.NotOpen

abbrev pub drain_answer : DrainReply → Answer
drain_answer drain.ConnUnknown = plain machine.ConnectionUnknown
drain_answer (drain.Sent text) = plain (machine.Sent text)
drain_answer drain.Empty = plain machine.Empty
drain_answer (drain.Done reason) = plain (machine.Done reason)

-- ---- what an event is answered with; a reply of another kind than the event's is none

abbrev pub conn_reply : ℕ → Reply → Option Answer
conn_reply c (reply.Conn r) = Some (conn_answer c r)
conn_reply c (reply.Commit r) = None
conn_reply c (reply.Tick n) = None
conn_reply c (reply.Abandon b) = None
conn_reply c (reply.Drain r) = None
conn_reply c (reply.Report n) = None

abbrev pub commit_reply : Reply → Option Answer
commit_reply (reply.Conn r) = None
commit_reply (reply.Commit r) = Some (commit_answer r)
commit_reply (reply.Tick n) = None
commit_reply (reply.Abandon b) = None
commit_reply (reply.Drain r) = None
commit_reply (reply.Report n) = None

abbrev pub tick_reply : Reply → Option Answer
tick_reply (reply.Conn r) = None
tick_reply (reply.Commit r) = None
tick_reply (reply.Tick n) = Some (plain (machine.Ticked n))
tick_reply (reply.Abandon b) = None
tick_reply (reply.Drain r) = None
tick_reply (reply.Report n) = None

abbrev pub abandon_reply : Reply → Option Answer
abandon_reply (reply.Conn r) = None
abandon_reply (reply.Commit r) = None
abandon_reply (reply.Tick n) = None
abandon_reply (reply.Abandon b) = Some (abandon_answer b)
abandon_reply (reply.Drain r) = None
abandon_reply (reply.Report n) = None

abbrev pub drain_reply : Reply → Option Answer
drain_reply (reply.Conn r) = None
drain_reply (reply.Commit r) = None
drain_reply (reply.Tick n) = None
drain_reply (reply.Abandon b) = None
drain_reply (reply.Drain r) = Some (drain_answer r)
drain_reply (reply.Report n) = None

abbrev pub report_reply : Reply → Option Answer
report_reply (reply.Conn r) = None
report_reply (reply.Commit r) = None
report_reply (reply.Tick n) = None
report_reply (reply.Abandon b) = None
report_reply (reply.Drain r) = None
report_reply (reply.Report n) = Some (plain (machine.Reported n))

abbrev pub answer_to : Event → Reply → Option Answer
answer_to (event.Commit tx) r = commit_reply r
answer_to (event.Connect c) r = conn_reply c r
answer_to (event.Text c text) r = conn_reply c r
answer_to (event.Binary c) r = conn_reply c r
answer_to (event.Timeout c) r = conn_reply c r
answer_to (event.Gone c) r = conn_reply c r
answer_to event.Tick r = tick_reply r
answer_to (event.Abandon j) r = abandon_reply r
answer_to (event.Drain c) r = drain_reply r
answer_to event.Report r = report_reply r

-- ---- events

-- the machine's event, but that of a text is given by the message that the text says
abbrev pub event_of : Event → machine.Event
event_of (event.Commit tx) = machine.Commit tx
event_of (event.Connect c) = machine.Connect c
event_of (event.Text c text) = machine.Skip
event_of (event.Binary c) = machine.Binary c
event_of (event.Timeout c) = machine.Timeout c
event_of (event.Gone c) = machine.Gone c
event_of event.Tick = machine.Tick
event_of (event.Abandon j) = machine.Abandon j
event_of (event.Drain c) = machine.Drain c
event_of event.Report = machine.Report

abbrev pub IsText : Event → Type 0
IsText (event.Commit tx) = ⊥
IsText (event.Connect c) = ⊥
IsText (event.Text c text) = Unit {0}
IsText (event.Binary c) = ⊥
IsText (event.Timeout c) = ⊥
IsText (event.Gone c) = ⊥
IsText event.Tick = ⊥
IsText (event.Abandon j) = ⊥
IsText (event.Drain c) = ⊥
IsText event.Report = ⊥

abbrev pub Holds : Option Answer → (Answer → Type 0) → Type 0
Holds (Some a) K = K a
Holds None K = ⊥

-- The text says a message, and what it does to the connection has the property.
abbrev pub AnswersText : ℕ → List ℕ → Reply → (machine.Event → Answer → Type 0) → Type 0
AnswersText c text r K =
    (message : Message) × Says text message × Holds (conn_reply c r) (K (machine.Receive c message))

-- The reply is of the event's kind, and the machine's event with the answer that the reply is has the property.
abbrev pub Answers : Event → Reply → (machine.Event → Answer → Type 0) → Type 0
Answers (event.Commit tx) r K = Holds (commit_reply r) (K (machine.Commit tx))
Answers (event.Connect c) r K = Holds (conn_reply c r) (K (machine.Connect c))
Answers (event.Text c text) r K = AnswersText c text r K
Answers (event.Binary c) r K = Holds (conn_reply c r) (K (machine.Binary c))
Answers (event.Timeout c) r K = Holds (conn_reply c r) (K (machine.Timeout c))
Answers (event.Gone c) r K = Holds (conn_reply c r) (K (machine.Gone c))
Answers event.Tick r K = Holds (tick_reply r) (K machine.Tick)
Answers (event.Abandon j) r K = Holds (abandon_reply r) (K (machine.Abandon j))
Answers (event.Drain c) r K = Holds (drain_reply r) (K (machine.Drain c))
Answers event.Report r K = Holds (report_reply r) (K machine.Report)

-- the events for which memory may be wanting
abbrev pub may_lack : Event → Bool
may_lack (event.Commit tx) = true
may_lack (event.Connect c) = true
may_lack (event.Text c text) = true
may_lack (event.Binary c) = false
may_lack (event.Timeout c) = false
may_lack (event.Gone c) = false
may_lack event.Tick = false
may_lack (event.Abandon j) = false
may_lack (event.Drain c) = false
may_lack event.Report = false
