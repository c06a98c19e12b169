-- What the calls of serving are, beside the items of a link and what is sent over it. This project's own.
use Rattle.std.specs.Prelude.{◌≡◌, ℕ, ◌+◌, Bool, true, false, ◌||◌, nat_le, List, [], ◌∷◌, ◌++◌, filter}
use Rattle.std.specs.List.{count_by, flat_map, list_any}
use Rattle.outside.specs.declared.link.LinkItem.{LinkItem}
use Rattle.outside.specs.declared.link.LinkItem.TheVariants as item
use Rattle.outside.specs.declared.link.LinkOut.{LinkOut}
use Rattle.outside.specs.declared.link.LinkOut.TheVariants as out
use Rattle.wire_model.specs.CloseReasons.{code, reason}
use Rattle.wire_model.specs.declared.close.CloseReason.{CloseReason}
use Rattle.machine.specs.State.{
  Event,
  Receive,
  Binary,
  Timeout,
  Drain,
  Reply,
  ConnectionUnknown,
  Sent,
  Empty,
  Done,
}
use Rattle.subs_engine.specs.Calls.{Call}

-- ---- items

abbrev pub is_message : LinkItem → Bool
is_message (item.Text text) = true
is_message item.Binary = true
is_message item.Idle = false
is_message item.PeerClosed = false

-- the texts and binary messages among items, in order
abbrev pub messages : List LinkItem → List LinkItem
messages items = filter is_message items

-- the peer didn't close by this item
abbrev pub IsOpen : LinkItem → Type 0
IsOpen (item.Text text) = Unit {0}
IsOpen item.Binary = Unit {0}
IsOpen item.Idle = Unit {0}
IsOpen item.PeerClosed = ⊥

-- ---- calls

abbrev pub is_message_event : Event → Bool
is_message_event (Receive c message) = true
is_message_event (Binary c) = true
is_message_event e = false

abbrev pub is_message_call : Call → Bool
is_message_call x = is_message_event x.event

-- the calls for texts and binary messages, in order
abbrev pub heard : List Call → List Call
heard calls = filter is_message_call calls

-- a drain found nothing: the queue is empty, or another pass made the connection gone
abbrev pub is_quiet_at : Event → Reply → Bool
is_quiet_at (Drain c) ConnectionUnknown = true
is_quiet_at (Drain c) Empty = true
is_quiet_at e r = false

abbrev pub is_quiet : Call → Bool
is_quiet x = is_quiet_at x.event x.answer.reply

-- how many drains found nothing
abbrev pub quiets : List Call → ℕ
quiets calls = count_by is_quiet calls

abbrev pub is_timeout_event : Event → Bool
is_timeout_event (Timeout c) = true
is_timeout_event e = false

abbrev pub is_timeout : Call → Bool
is_timeout x = is_timeout_event x.event

abbrev pub timeouts : List Call → ℕ
timeouts calls = count_by is_timeout calls

abbrev pub close_of : CloseReason → LinkOut
close_of why = out.Close (code why) (reason why)

-- what a drain's reply asks to be sent
abbrev pub asks : Event → Reply → List LinkOut
asks (Drain c) (Sent text) = out.Text text ∷ []
asks (Drain c) (Done why) = close_of why ∷ []
asks e r = []

abbrev pub asked_by : Call → List LinkOut
asked_by x = asks x.event x.answer.reply

-- what calls ask to be sent, in order
abbrev pub said : List Call → List LinkOut
said calls = flat_map asked_by calls

-- Each call for a message comes right after a drain that found nothing. `quiet` says whether one came right before these.
abbrev pub InOrder : (quiet : Bool) → List Call → Type 0
InOrder quiet [] = Unit {0}
InOrder quiet (x ∷ xs) = (is_message_call x ≡ true → quiet ≡ true) × InOrder (is_quiet x) xs

-- whether the last call is a drain that found nothing
abbrev pub quiet_after : (quiet : Bool) → List Call → Bool
quiet_after quiet [] = quiet
quiet_after quiet (x ∷ xs) = quiet_after (is_quiet x) xs

-- the calls of serving a connection, but those that begin and end it: messages, timeouts, and drains not answered Done
abbrev pub IsStepAt : ℕ → Event → Reply → Type 0
IsStepAt conn (Receive c message) r = c ≡ conn
IsStepAt conn (Binary c) r = c ≡ conn
IsStepAt conn (Timeout c) r = c ≡ conn
IsStepAt conn (Drain c) (Done why) = ⊥
IsStepAt conn (Drain c) r = c ≡ conn
IsStepAt conn e r = ⊥

abbrev pub IsStep : ℕ → Call → Type 0
IsStep conn x = IsStepAt conn x.event x.answer.reply

-- ---- times

-- milliseconds from the start until the one timeout is due
abbrev pub init_wait : ℕ
init_wait = 3000

abbrev pub is_late : (start : ℕ) → ℕ → Bool
is_late start time = nat_le (start + init_wait) time

abbrev pub any_late : (start : ℕ) → List ℕ → Bool
any_late start times = list_any (is_late start) times

abbrev pub bit : Bool → ℕ
bit true = 1
bit false = 0
