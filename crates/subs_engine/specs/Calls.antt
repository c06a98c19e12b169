-- What a call of the engine adds to what its pass has seen. This project's own.
use Rattle.std.specs.Prelude.{◌≡◌, ℕ, ◌==◌, ◌^◌, ◌≤◌, List, [], ◌∷◌, ◌++◌, length, if◌then◌else◌}
use Rattle.history_lock.specs.declared.known.Entry.{Entry}
use Rattle.history_lock.specs.History.{entry, events, own, Extends}
use Rattle.history_lock.specs.PassViews.{PassView}
use Rattle.role_model.specs.declared.metadata.Metadata.{Metadata}
use Rattle.machine.specs.declared.queued.Queued.{Queued}
use Rattle.machine.specs.State.{State, Event, Skip, Reply, Skipped, Close, Step, opening}
use Rattle.machine.specs.Run.{happens, run}

-- the machine's answer to an event: its reply, the texts that it queues, in order, and the connections that it closes
pub record Answer : Type 0 where
  pub reply : Reply
  pub queued : List Queued
  pub closed : List Close

abbrev pub answer : Reply → List Queued → List Close → Answer
answer reply queued closed = record { reply = reply; queued = queued; closed = closed }

-- it queues nothing and closes nothing
abbrev pub plain : Reply → Answer
plain reply = answer reply [] []

abbrev pub answer_of : Step → Answer
answer_of step = answer step.reply step.queued step.closed

-- an event, the state of the machine before it, and the machine's answer
pub record Call : Type 0 where
  pub state : State
  pub event : Event
  pub answer : Answer

abbrev pub call : State → Event → Answer → Call
call s e a = record { state = s; event = e; answer = a }

abbrev pub call_at : Metadata → State → Event → Call
call_at meta s e = call s e (answer_of (happens meta s e))

-- Entries of others, and then the one of the call, with the machine's answer after all that was seen before it
pub record Adds (meta : Metadata) (number : ℕ) (c : Call) (before after : List (Entry Event)) : Type 0 where
  pub others : List (Entry Event)
  pub apart : own number others ≡ []
  pub whole : after ≡ (before ++ others) ++ entry number c.event ∷ []
  pub place : c ≡ call_at meta (run meta (events (before ++ others))) c.event

abbrev pub calls_from : Metadata → State → ℕ → List (Entry Event) → List Call
calls_from meta s n [] = []
calls_from meta s n (x ∷ xs) =
    if x.pass == n then (call_at meta s x.event ∷ calls_from meta (happens meta s x.event).state n xs)
    else (calls_from meta (happens meta s x.event).state n xs)

-- the calls that a pass made: its own entries, with the machine's answer at each
unfoldable pub calls : Metadata → ℕ → List (Entry Event) → List Call
calls meta n seen = calls_from meta opening n seen

-- From one moment to another a pass made these calls, in order. What it had seen begins what it has seen then.
pub record Did (p q : PassView Event Metadata) (made : List Call) : Type 0 where
  pub lock : q.lock ≡ p.lock
  pub number : q.number ≡ p.number
  pub basis : q.basis ≡ p.basis
  pub has_turn : q.has_turn ≡ p.has_turn
  pub rest : List (Entry Event)
  pub whole : q.seen ≡ p.seen ++ rest
  pub calls : calls p.basis p.number q.seen ≡ calls p.basis p.number p.seen ++ made

-- The call was the pass's only one. There are 2^62 turns at most, and so many entries.
pub record Makes (p q : PassView Event Metadata) (c : Call) : Type 0 where
  pub adds : Adds p.basis p.number c p.seen q.seen
  pub did : Did p q (c ∷ [])
  pub few : length q.seen ≤ 2 ^ 62

-- the one call was this event, with this answer
abbrev pub MakesOne : PassView Event Metadata → PassView Event Metadata → Event → Answer → Type 0
MakesOne p q e a = (s : State) × Makes p q (call s e a)

-- memory was wanting under the turn, which is a `skip`
abbrev pub Skips : PassView Event Metadata → PassView Event Metadata → Type 0
Skips p q = MakesOne p q Skip (plain Skipped)

-- nothing has happened
abbrev pub Stays : PassView Event Metadata → PassView Event Metadata → Type 0
Stays p q = (q ≡ p) × Did p q []

-- all turns are taken, and no new entry is the pass's
pub record IsSpent (p q : PassView Event Metadata) : Type 0 where
  pub whole : length q.seen ≡ 2 ^ 62
  pub extends : Extends p.number p.seen q.seen
  pub did : Did p q []
