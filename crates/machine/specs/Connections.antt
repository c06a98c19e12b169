-- What the events of connections do: the phases, messages and closes of the `graphql-transport-ws` protocol. Queues and
-- how they are drained, and what the end of a connection does, are this project's own.
use Rattle.std.specs.Prelude.{
  ℕ,
  ◌+◌,
  nat_lt,
  Bool,
  true,
  false,
  ◌&&◌,
  not,
  ◌==◌,
  if◌then◌else◌,
  Option,
  Some,
  None,
  Result,
  Ok,
  Err,
  List,
  [],
  ◌∷◌,
  ◌++◌,
  length,
  map,
  filter,
  find,
}
use Rattle.std.specs.List.{list_any}
use Rattle.std.specs.Str.{bytes_eq}
use Rattle.scalar_val.specs.declared.val.Val.{Val}
use Rattle.role_model.specs.declared.metadata.Metadata.{Metadata}
use Rattle.role_model.specs.declared.session.Session.{Session}
use Rattle.role_model.specs.declared.session.Identity.{Identity}
use Rattle.role_model.specs.declared.session.Identity.TheVariants as identity
use Rattle.role_model.specs.Sessions.{identity_of}
use Rattle.query_model.specs.declared.fault.QueryFault.{QueryFault}
use Rattle.query_model.specs.Refusals.{code_of, message_of}
use Rattle.query_model.specs.Queries.{Query}
use Rattle.query_model.specs.Admission.{Admitted}
use Rattle.query_model.specs.Selecting.{answered}
use Rattle.wire_model.specs.declared.close.CloseReason.{CloseReason}
use Rattle.wire_model.specs.declared.close.CloseReason.TheVariants.{Forbidden}
use Rattle.wire_model.specs.declared.step.Phase as wire
use Rattle.wire_model.specs.declared.step.Phase.TheVariants as stage
use Rattle.wire_model.specs.declared.step.Action.{Action}
use Rattle.wire_model.specs.declared.step.Action.TheVariants as act
use Rattle.wire_model.specs.ServerMessages.{ack_text, pong_text, error_text}
use Rattle.wire_model.specs.Steps.{action, closes_with, on_timeout}
use Rattle.machine.specs.Messages.{Message, Init, Subscribe, id_of, plain}
use Rattle.machine.specs.State.{
  State,
  Connection,
  Phase,
  Fresh,
  Acknowledged,
  Closed,
  Subscription,
  Step,
  Effect,
  ConnectionUnknown,
  ConnectionKnown,
  Did,
  Sent,
  Empty,
  Done,
  silent,
  nothing,
}

-- ---- connections

abbrev pub is_connection : ℕ → Connection → Bool
is_connection number c = c.number == number

abbrev pub connection_at : ℕ → State → Option Connection
connection_at number s = find (is_connection number) s.connections

abbrev pub at_connection : ℕ → (Connection → Connection) → Connection → Connection
at_connection number f c = if c.number == number then f c else c

-- the state with one connection changed
abbrev pub with_connection : ℕ → (Connection → Connection) → State → State
with_connection number f s = record s { connections = map (at_connection number f) s.connections }

-- one more connection, at its place in the order of numbers
abbrev pub with_new : Connection → List Connection → List Connection
with_new c [] = c ∷ []
with_new c (d ∷ ds) = if nat_lt c.number d.number then c ∷ d ∷ ds else d ∷ with_new c ds

abbrev pub connect : ℕ → State → Option Connection → Step
connect number s (Some known) = silent s ConnectionKnown
connect number s None =
    silent (record s { connections = with_new (record { number = number; phase = Fresh; queue = [] }) s.connections }) Did

-- an event on a connection that must be known
abbrev pub on_known : (Connection → Step) → State → Option Connection → Step
on_known f s (Some c) = f c
on_known f s None = silent s ConnectionUnknown

-- ---- queues

-- one effect, and then another
abbrev pub and_then : Effect → (State → Effect) → Effect
and_then first more =
    record {
      state = (more first.state).state;
      queued = first.queued ++ (more first.state).queued;
      closed = first.closed ++ (more first.state).closed;
    }

abbrev pub queues : List ℕ → Connection → Connection
queues text c = record c { queue = c.queue ++ text ∷ [] }

abbrev pub queue_text : ℕ → List ℕ → State → Effect
queue_text number text s = record {
  state = with_connection number (queues text) s;
  queued = record { conn = number; text = text } ∷ [];
  closed = [];
}

-- a text is queued on a connection, and then comes what goes with it
abbrev pub queue_then : ℕ → List ℕ → (State → Effect) → State → Effect
queue_then number text more s = and_then (queue_text number text s) more

abbrev pub leaves : List (List ℕ) → Connection → Connection
leaves rest c = record c { queue = rest }

abbrev pub drained : ℕ → State → Phase → List (List ℕ) → Step
drained number s phase (text ∷ rest) = silent (with_connection number (leaves rest) s) (Sent text)
drained number s (Closed reason) [] = silent s (Done reason)
drained number s Fresh [] = silent s Empty
drained number s (Acknowledged session) [] = silent s Empty

-- ---- ends

abbrev pub ended_if : (Subscription → Bool) → Subscription → Subscription
ended_if p sub = if p sub then record sub { live = false } else sub

-- Subscriptions end: they are no longer live, and not due.
abbrev pub end_where : (Subscription → Bool) → State → State
end_where p s = record s {
  subscriptions = map (ended_if p) s.subscriptions;
  due = filter (λ n. not (list_any (λ sub. sub.number == n && p sub) s.subscriptions)) s.due;
}

abbrev pub is_of : ℕ → Subscription → Bool
is_of number sub = sub.connection == number

abbrev pub is_live_id : ℕ → List ℕ → Subscription → Bool
is_live_id number id sub = sub.live && sub.connection == number && bytes_eq sub.id id

abbrev pub closes : CloseReason → Connection → Connection
closes reason c = record c { phase = Closed reason }

-- A connection closes with a reason, and its subscriptions end. What is queued stays.
abbrev pub close_connection : ℕ → CloseReason → State → Effect
close_connection number reason s =
    record {
      state = with_connection number (closes reason) (end_where (is_of number) s);
      queued = [];
      closed = record { connection = number; reason = reason } ∷ [];
    }

abbrev pub close_if : ℕ → State → Option CloseReason → Effect
close_if number s (Some reason) = close_connection number reason s
close_if number s None = nothing s

-- the connection is no longer known, and what was queued for it is dropped
abbrev pub gone : ℕ → State → Effect
gone number s = let ended = end_where (is_of number) s in
    nothing (record ended { connections = filter (λ c. not (is_connection number c)) ended.connections })

-- ---- messages

abbrev pub acknowledges : Session → Connection → Connection
acknowledges session c = record c { phase = Acknowledged session }

-- a `connection_init` on a fresh connection
abbrev pub initialised : ℕ → State → Identity → Effect
initialised number s (identity.Allowed session) =
    queue_then number ack_text (λ t. nothing (with_connection number (acknowledges session) t)) s
initialised number s identity.Forbidden = close_connection number Forbidden s

abbrev pub identify : Metadata → ℕ → Message → State → Effect
identify meta number (Init payload) s = initialised number s (identity_of meta payload)
identify meta number _ s = nothing s

abbrev pub subscription_of : ℕ → List ℕ → Query → Val → State → Subscription
subscription_of number id query cursor s =
    record {
      number = length s.subscriptions + 1;
      connection = number;
      id = id;
      query = query;
      cursor = cursor;
      live = true;
      last = None;
    }

-- A `subscribe` that is admitted becomes the next subscription: live, not due, and without a last text.
abbrev pub subscribed : ℕ → List ℕ → State → Result Admitted QueryFault → Effect
subscribed number id s (Ok a) =
    nothing (record s { subscriptions = s.subscriptions ++ subscription_of number id a.query a.cursor s ∷ [] })
subscribed number id s (Err fault) = queue_then number (error_text id (message_of fault) (code_of fault.kind)) nothing s

abbrev pub admit : Metadata → ℕ → Message → State → Phase → Effect
admit meta number (Subscribe id asked) s (Acknowledged session) = subscribed number id s (answered meta session asked)
admit meta number _ s _ = nothing s

-- what an action does that closes nothing
abbrev pub does : Metadata → ℕ → Message → State → Phase → Action → Effect
does meta number message s phase act.Identify = identify meta number message s
does meta number message s phase act.Admit = admit meta number message s phase
does meta number message s phase act.End = nothing (end_where (is_live_id number (id_of message)) s)
does meta number message s phase act.Pong = queue_then number pong_text nothing s
does meta number message s phase _ = nothing s

abbrev pub closes_or_does : Metadata → ℕ → Message → State → Phase → Action → Option CloseReason → Effect
closes_or_does meta number message s phase a (Some reason) = close_connection number reason s
closes_or_does meta number message s phase a None = does meta number message s phase a

abbrev pub acts : Metadata → ℕ → Message → State → Phase → Action → Effect
acts meta number message s phase a = closes_or_does meta number message s phase a (closes_with (id_of message) a)

abbrev pub stage_of : Phase → wire.Phase
stage_of Fresh = stage.Fresh
stage_of (Acknowledged session) = stage.Acked
stage_of (Closed reason) = stage.Closed

-- the message's id is that of a live subscription of the connection
abbrev pub is_live : ℕ → Message → State → Bool
is_live number message s = list_any (is_live_id number (id_of message)) s.subscriptions

-- what a message does, by the table of the protocol
abbrev pub receive : Metadata → ℕ → Message → State → Phase → Effect
receive meta number message s phase =
    acts meta number message s phase (action (stage_of phase) (plain message) (is_live number message s))

-- no `connection_init` came in time
abbrev pub timed_out : ℕ → State → Phase → Effect
timed_out number s phase = close_if number s (on_timeout (stage_of phase))
