-- What the hub makes of clients' messages.
use Rattle.std.specs.Prelude.{◌≡◌, ℕ, Bool, false, is_some, Option, Some, None, Ok, List, [], ◌∷◌, find, option_map}
use Rattle.std.specs.Str.{bytes_eq}
use Rattle.serde_json.specs.View.{view}
use Rattle.scalar_val.specs.declared.word.Word.{Word}
use Rattle.scalar_val.specs.declared.word.Word.TheVariants as word
use Rattle.json_out.specs.declared.data.Request.{Request}
use Rattle.role_model.specs.declared.metadata.Metadata.{Metadata}
use Rattle.role_model.specs.declared.session.Session.{Session}
use Rattle.request_model.specs.Selection.{given_values}
use Rattle.query_model.specs.declared.kind.SubKind.{SubKind}
use Rattle.query_model.specs.declared.kind.SubKind.TheVariants as sub
use Rattle.query_model.specs.declared.fault.QueryFault.{QueryFault}
use Rattle.query_model.specs.Refusals.{code_of, message_of}
use Rattle.query_model.specs.Queries.{binding_of, view_of}
use Rattle.query_model.specs.Plans.{plan_of}
use Rattle.query_model.specs.Admission.{Admitted, Admits}
use Rattle.query_model.specs.AdmissionLaws.{IsAdmitted}
use Rattle.query_model.specs.ResultLaws.{MayBeCursor}
use Rattle.wire_model.specs.declared.step.Phase as wire
use Rattle.wire_model.specs.declared.step.Action.{Action}
use Rattle.wire_model.specs.ClientMessages as client
use Rattle.wire_model.specs.ClientMessages.{ClientMessage}
use Rattle.wire_model.specs.ServerMessages.{ack_text, error_text}
use Rattle.wire_model.specs.Steps.{action}
use Rattle.machine.specs.declared.phase.Phase.{Phase}
use Rattle.machine.specs.Messages.{Message, Means}
use Rattle.machine.specs.State.{Event, Receive, Did}
use Rattle.machine.specs.Connections.{stage_of}
use Rattle.connection_table.specs.Connected.{Connected, phase_of}
use Rattle.subscription_table.specs.declared.held.Held.{Held}
use Rattle.subscription_table.specs.Kept.{held_at}
use Rattle.hub_model.specs.declared.reply.ConnReply.{ConnReply}
use Rattle.hub_model.specs.Kept.{Kept, poller_of}
use Rattle.hub_model.specs.Stands.{Does}
use Rattle.hub_model.specs.Steps.{Joining, counted, known, queued, acknowledged, live_on, ended, joined}
use Rattle.hub_model.specs.Replies.{ConnAnswers}
use Rattle.hub.specs.declared.conversation.Ready.{Ready}

-- ---- connections

abbrev pub phase_in : ℕ → Kept → Option Phase
phase_in conn k = option_map phase_of (known conn k)

-- how far a connection has come, if it is known
abbrev pub stage_in : ℕ → Kept → Option wire.Phase
stage_in conn k = option_map stage_of (phase_in conn k)

-- ---- ids

abbrev pub is_held_as : List ℕ → Option Held → Bool
is_held_as id (Some h) = bytes_eq h.id id
is_held_as id None = false

-- what is held under a number has this id
abbrev pub has_id : List Held → List ℕ → ℕ → Bool
has_id held id number = is_held_as id (held_at number held)

-- the live subscription of a connection that has this id
abbrev pub live_as : ℕ → List ℕ → Kept → Option ℕ
live_as conn id k = find (has_id k.held id) (live_on conn k)

-- the id in a client's message, and none where there is no id in it
abbrev pub id_in : ClientMessage → List ℕ
id_in (client.Init payload) = []
id_in (client.Subscribe id request) = id
id_in (client.Complete id) = id
id_in client.Ping = []
id_in client.Pong = []
id_in client.Bad = []

-- ---- messages

-- a message on a connection that is known asks for this
pub record AsksFor (conn : ℕ) (msg : ClientMessage) (a : Action) (k : Kept) : Type 0 where
  pub connected : Connected
  pub at : known conn k ≡ Some connected
  pub is : action (stage_of connected.phase) msg (is_some (live_as conn (id_in msg) k)) ≡ a

-- what a client's message did, whatever reading it gives
abbrev pub Received : Kept → Kept → ℕ → ClientMessage → ConnReply → Type 0
Received k k' conn msg reply = (m : Message) → Means msg m → ConnAnswers k k' conn (Receive conn m) reply

-- ---- events

-- the event queues a text for a connection, and does nothing else
abbrev pub SaysBy : Kept → ℕ → List ℕ → Event → Type 0
SaysBy k conn text e = Does k (counted (queued conn text k)) e Did (record { conn = conn; text = text } ∷ []) []

-- the event acknowledges a connection
abbrev pub AcknowledgesBy : Kept → ℕ → Session → Event → Type 0
AcknowledgesBy k conn session e =
    Does k (counted (acknowledged conn session (queued conn ack_text k))) e Did
    (record { conn = conn; text = ack_text } ∷ []) []

-- the event ends a subscription of a connection
abbrev pub EndsBy : Kept → ℕ → ℕ → Event → Type 0
EndsBy k conn number e = Does k (counted (ended conn number k)) e Did [] []

-- by the event the next subscription begins
abbrev pub JoinsBy : Kept → ℕ → Joining → Event → Type 0
JoinsBy k conn j e = Does k (counted (joined conn j k)) e Did [] []

-- the text of a refusal
abbrev pub refusal_text : List ℕ → QueryFault → List ℕ
refusal_text id fault = error_text id (message_of fault) (code_of fault.kind)

-- ---- admission

-- the word of the operations that become subscriptions of a kind
abbrev pub word_of : SubKind → Word
word_of sub.Once = word.Query
word_of sub.Live = word.Subscription
word_of sub.Stream = word.Subscription

abbrev pub joining : List ℕ → Ready → Joining
joining id ready =
    record { id = id; kind = ready.kind; plan = ready.plan; poller = ready.poller; binding = ready.binding }

abbrev pub Answers : Metadata → Session → Request → Admitted → Type 0
Answers meta session request a =
    Admits meta session request.query request.operation (given_values (view request.variables)) (Ok a)

-- what a subscription begins with is what its request was admitted with
pub record IsReady (meta : Metadata) (session : Session) (request : Request) (ready : Ready) : Type 0 where
  pub admitted : Admitted
  pub answers : Answers meta session request admitted
  pub kind : ready.kind ≡ admitted.query.kind
  pub plan : plan_of (view_of meta admitted.query) admitted.query.selection ≡ Some ready.plan
  pub poller : ready.poller ≡ poller_of admitted.query
  pub binding : ready.binding ≡ binding_of admitted.query admitted.cursor
  pub is_admitted : IsAdmitted meta admitted
  pub cursor : MayBeCursor admitted.query admitted.cursor
