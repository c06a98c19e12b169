-- What clients say to the machine, and what their texts mean to it (the `graphql-transport-ws` protocol). A message that
-- subscribes carries what reading its query gave, since admission needs no more of the text.
use Rattle.std.specs.Prelude.{◌≡◌, ℕ, List, [], Option, None}
use Rattle.serde_json.specs.Data.{Data, null}
use Rattle.request_model.specs.Selection.{given_values}
use Rattle.query_model.specs.Selecting.{Asked, Selects}
use Rattle.wire_model.specs.ClientMessages as client
use Rattle.wire_model.specs.ClientMessages.{ClientMessage, message}

-- A client's message. `Init` has the payload, if there is one.
pub data Message : Type 0 where
  Init : (payload : Option Data) → Message
  Subscribe : (id : List ℕ) (asked : Asked) → Message
  Complete : (id : List ℕ) → Message
  Ping : Message
  Pong : Message
  Bad : Message

-- the request of a `subscribe` is read: its selection or its first refusal, and the values of its variables
pub record IsRead (request : client.Request) (asked : Asked) : Type 0 where
  pub values : asked.values ≡ given_values request.variables
  pub selection : Selects request.query request.operation asked.values asked.selection

-- what a client's message is to the machine
pub data Means : ClientMessage → Message → Type 0 where
  init : {payload : Option Data} → Means (client.Init payload) (Init payload)
  subscribe : {id : List ℕ} {request : client.Request} {asked : Asked} →
      IsRead request asked → Means (client.Subscribe id request) (Subscribe id asked)
  complete : {id : List ℕ} → Means (client.Complete id) (Complete id)
  ping : Means client.Ping Ping
  pong : Means client.Pong Pong
  bad : Means client.Bad Bad

-- the text says this message
abbrev pub Says : List ℕ → Message → Type 0
Says text m = Means (message text) m

-- the id in a message, and none where there is no id in it
abbrev pub id_of : Message → List ℕ
id_of (Init payload) = []
id_of (Subscribe id asked) = id
id_of (Complete id) = id
id_of Ping = []
id_of Pong = []
id_of Bad = []

-- the message without what it asks for, which is all that the table of the protocol goes by
abbrev pub plain : Message → ClientMessage
plain (Init payload) = client.Init payload
plain (Subscribe id asked) = client.Subscribe id (record { query = []; operation = None; variables = null })
plain (Complete id) = client.Complete id
plain Ping = client.Ping
plain Pong = client.Pong
plain Bad = client.Bad
