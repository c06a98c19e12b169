-- What clients say: the messages of the `graphql-transport-ws` protocol, over what `serde_json` reads of a text, in which
-- an object has each key once, with the value of its last pair. The limit of a text's length is this project's own.
use Rattle.std.specs.Prelude.{
  ℕ,
  nat_lt,
  if◌then◌else◌,
  List,
  length,
  unwrap_or,
  Option,
  Some,
  None,
  option_map,
  option_and_then,
  codes,
}
use Rattle.std.specs.Str.{bytes_eq}
use Rattle.serde_json.specs.Data.{Data, null, object, Members}
use Rattle.serde_json.specs.Find.{as_str, as_object, get_member}
use Rattle.serde_json.specs.Read.{read}
use Rattle.data_model.specs.JsonParts.{required}

-- What a `subscribe` asks for. The variables are an object, or null where there are none.
pub record Request : Type 0 where
  pub query : List ℕ
  pub operation : Option (List ℕ)
  pub variables : Data

-- A client's message. The payload of `Init` is an object, where there is one. `Bad`: the text is no message.
pub data ClientMessage : Type 0 where
  Init : (payload : Option Data) → ClientMessage
  Subscribe : (id : List ℕ) (request : Request) → ClientMessage
  Complete : (id : List ℕ) → ClientMessage
  Ping : ClientMessage
  Pong : ClientMessage
  Bad : ClientMessage

abbrev pub absent_or : {A : Type 0} → (Data → Option A) → Option Data → Option (Option A)
absent_or form None = Some None
absent_or form (Some null) = Some None
absent_or form (Some d) = option_map (λ a. Some a) (form d)

-- the value of an optional key, in its form: nothing where the key is absent or its value is null
abbrev pub optional : {A : Type 0} → (Data → Option A) → List ℕ → Members → Option (Option A)
optional form key ms = absent_or form (get_member key ms)

abbrev pub an_object : Data → Option Data
an_object d = option_map (λ ms. object ms) (as_object d)

abbrev pub init_form : Members → Option ClientMessage
init_form ms = option_map Init (optional an_object (codes "payload") ms)

-- the extensions must be of their form, and are dropped
abbrev pub request_form : Members → Option Request
request_form ms =
    option_and_then (λ query.
    option_and_then (λ operation.
    option_and_then (λ variables.
    option_map (λ extensions. record { query = query; operation = operation; variables = unwrap_or variables null })
    (optional an_object (codes "extensions") ms))
    (optional an_object (codes "variables") ms))
    (optional as_str (codes "operationName") ms))
    (required as_str (codes "query") ms)

abbrev pub request_of : Data → Option Request
request_of d = option_and_then request_form (as_object d)

abbrev pub subscribe_form : Members → Option ClientMessage
subscribe_form ms = option_and_then (λ id. option_map (Subscribe id) (required request_of (codes "payload") ms))
    (required as_str (codes "id") ms)

abbrev pub complete_form : Members → Option ClientMessage
complete_form ms = option_map Complete (required as_str (codes "id") ms)

-- a message whose payload is optional and says nothing
abbrev pub bare_form : ClientMessage → Members → Option ClientMessage
bare_form message ms = option_map (λ payload. message) (optional an_object (codes "payload") ms)

-- the form of each type; other keys are ignored
abbrev pub form_of : List ℕ → Members → Option ClientMessage
form_of type_name ms =
    if bytes_eq type_name (codes "connection_init") then init_form ms
    else if bytes_eq type_name (codes "subscribe") then subscribe_form ms
    else if bytes_eq type_name (codes "complete") then complete_form ms
    else if bytes_eq type_name (codes "ping") then bare_form Ping ms
    else if bytes_eq type_name (codes "pong") then bare_form Pong ms
    else None

abbrev pub form_by_type : Members → Option ClientMessage
form_by_type ms = option_and_then (λ type_name. form_of type_name ms) (required as_str (codes "type") ms)

abbrev pub message_of : Option Data → ClientMessage
message_of d = unwrap_or (option_and_then form_by_type (option_and_then as_object d)) Bad

-- the most bytes that a message has
abbrev pub most_bytes : ℕ
most_bytes = 1048576

-- the client's message that a text is
abbrev pub message : List ℕ → ClientMessage
message text = if nat_lt most_bytes (length text) then Bad else message_of (read text)
