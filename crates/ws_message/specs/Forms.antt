-- What the reading of a client's message goes by: its type, and the members of an object of which one was taken out.
use Rattle.std.specs.Prelude.{◌≡◌, ℕ, false, if◌then◌else◌, List, codes, Option, Some, None, option_and_then}
use Rattle.std.specs.Str.{bytes_eq}
use Rattle.serde_json.specs.Data.{Members}
use Rattle.serde_json.specs.Find.{as_str, get_member}
use Rattle.wire_model.specs.ClientMessages as client
use Rattle.data_model.specs.JsonParts.{required}
use Rattle.wire_model.specs.ClientMessages.{
  ClientMessage,
  init_form,
  subscribe_form,
  complete_form,
  bare_form,
}
use Rattle.ws_message.specs.declared.client.Kind.{Kind}
use Rattle.ws_message.specs.declared.client.Kind.TheVariants as kind

abbrev pub kind_named : List ℕ → Option Kind
kind_named name =
    if bytes_eq name (codes "connection_init") then Some kind.Init
    else if bytes_eq name (codes "subscribe") then Some kind.Subscribe
    else if bytes_eq name (codes "complete") then Some kind.Complete
    else if bytes_eq name (codes "ping") then Some kind.Ping
    else if bytes_eq name (codes "pong") then Some kind.Pong
    else None

-- the type of the message that an object is
abbrev pub kind_found : Members → Option Kind
kind_found ms = option_and_then kind_named (required as_str (codes "type") ms)

-- the form of each type
abbrev pub form_of_kind : Kind → Members → Option ClientMessage
form_of_kind kind.Init ms = init_form ms
form_of_kind kind.Subscribe ms = subscribe_form ms
form_of_kind kind.Complete ms = complete_form ms
form_of_kind kind.Ping ms = bare_form client.Ping ms
form_of_kind kind.Pong ms = bare_form client.Pong ms

-- every key but one has the value that it had
abbrev pub KeepsOthers : List ℕ → Members → Members → Type 0
KeepsOthers name old new = (key : List ℕ) → bytes_eq key name ≡ false → get_member key new ≡ get_member key old
