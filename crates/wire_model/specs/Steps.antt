-- What the events of a connection ask of the server, by its phase (the `graphql-transport-ws` protocol).
use Rattle.std.specs.Prelude.{ℕ, Bool, List, if◌then◌else◌, Option, Some, None}
use Rattle.wire_model.specs.ClientMessages.{ClientMessage, Init, Subscribe, Complete, Ping, Pong, Bad}
use Rattle.wire_model.specs.CloseReasons.{close_exists}
use Rattle.wire_model.specs.declared.close.CloseReason.{CloseReason}
use Rattle.wire_model.specs.declared.close.CloseReason.TheVariants as close
use Rattle.wire_model.specs.declared.step.Phase.{Phase}
use Rattle.wire_model.specs.declared.step.Phase.TheVariants.{Fresh, Acked, Closed}
use Rattle.wire_model.specs.declared.step.Action.{Action}
use Rattle.wire_model.specs.declared.step.Action.TheVariants as act

abbrev pub on_fresh : ClientMessage → Action
on_fresh (Init payload) = act.Identify
on_fresh (Subscribe id request) = act.Unauthorized
on_fresh (Complete id) = act.Ignore
on_fresh Ping = act.Pong
on_fresh Pong = act.Ignore
on_fresh Bad = act.Invalid

-- `live`: the message's id is that of a live subscription of the connection
abbrev pub on_acked : ClientMessage → Bool → Action
on_acked (Init payload) live = act.TooManyInits
on_acked (Subscribe id request) live = if live then act.Exists else act.Admit
on_acked (Complete id) live = if live then act.End else act.Ignore
on_acked Ping live = act.Pong
on_acked Pong live = act.Ignore
on_acked Bad live = act.Invalid

-- what a message asks for; a binary message is a bad one
abbrev pub action : Phase → ClientMessage → Bool → Action
action Fresh message live = on_fresh message
action Acked message live = on_acked message live
action Closed message live = act.Ignore

-- the reason of the close that an action is, if it is one; `id` is that of the message
abbrev pub closes_with : List ℕ → Action → Option CloseReason
closes_with id act.Invalid = Some close.Invalid
closes_with id act.Unauthorized = Some close.Unauthorized
closes_with id act.Exists = Some (close_exists id)
closes_with id act.TooManyInits = Some close.TooManyInits
closes_with id act.Identify = None
closes_with id act.Admit = None
closes_with id act.End = None
closes_with id act.Pong = None
closes_with id act.Ignore = None

-- no `connection_init` came in time
abbrev pub on_timeout : Phase → Option CloseReason
on_timeout Fresh = Some close.InitTimeout
on_timeout Acked = None
on_timeout Closed = None
