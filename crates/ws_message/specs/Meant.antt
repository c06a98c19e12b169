-- The messages that the code's values are.
use Rattle.std.specs.Prelude.{option_map}
use Rattle.serde_json.specs.View.{view}
use Rattle.json_out.specs.declared.data.Request.{Request}
use Rattle.wire_model.specs.ClientMessages as client
use Rattle.ws_message.specs.declared.client.ClientMsg.{ClientMsg}
use Rattle.ws_message.specs.declared.client.ClientMsg.TheVariants as msg

abbrev pub request_meant : Request → client.Request
request_meant r = record { query = r.query; operation = r.operation; variables = view r.variables }

abbrev pub meant : ClientMsg → client.ClientMessage
meant (msg.Init payload) = client.Init (option_map view payload)
meant (msg.Subscribe id request) = client.Subscribe id (request_meant request)
meant (msg.Complete id) = client.Complete id
meant msg.Ping = client.Ping
meant msg.Pong = client.Pong
meant msg.Bad = client.Bad
