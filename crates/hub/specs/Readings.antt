-- What clients' texts say, as values of the code. This project's own.
use Rattle.std.specs.Prelude.{[], Option, Some, None, Result, Ok, Err}
use Rattle.std.specs.Option.{option_map}
use Rattle.serde_json.specs.View.{view}
use Rattle.json_out.specs.declared.data.Request.{Request}
use Rattle.request_model.specs.declared.flat.Flat.{Flat}
use Rattle.request_model.specs.Selection.{given_values}
use Rattle.query_model.specs.declared.fault.QueryFault.{QueryFault}
use Rattle.query_model.specs.declared.fault.FaultKind.TheVariants as fault
use Rattle.query_model.specs.Refusals.{refusal}
use Rattle.query_model.specs.Selecting.{Selects}
use Rattle.ws_message.specs.declared.client.ClientMsg.{ClientMsg}
use Rattle.ws_message.specs.declared.client.ClientMsg.TheVariants as told
use Rattle.machine.specs.Messages.{Message, Init, Subscribe, Complete, Ping, Pong, Bad}
use Rattle.hub.specs.declared.reading.Selection.{Selection}
use Rattle.hub.specs.declared.reading.Selection.TheVariants.{Selected, Refused}

abbrev pub selected : Selection → Result Flat QueryFault
selected (Selected flat) = Ok flat
selected (Refused fault) = Err fault

-- a request is read so
abbrev pub ReadsRequest : Request → Selection → Type 0
ReadsRequest request s = Selects request.query request.operation (given_values (view request.variables)) (selected s)

abbrev pub ReadsIt : Request → Option Selection → Type 0
ReadsIt request (Some s) = ReadsRequest request s
ReadsIt request None = ⊥

-- where a message has a request, it is read so
abbrev pub IsReadAs : ClientMsg → Option Selection → Type 0
IsReadAs (told.Init payload) s = Unit {0}
IsReadAs (told.Subscribe id request) s = ReadsIt request s
IsReadAs (told.Complete id) s = Unit {0}
IsReadAs told.Ping s = Unit {0}
IsReadAs told.Pong s = Unit {0}
IsReadAs told.Bad s = Unit {0}

-- there is one where the message has a request
abbrev pub selected_in : Option Selection → Result Flat QueryFault
selected_in (Some s) = selected s
selected_in None = Err (refusal fault.Syntax [])

abbrev pub said_of : ClientMsg → Option Selection → Message
said_of (told.Init payload) s = Init (option_map view payload)
said_of (told.Subscribe id request) s =
    Subscribe id (record { selection = selected_in s; values = given_values (view request.variables) })
said_of (told.Complete id) s = Complete id
said_of told.Ping s = Ping
said_of told.Pong s = Pong
said_of told.Bad s = Bad
