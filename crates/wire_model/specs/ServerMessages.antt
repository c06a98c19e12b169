-- What servers send: the messages of the `graphql-transport-ws` protocol, each with its one text. The order of their
-- keys, `pong` without a payload, and `error` with one fault and its code are this project's own.
use Rattle.std.specs.Prelude.{ℕ, List, ◌++◌, codes}
use Rattle.json.specs.Print.{quoted}
use Rattle.wire_model.specs.declared.server.ServerMsg.{ServerMsg}
use Rattle.wire_model.specs.declared.server.ServerMsg.TheVariants.{Ack, Pong, Next, Error, Complete}

abbrev pub ack_text : List ℕ
ack_text = codes "{\"type\":\"connection_ack\"}"

abbrev pub pong_text : List ℕ
pong_text = codes "{\"type\":\"pong\"}"

-- the payload is a JSON text
abbrev pub next_text : List ℕ → List ℕ → List ℕ
next_text id payload = codes "{\"type\":\"next\",\"id\":" ++ quoted id ++ codes ",\"payload\":" ++ payload ++ codes "}"

abbrev pub complete_text : List ℕ → List ℕ
complete_text id = codes "{\"type\":\"complete\",\"id\":" ++ quoted id ++ codes "}"

abbrev pub error_text : List ℕ → List ℕ → List ℕ → List ℕ
error_text id message code =
    codes "{\"type\":\"error\",\"id\":" ++ quoted id
    ++ codes ",\"payload\":[{\"message\":" ++ quoted message
    ++ codes ",\"extensions\":{\"code\":" ++ quoted code ++ codes "}}]}"

-- the one text of a server's message
abbrev pub written : ServerMsg → List ℕ
written Ack = ack_text
written Pong = pong_text
written (Next id payload) = next_text id.now payload.now
written (Error id message code) = error_text id.now message.now code.now
written (Complete id) = complete_text id.now
