-- Worked rows of the messages of clients and servers, which compute.
use Rattle.std.proofs.Common.{Bor}
use Rattle.std.specs.Prelude.{◌≡◌, ℕ, List, ◌++◌, [], Some, None, refl, replicate, true, codes}
use Rattle.json.specs.Print.{escape_byte}
use Rattle.serde_json.proofs.OnLiterals.{serde_json_on_literals}
use Rattle.serde_json.specs.Data.{null, boolean, string, object, no_members, member}
use Rattle.wire_model.specs.ClientMessages.{Init, Subscribe, Complete, Ping, Pong, Bad, message}
use Rattle.wire_model.specs.declared.server.ServerMsg.TheVariants as server
use Rattle.wire_model.specs.ServerMessages.{written}

-- an init without a payload, and with one that is null
pub bare_init : message (codes "{\"type\":\"connection_init\"}") ≡ Init None
unfolding serde_json_on_literals
bare_init = refl

pub null_payload : message (codes "{\"type\":\"connection_init\",\"payload\":null}") ≡ Init None
unfolding serde_json_on_literals
null_payload = refl

pub init_with_headers :
    message (codes "{\"payload\":{\"headers\":{\"x-hasura-user-id\":\"1\",\"x-hasura-role\":\"reader\"}},\"type\":\"connection_init\"}")
    ≡ Init (Some (object (member (codes "headers") (object (member (codes "x-hasura-role") (string (codes "reader")) (member (codes "x-hasura-user-id") (string (codes "1")) no_members))) no_members)))
unfolding serde_json_on_literals
init_with_headers = refl

pub payload_of_another_type : message (codes "{\"type\":\"connection_init\",\"payload\":1}") ≡ Bad
unfolding serde_json_on_literals
payload_of_another_type = refl

-- all keys, and one that is ignored
pub whole_subscribe :
    message (codes "{\"id\":\"5f1c\",\"type\":\"subscribe\",\"more\":0,\"payload\":{\"operationName\":\"Feed\",\"variables\":{\"withPosts\":true},\"extensions\":{},\"query\":\"{ user { id } }\"}}")
    ≡ Subscribe (codes "5f1c") (record { query = codes "{ user { id } }"; operation = Some (codes "Feed"); variables = object (member (codes "withPosts") (boolean true) no_members) })
unfolding serde_json_on_literals
whole_subscribe = refl

pub short_subscribe :
    message (codes "{\"type\":\"subscribe\",\"id\":\"\",\"payload\":{\"query\":\"\",\"operationName\":null,\"variables\":null}}")
    ≡ Subscribe [] (record { query = []; operation = None; variables = null })
unfolding serde_json_on_literals
short_subscribe = refl

-- the last pair of a key counts
pub repeated_keys : message (codes "{\"type\":\"ping\",\"id\":\"a\",\"id\":\"b\",\"type\":\"complete\"}") ≡ Complete (codes "b")
unfolding serde_json_on_literals
repeated_keys = refl

pub extensions_of_another_type : message (codes "{\"type\":\"subscribe\",\"id\":\"a\",\"payload\":{\"query\":\"\",\"extensions\":[]}}") ≡ Bad
unfolding serde_json_on_literals
extensions_of_another_type = refl

pub variables_of_another_type : message (codes "{\"type\":\"subscribe\",\"id\":\"a\",\"payload\":{\"query\":\"\",\"variables\":\"\"}}") ≡ Bad
unfolding serde_json_on_literals
variables_of_another_type = refl

pub operation_of_another_type : message (codes "{\"type\":\"subscribe\",\"id\":\"a\",\"payload\":{\"query\":\"\",\"operationName\":1}}") ≡ Bad
unfolding serde_json_on_literals
operation_of_another_type = refl

pub subscribe_without_query : message (codes "{\"type\":\"subscribe\",\"id\":\"a\",\"payload\":{}}") ≡ Bad
unfolding serde_json_on_literals
subscribe_without_query = refl

pub subscribe_without_payload : message (codes "{\"type\":\"subscribe\",\"id\":\"a\"}") ≡ Bad
unfolding serde_json_on_literals
subscribe_without_payload = refl

pub id_of_another_type : message (codes "{\"type\":\"complete\",\"id\":1}") ≡ Bad
unfolding serde_json_on_literals
id_of_another_type = refl

pub null_id : message (codes "{\"type\":\"complete\",\"id\":null}") ≡ Bad
unfolding serde_json_on_literals
null_id = refl

pub ping : message (codes " {\"type\":\"ping\"} ") ≡ Ping
unfolding serde_json_on_literals
ping = refl

pub pong : message (codes "{\"type\":\"pong\",\"payload\":{}}") ≡ Pong
unfolding serde_json_on_literals
pong = refl

pub ping_with_a_list : message (codes "{\"type\":\"ping\",\"payload\":[]}") ≡ Bad
unfolding serde_json_on_literals
ping_with_a_list = refl

pub unknown_type : message (codes "{\"type\":\"next\",\"id\":\"a\",\"payload\":{}}") ≡ Bad
unfolding serde_json_on_literals
unknown_type = refl

pub no_type : message (codes "{}") ≡ Bad
unfolding serde_json_on_literals
no_type = refl

pub no_object : message (codes "[]") ≡ Bad
unfolding serde_json_on_literals
no_object = refl

pub no_json : message (codes "hello") ≡ Bad
unfolding serde_json_on_literals
no_json = refl

pub no_text : message [] ≡ Bad
unfolding serde_json_on_literals
no_text = refl

-- an extension that is null is as good as none, and a query or a payload that is null isn't
pub null_extensions : message (codes "{\"type\":\"subscribe\",\"id\":\"a\",\"payload\":{\"query\":\"\",\"extensions\":null}}") ≡ Subscribe (codes "a") (record { query = []; operation = None; variables = null })
unfolding serde_json_on_literals
null_extensions = refl

pub null_query : message (codes "{\"type\":\"subscribe\",\"id\":\"a\",\"payload\":{\"query\":null}}") ≡ Bad
unfolding serde_json_on_literals
null_query = refl

pub null_subscribe : message (codes "{\"type\":\"subscribe\",\"id\":\"a\",\"payload\":null}") ≡ Bad
unfolding serde_json_on_literals
null_subscribe = refl

pub null_ping : message (codes "{\"type\":\"ping\",\"payload\":null}") ≡ Ping
unfolding serde_json_on_literals
null_ping = refl

pub repeated_query : message (codes "{\"type\":\"subscribe\",\"id\":\"a\",\"payload\":{\"query\":\"\",\"query\":1}}") ≡ Bad
unfolding serde_json_on_literals
repeated_query = refl

pub upper_case_type : message (codes "{\"type\":\"PING\"}") ≡ Bad
unfolding serde_json_on_literals
upper_case_type = refl

pub more_behind : message (codes "{\"type\":\"ping\"}x") ≡ Bad
unfolding serde_json_on_literals
more_behind = refl

-- a number that is no 64-bit float, and half of a surrogate pair, are no JSON to `serde_json`
pub great_number : message (codes "{\"type\":\"ping\",\"more\":1e999}") ≡ Bad
unfolding serde_json_on_literals
great_number = refl

pub lone_surrogate : message (codes "{\"type\":\"complete\",\"id\":\"\\ud800\"}") ≡ Bad
unfolding serde_json_on_literals
lone_surrogate = refl

-- values nest at most 127 deep, in keys that are ignored too
pub deepest : message (codes "{\"type\":\"ping\",\"more\":" ++ replicate 126 91 ++ replicate 126 93 ++ codes "}") ≡ Ping
unfolding serde_json_on_literals
deepest = refl

pub too_deep : message (codes "{\"type\":\"ping\",\"more\":" ++ replicate 127 91 ++ replicate 127 93 ++ codes "}") ≡ Bad
unfolding serde_json_on_literals
too_deep = refl

-- the texts of servers; where a message keeps its texts doesn't count
abbrev shown : List ℕ → Bor (List ℕ)
shown text = record { ref_ptr = (0, 0); now = text }

pub acknowledged : written server.Ack ≡ codes "{\"type\":\"connection_ack\"}"
acknowledged = refl

pub answered_ping : written server.Pong ≡ codes "{\"type\":\"pong\"}"
answered_ping = refl

pub next_result : written (server.Next (shown (codes "a")) (shown (codes "{\"data\":{\"user\":[]}}"))) ≡ codes "{\"type\":\"next\",\"id\":\"a\",\"payload\":{\"data\":{\"user\":[]}}}"
unfolding escape_byte
next_result = refl

pub completed : written (server.Complete (shown (codes "q\""))) ≡ codes "{\"type\":\"complete\",\"id\":\"q\\\"\"}"
unfolding escape_byte
completed = refl

pub refused :
    written (server.Error (shown (codes "h")) (shown (codes "no such field: note")) (shown (codes "NoField")))
    ≡ codes "{\"type\":\"error\",\"id\":\"h\",\"payload\":[{\"message\":\"no such field: note\",\"extensions\":{\"code\":\"NoField\"}}]}"
unfolding escape_byte
refused = refl
