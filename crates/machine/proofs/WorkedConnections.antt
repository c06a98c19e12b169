-- Worked runs of connections: phases and closes, messages that change nothing, queues, secrets, and refused requests.
use Rattle.std.proofs.Common.{◌≡◌, ℕ, zero, suc, [], ◌∷◌, ◌++◌, length, Option, Some, None, Err, refl}
use Rattle.std.specs.Prelude.{codes}
use Rattle.std.specs.Fmt.{digits}
use Rattle.json.specs.Print.{escape_byte}
use Rattle.serde_json.specs.Data.{Data, string, object, Members, no_members, member}
use Rattle.scalar_val.specs.declared.val.Val.TheVariants as val
use Rattle.role_model.specs.declared.metadata.Metadata.{Metadata}
use Rattle.request_model.specs.Strings.{Text}
use Rattle.query_model.specs.Admission.{syntax_at}
use Rattle.wire_model.specs.declared.close.CloseReason.TheVariants.{
  Invalid,
  Unauthorized,
  Forbidden,
  InitTimeout,
  TooManyInits,
  Exists,
}
use Rattle.wire_model.specs.CloseReasons.{exists_text, close_exists, reason}
use Rattle.machine.specs.Messages.{Init, Subscribe, Complete, Ping, Pong, Bad}
use Rattle.machine.specs.State.{
  State,
  Connection,
  Phase,
  Fresh,
  Acknowledged,
  Closed,
  Subscription,
  opening,
  Event,
  Connect,
  Receive,
  Binary,
  Timeout,
  Gone,
  Drain,
  Report,
  Skip,
}
use Rattle.machine.proofs.Samples.{
  users,
  all_users,
  live,
  init,
  subscribes,
  Leads,
  connection,
  subscribed,
  ended,
  at_rest,
  ack,
  says,
}
use Rattle.machine.proofs.Selections.{users_admitted, first, asked}

-- a connection with an empty queue
abbrev in_phase : ℕ → Phase → Connection
in_phase c phase = record { number = c; phase = phase; queue = [] }

-- A live id again closes the connection, which then ignores what comes. Its queue is drained as before, and then the
-- close is told, until it is gone.
live_id : Leads users asked
    (subscribes 1 (codes "a") all_users ∷ subscribes 1 (codes "b") all_users ∷ Report ∷ Drain 1 ∷ Drain 1 ∷ Drain 1
    ∷ Gone 1 ∷ Drain 1 ∷ [])
    (at_rest [] [] (ended first ∷ []) 0)
    (codes "recv 1\n! 1 4409 \"Subscriber for a already exists\"\nrecv 1\n"
    ++ codes "report connections 1 live 0 due 0 jobs 0 version 0\n"
    ++ codes "sent 1 {\"type\":\"connection_ack\"}\ndone 1 4409 \"Subscriber for a already exists\"\n"
    ++ codes "done 1 4409 \"Subscriber for a already exists\"\ngone 1\nunknown 1\n")
unfolding digits escape_byte exists_text
live_id = record { is = refl }

-- so many letters
abbrev letters : ℕ → Text
letters zero = []
letters (suc n) = 97 ∷ letters n

-- a reason ends before the character that doesn't fit as a whole
reason_is_cut : reason (close_exists (letters 107 ++ 195 ∷ 169 ∷ 122 ∷ [])) ≡ codes "Subscriber for " ++ letters 107
unfolding exists_text
reason_is_cut = refl

reason_is_full : length (reason (close_exists (letters 106 ++ 195 ∷ 169 ∷ 122 ∷ []))) ≡ 123
unfolding exists_text
reason_is_full = refl

-- What a fresh connection closes on: a subscribe, bad and binary messages, and a timeout. Connections stand in the
-- order of their numbers, whatever the order in which they were opened.
fresh_closes : Leads users opening
    (Connect 4 ∷ Connect 2 ∷ Connect 3 ∷ Connect 1 ∷ subscribes 1 (codes "a") all_users ∷ Receive 2 Bad ∷ Binary 3
    ∷ Timeout 4 ∷ [])
    (at_rest []
    (in_phase 1 (Closed Unauthorized) ∷ in_phase 2 (Closed Invalid) ∷ in_phase 3 (Closed Invalid)
    ∷ in_phase 4 (Closed InitTimeout) ∷ []) [] 0)
    (codes "open 4\nopen 2\nopen 3\nopen 1\nrecv 1\n! 1 4401 \"Unauthorized\"\nrecv 2\n! 2 4400 \"Invalid message\"\n"
    ++ codes "recv 3\n! 3 4400 \"Invalid message\"\ntimeout 4\n! 4 4408 \"Connection initialisation timeout\"\n")
unfolding digits escape_byte
fresh_closes = record { is = refl }

-- what one that is acknowledged closes on: a second init, and bad and binary messages, but no timeout
acknowledged_closes : Leads users opening
    (Connect 1 ∷ init 1 ∷ Timeout 1 ∷ init 1 ∷ Connect 2 ∷ init 2 ∷ Receive 2 Bad ∷ Connect 3 ∷ init 3 ∷ Binary 3 ∷ [])
    (at_rest []
    (record { number = 1; phase = Closed TooManyInits; queue = ack ∷ [] }
    ∷ record { number = 2; phase = Closed Invalid; queue = ack ∷ [] }
    ∷ record { number = 3; phase = Closed Invalid; queue = ack ∷ [] } ∷ []) [] 0)
    (codes "open 1\nrecv 1\n> 1 {\"type\":\"connection_ack\"}\ntimeout 1\nrecv 1\n"
    ++ codes "! 1 4429 \"Too many initialisation requests\"\n"
    ++ codes "open 2\nrecv 2\n> 2 {\"type\":\"connection_ack\"}\nrecv 2\n! 2 4400 \"Invalid message\"\n"
    ++ codes "open 3\nrecv 3\n> 3 {\"type\":\"connection_ack\"}\nrecv 3\n! 3 4400 \"Invalid message\"\n")
unfolding digits escape_byte
acknowledged_closes = record { is = refl }

-- A closed connection ignores each message and timeouts, counts as known, and is drained to its end.
closed_ignores : Leads users opening
    (Connect 1 ∷ Receive 1 Ping ∷ Receive 1 Bad ∷ Receive 1 Bad ∷ Binary 1 ∷ Timeout 1 ∷ init 1 ∷ Receive 1 Ping
    ∷ Receive 1 Pong ∷ Receive 1 (Complete (codes "a")) ∷ subscribes 1 (codes "a") all_users ∷ Connect 1 ∷ Report
    ∷ Drain 1 ∷ Drain 1 ∷ [])
    (at_rest [] (in_phase 1 (Closed Invalid) ∷ []) [] 0)
    (codes "open 1\nrecv 1\n> 1 {\"type\":\"pong\"}\nrecv 1\n! 1 4400 \"Invalid message\"\nrecv 1\nrecv 1\ntimeout 1\n"
    ++ codes "recv 1\nrecv 1\nrecv 1\nrecv 1\nrecv 1\nknown 1\nreport connections 1 live 0 due 0 jobs 0 version 0\n"
    ++ codes "sent 1 {\"type\":\"pong\"}\ndone 1 4400 \"Invalid message\"\n")
unfolding digits escape_byte
closed_ignores = record { is = refl }

-- events on connections that aren't known change nothing
unknown_connections : Leads users opening
    (Receive 2 Ping ∷ Receive 2 Bad ∷ init 2 ∷ Binary 2 ∷ Timeout 2 ∷ Gone 2 ∷ Drain 2 ∷ Connect 1 ∷ Gone 1
    ∷ Receive 1 Ping
    ∷ Drain 1 ∷ Gone 1 ∷ Skip ∷ []) opening
    (codes "unknown 2\nunknown 2\nunknown 2\nunknown 2\nunknown 2\nunknown 2\nunknown 2\nopen 1\ngone 1\nunknown 1\n"
    ++ codes "unknown 1\n"
    ++ codes "unknown 1\nskip\n")
unfolding digits
unknown_connections = record { is = refl }

-- a ping is answered before an init too, and neither a pong nor a `complete` of no live id is
ping : Leads users opening
    (Connect 1 ∷ Receive 1 Ping ∷ Receive 1 Pong ∷ Receive 1 (Complete (codes "a")) ∷ Drain 1 ∷ Drain 1 ∷ init 1
    ∷ Receive 1 Ping
    ∷ Receive 1 Pong ∷ Receive 1 (Complete []) ∷ Drain 1 ∷ Drain 1 ∷ Drain 1 ∷ Gone 1 ∷ []) opening
    (codes "open 1\nrecv 1\n> 1 {\"type\":\"pong\"}\nrecv 1\nrecv 1\nsent 1 {\"type\":\"pong\"}\nempty 1\n"
    ++ codes "recv 1\n> 1 {\"type\":\"connection_ack\"}\nrecv 1\n> 1 {\"type\":\"pong\"}\nrecv 1\nrecv 1\n"
    ++ codes "sent 1 {\"type\":\"connection_ack\"}\nsent 1 {\"type\":\"pong\"}\nempty 1\ngone 1\n")
unfolding digits
ping = record { is = refl }

-- the end of a connection drops its queue and ends its subscriptions, and its number may come again
gone : Leads users asked (Receive 1 (Complete (codes "b")) ∷ Report ∷ Gone 1 ∷ Report ∷ Connect 1 ∷ Drain 1 ∷ [])
    (at_rest [] (in_phase 1 Fresh ∷ []) (ended first ∷ []) 0)
    (codes "recv 1\nreport connections 1 live 1 due 0 jobs 0 version 0\ngone 1\n"
    ++ codes "report connections 0 live 0 due 0 jobs 0 version 0\nopen 1\nempty 1\n")
unfolding digits
gone = record { is = refl }

-- ---- one id on two connections

abbrev of_two : Subscription → State
of_two sub = at_rest [] (connection 1 (ack ∷ []) ∷ connection 2 (ack ∷ []) ∷ [])
    (sub ∷ subscribed 2 2 (codes "a") (live all_users) val.Null ∷ []) 0

-- it is two subscriptions
same_id : Leads users asked (Connect 2 ∷ init 2 ∷ subscribes 2 (codes "a") all_users ∷ []) (of_two first)
    (codes "open 2\nrecv 2\n> 2 {\"type\":\"connection_ack\"}\nrecv 2\n")
unfolding digits
same_id = record { is = simp users_admitted }

-- and `complete` ends that of its own connection
completes_own : Leads users (of_two first)
    (Receive 1 (Complete (codes "a")) ∷ Receive 1 (Complete (codes "a")) ∷ Report ∷ []) (of_two (ended first))
    (codes "recv 1\nrecv 1\nreport connections 2 live 1 due 0 jobs 0 version 0\n")
unfolding digits
completes_own = record { is = refl }

-- ---- secrets

abbrev headers : Members → Option Data
headers ms = Some (object (member (codes "headers") (object ms) no_members))

abbrev with_secret : Text → Event
with_secret secret = Receive 1 (Init (headers
    (member (codes "X-Hasura-Admin-Secret") (string secret)
    (member (codes "x-hasura-role") (string (codes "reader")) no_members))))

abbrev secret_is : Option Text → Metadata
secret_is role = record users { secret = Some (codes "s"); unauthorized_role = role }

-- without the secret a client is refused, or has the role of the unauthorized and no variables
wrong_secret : Leads (secret_is None) opening (Connect 1 ∷ with_secret (codes "t") ∷ [])
    (at_rest [] (in_phase 1 (Closed Forbidden) ∷ []) [] 0) (codes "open 1\nrecv 1\n! 1 4403 \"Forbidden\"\n")
unfolding digits escape_byte
wrong_secret = record { is = refl }

unauthorized : Leads (secret_is (Some (codes "public"))) opening (Connect 1 ∷ with_secret (codes "t") ∷ Drain 1 ∷ [])
    (at_rest [] (in_phase 1 (Acknowledged (record { role = codes "public"; vars = [] })) ∷ []) [] 0)
    (codes "open 1\nrecv 1\n> 1 {\"type\":\"connection_ack\"}\nsent 1 {\"type\":\"connection_ack\"}\n")
unfolding digits
unauthorized = record { is = refl }

-- the secret is no session variable
right_secret : Leads (secret_is None) opening (Connect 1 ∷ with_secret (codes "s") ∷ Drain 1 ∷ [])
    (at_rest []
    (in_phase 1 (Acknowledged (record { role = codes "reader"; vars = (codes "x-hasura-role", codes "reader") ∷ [] }))
    ∷ []) [] 0)
    (codes "open 1\nrecv 1\n> 1 {\"type\":\"connection_ack\"}\nsent 1 {\"type\":\"connection_ack\"}\n")
unfolding digits
right_secret = record { is = refl }

-- ---- refused requests

abbrev syntax_text : Text
syntax_text =
    codes "{\"type\":\"error\",\"id\":\"h\",\"payload\":[{\"message\":\"syntax error at byte 27\","
    ++ codes "\"extensions\":{\"code\":\"Syntax\"}}]}"

-- a request whose text is at fault is answered by its error, and subscribes nothing
syntax : Leads users (at_rest [] (connection 1 [] ∷ []) [] 0)
    (Receive 1 (Subscribe (codes "h") (record { selection = Err (syntax_at 27); values = no_members })) ∷ Drain 1
    ∷ Report ∷ []) (at_rest [] (connection 1 [] ∷ []) [] 0)
    (codes "recv 1\n" ++ says 1 syntax_text ++ codes "sent 1 " ++ syntax_text
    ++ codes "\nreport connections 1 live 0 due 0 jobs 0 version 0\n")
unfolding digits escape_byte
syntax = record { is = refl }

-- under a live id it closes all the same
bad_under_live_id : Leads users asked
    (Receive 1 (Subscribe (codes "a") (record { selection = Err (syntax_at 27); values = no_members })) ∷ [])
    (at_rest []
    (record { number = 1; phase = Closed (Exists (codes "Subscriber for a already exists")); queue = ack ∷ [] } ∷ [])
    (ended first ∷ []) 0)
    (codes "recv 1\n! 1 4409 \"Subscriber for a already exists\"\n")
unfolding digits escape_byte exists_text
bad_under_live_id = record { is = refl }
