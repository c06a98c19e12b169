-- Worked runs of one live query: a first result, changes, commits and newcomers in flight, and an abandoned job.
use Rattle.std.proofs.Common.{ℕ, List, [], ◌∷◌, ◌++◌, pos, refl}
use Rattle.std.specs.Prelude.{codes}
use Rattle.std.specs.Fmt.{digits}
use Rattle.json.specs.Print.{escape_byte}
use Rattle.scalar_val.specs.declared.val.Val.TheVariants as val
use Rattle.data_model.specs.declared.transaction.TxChange.{TxChange}
use Rattle.data_model.specs.declared.transaction.TxChange.TheVariants.{Insert, Update}
use Rattle.plan_model.proofs.Truths.{truths}
use Rattle.request_model.specs.Strings.{Text}
use Rattle.query_model.proofs.QueryRules.{queries}
use Rattle.machine.specs.Messages.{Complete}
use Rattle.machine.specs.State.{State, Subscription, opening, Event, Receive, Commit, Tick, Take, Publish, Abandon}
use Rattle.machine.proofs.Samples.{
  users,
  all_users,
  live,
  subscribes,
  polls,
  cell,
  Leads,
  ◌then◌,
  connection,
  subscribed,
  ended,
  last_told,
  at_rest,
  ack,
  next,
  says,
}
use Rattle.machine.proofs.Selections.{users_admitted, users_polled, start, first, asked, started}

abbrev no_users : Text
no_users = codes "{\"user\":[]}"

abbrev ann : Text
ann = codes "{\"user\":[{\"id\":1,\"name\":\"Ann\"}]}"

abbrev payload : Text → Text
payload value = codes "{\"data\":" ++ value ++ codes "}"

-- users in the table, what the connection was told, and the first subscription
abbrev going : List (List TxChange) → List Text → Subscription → ℕ → State
going transactions queue sub jobs = at_rest transactions (connection 1 (ack ∷ queue) ∷ []) (sub ∷ []) jobs

abbrev none_told : Text
none_told = next (codes "a") no_users

abbrev ann_told : Text
ann_told = next (codes "a") ann

first_poll : Leads users asked (polls 1) (going [] (none_told ∷ []) (last_told (payload no_users) first) 1)
    (codes "tick 1\njob 1 version 0 cohorts 1 members 1\npublished 1 version 0\n" ++ says 1 none_told)
unfolding digits escape_byte
first_poll = record { is = simp (users_polled, queries) }

same_poll : Leads users (going [] (none_told ∷ []) (last_told (payload no_users) first) 1) (polls 2)
    (going [] (none_told ∷ []) (last_told (payload no_users) first) 2)
    (codes "tick 1\njob 2 version 0 cohorts 1 members 1\npublished 2 version 0\n")
unfolding digits escape_byte
same_poll = record { is = simp (users_polled, queries) }

-- an empty table is a first result, and a result that didn't change isn't told
no_change : Leads users opening (start ++ polls 1 ++ polls 2)
    (going [] (none_told ∷ []) (last_told (payload no_users) first) 2)
    (codes "open 1\nrecv 1\n> 1 {\"type\":\"connection_ack\"}\nrecv 1\n"
    ++ codes "tick 1\njob 1 version 0 cohorts 1 members 1\npublished 1 version 0\n"
    ++ codes "> 1 {\"type\":\"next\",\"id\":\"a\",\"payload\":{\"data\":{\"user\":[]}}}\n"
    ++ codes "tick 1\njob 2 version 0 cohorts 1 members 1\npublished 2 version 0\n")
unfolding digits
no_change = started then first_poll then same_poll

-- ---- a change, and a change back

abbrev inserted : List TxChange
inserted =
    Insert (codes "user") (cell (codes "id") (val.Big (pos 1)) ∷ cell (codes "name") (val.Text (codes "Ann")) ∷ []) ∷ []

abbrev renamed : Text → List TxChange
renamed name =
    Update (codes "user") (cell (codes "id") (val.Big (pos 1)) ∷ []) (cell (codes "name") (val.Text name) ∷ []) ∷ []

change : Leads users (going [] (none_told ∷ []) (last_told (payload no_users) first) 1) (Commit inserted ∷ polls 2)
    (going (inserted ∷ []) (none_told ∷ ann_told ∷ []) (last_told (payload ann) first) 2)
    (codes "commit 1\ntick 1\njob 2 version 1 cohorts 1 members 1\npublished 2 version 1\n" ++ says 1 ann_told)
unfolding digits escape_byte
change = record { is = simp (users_polled, queries, truths) }

abbrev renames : List Event
renames = Commit (renamed (codes "Bo")) ∷ Commit (renamed (codes "Ann")) ∷ []

abbrev three : List (List TxChange)
three = inserted ∷ renamed (codes "Bo") ∷ renamed (codes "Ann") ∷ []

back : Leads users (going (inserted ∷ []) (none_told ∷ ann_told ∷ []) (last_told (payload ann) first) 2) renames
    (going three (none_told ∷ ann_told ∷ []) (last_told (payload ann) first) 2) (codes "commit 2\ncommit 3\n")
unfolding digits
back = record { is = refl }

after_back : Leads users (going three (none_told ∷ ann_told ∷ []) (last_told (payload ann) first) 2) (polls 3)
    (going three (none_told ∷ ann_told ∷ []) (last_told (payload ann) first) 3)
    (codes "tick 1\njob 3 version 3 cohorts 1 members 1\npublished 3 version 3\n")
unfolding digits escape_byte
after_back = record { is = simp (users_polled, queries, truths) }

-- a change is told, and one that was taken back between two polls isn't
change_back : Leads users opening (start ++ polls 1 ++ (Commit inserted ∷ polls 2) ++ renames ++ polls 3)
    (going three (none_told ∷ ann_told ∷ []) (last_told (payload ann) first) 3)
    (codes "open 1\nrecv 1\n> 1 {\"type\":\"connection_ack\"}\nrecv 1\n"
    ++ codes "tick 1\njob 1 version 0 cohorts 1 members 1\npublished 1 version 0\n"
    ++ codes "> 1 {\"type\":\"next\",\"id\":\"a\",\"payload\":{\"data\":{\"user\":[]}}}\n"
    ++ codes "commit 1\ntick 1\njob 2 version 1 cohorts 1 members 1\npublished 2 version 1\n"
    ++ codes "> 1 {\"type\":\"next\",\"id\":\"a\",\"payload\":{\"data\":{\"user\":[{\"id\":1,\"name\":\"Ann\"}]}}}\n"
    ++ codes "commit 2\ncommit 3\ntick 1\njob 3 version 3 cohorts 1 members 1\npublished 3 version 3\n")
unfolding digits
change_back = started then first_poll then change then back then after_back

-- ---- with a job in flight

abbrev late : List Event
late = Tick ∷ Take ∷ Commit inserted ∷ Publish 1 ∷ []

in_flight : Leads users asked late (going (inserted ∷ []) (none_told ∷ []) (last_told (payload no_users) first) 1)
    (codes "tick 1\njob 1 version 0 cohorts 1 members 1\ncommit 1\npublished 1 version 0\n" ++ says 1 none_told)
unfolding digits escape_byte
in_flight = record { is = simp (users_polled, queries) }

after_flight : Leads users (going (inserted ∷ []) (none_told ∷ []) (last_told (payload no_users) first) 1) (polls 2)
    (going (inserted ∷ []) (none_told ∷ ann_told ∷ []) (last_told (payload ann) first) 2)
    (codes "tick 1\njob 2 version 1 cohorts 1 members 1\npublished 2 version 1\n" ++ says 1 ann_told)
unfolding digits escape_byte
after_flight = record { is = simp (users_polled, queries, truths) }

-- a job is published on the database of its version, whatever was committed since it was taken
commit_in_flight : Leads users opening (start ++ late ++ polls 2)
    (going (inserted ∷ []) (none_told ∷ ann_told ∷ []) (last_told (payload ann) first) 2)
    (codes "open 1\nrecv 1\n> 1 {\"type\":\"connection_ack\"}\nrecv 1\n"
    ++ codes "tick 1\njob 1 version 0 cohorts 1 members 1\ncommit 1\npublished 1 version 0\n"
    ++ codes "> 1 {\"type\":\"next\",\"id\":\"a\",\"payload\":{\"data\":{\"user\":[]}}}\n"
    ++ codes "tick 1\njob 2 version 1 cohorts 1 members 1\npublished 2 version 1\n"
    ++ codes "> 1 {\"type\":\"next\",\"id\":\"a\",\"payload\":{\"data\":{\"user\":[{\"id\":1,\"name\":\"Ann\"}]}}}\n")
unfolding digits
commit_in_flight = started then in_flight then after_flight

-- another subscription of the same query
abbrev second : Text → Subscription
second id = subscribed 2 1 id (live all_users) val.Null

abbrev two : List Text → Subscription → Subscription → ℕ → State
two queue one other jobs = at_rest [] (connection 1 (ack ∷ queue) ∷ []) (one ∷ other ∷ []) jobs

abbrev anew : List Event
anew = Tick ∷ Take ∷ Receive 1 (Complete (codes "a")) ∷ subscribes 1 (codes "a") all_users ∷ Tick ∷ Publish 1 ∷ []

anew_in_flight : Leads users asked anew (two [] (ended first) (second (codes "a")) 1)
    (codes "tick 1\njob 1 version 0 cohorts 1 members 1\nrecv 1\nrecv 1\ntick 0\npublished 1 version 0\n")
unfolding digits escape_byte
anew_in_flight = record { is = simp (users_admitted, users_polled) }

after_anew : Leads users (two [] (ended first) (second (codes "a")) 1) (polls 2)
    (two (none_told ∷ []) (ended first) (last_told (payload no_users) (second (codes "a"))) 2)
    (codes "tick 1\njob 2 version 0 cohorts 1 members 1\npublished 2 version 0\n" ++ says 1 none_told)
unfolding digits escape_byte
after_anew = record { is = simp (users_polled, queries) }

-- a subscription with an id that was completed is another one, and isn't told the result of the job in flight
same_id_again_in_flight : Leads users opening (start ++ anew ++ polls 2)
    (two (none_told ∷ []) (ended first) (last_told (payload no_users) (second (codes "a"))) 2)
    (codes "open 1\nrecv 1\n> 1 {\"type\":\"connection_ack\"}\nrecv 1\n"
    ++ codes "tick 1\njob 1 version 0 cohorts 1 members 1\nrecv 1\nrecv 1\ntick 0\npublished 1 version 0\n"
    ++ codes "tick 1\njob 2 version 0 cohorts 1 members 1\npublished 2 version 0\n"
    ++ codes "> 1 {\"type\":\"next\",\"id\":\"a\",\"payload\":{\"data\":{\"user\":[]}}}\n")
unfolding digits
same_id_again_in_flight = started then anew_in_flight then after_anew

abbrev joins : List Event
joins = Tick ∷ Take ∷ subscribes 1 (codes "b") all_users ∷ Tick ∷ Publish 1 ∷ []

joins_in_flight : Leads users asked joins
    (two (none_told ∷ []) (last_told (payload no_users) first) (second (codes "b")) 1)
    (codes "tick 1\njob 1 version 0 cohorts 1 members 1\nrecv 1\ntick 0\npublished 1 version 0\n" ++ says 1 none_told)
unfolding digits escape_byte
joins_in_flight = record { is = simp (users_polled, queries) }

after_joining : Leads users (two (none_told ∷ []) (last_told (payload no_users) first) (second (codes "b")) 1) (polls 2)
    (two (none_told ∷ next (codes "b") no_users ∷ []) (last_told (payload no_users) first)
    (last_told (payload no_users) (second (codes "b"))) 2)
    (codes "tick 2\njob 2 version 0 cohorts 1 members 2\npublished 2 version 0\n" ++ says 1 (next (codes "b") no_users))
unfolding digits escape_byte
after_joining = record { is = simp (users_polled, queries) }

-- a newcomer to a cohort in flight has its first result with the next job
newcomer_in_flight : Leads users opening (start ++ joins ++ polls 2)
    (two (none_told ∷ next (codes "b") no_users ∷ []) (last_told (payload no_users) first)
    (last_told (payload no_users) (second (codes "b"))) 2)
    (codes "open 1\nrecv 1\n> 1 {\"type\":\"connection_ack\"}\nrecv 1\n"
    ++ codes "tick 1\njob 1 version 0 cohorts 1 members 1\nrecv 1\ntick 0\npublished 1 version 0\n"
    ++ codes "> 1 {\"type\":\"next\",\"id\":\"a\",\"payload\":{\"data\":{\"user\":[]}}}\n"
    ++ codes "tick 2\njob 2 version 0 cohorts 1 members 2\npublished 2 version 0\n"
    ++ codes "> 1 {\"type\":\"next\",\"id\":\"b\",\"payload\":{\"data\":{\"user\":[]}}}\n")
unfolding digits
newcomer_in_flight = started then joins_in_flight then after_joining

-- ---- an abandoned job: its members are due again

abbrev abandons : List Event
abandons = Tick ∷ Take ∷ Abandon 1 ∷ Take ∷ Publish 1 ∷ Publish 2 ∷ Take ∷ []

abandoned_job : Leads users asked abandons (going [] (none_told ∷ []) (last_told (payload no_users) first) 2)
    (codes "tick 1\njob 1 version 0 cohorts 1 members 1\nabandoned 1\njob 2 version 0 cohorts 1 members 1\n"
    ++ codes "not open 1\npublished 2 version 0\n" ++ says 1 none_told ++ codes "none\n")
unfolding digits escape_byte
abandoned_job = record { is = simp (users_polled, queries) }
