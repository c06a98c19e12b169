-- A worked run of streams: two that meet at one cursor are one cohort from then on.
use Rattle.std.proofs.Common.{◌≡◌, ℕ, List, [], ◌∷◌, ◌++◌, map, pos, Ok, refl}
use Rattle.std.specs.Prelude.{codes}
use Rattle.std.specs.Fmt.{digits}
use Rattle.json.specs.Print.{escape_byte}
use Rattle.scalar_val.specs.declared.val.Val.TheVariants as val
use Rattle.data_model.specs.declared.transaction.TxChange.{TxChange}
use Rattle.data_model.specs.declared.transaction.TxChange.TheVariants.{Insert}
use Rattle.data_model.specs.Rows.{Database}
use Rattle.plan_model.proofs.Truths.{truths}
use Rattle.request_model.specs.Strings.{Text}
use Rattle.request_model.proofs.SelectionRules.{canonical_texts}
use Rattle.query_model.specs.Results.{result}
use Rattle.query_model.proofs.QueryRules.{queries}
use Rattle.machine.specs.Publication.{publish_members}
use Rattle.machine.specs.Messages.{Subscribe}
use Rattle.machine.specs.State.{State, Subscription, Event, Receive, Commit, Tick, Take, Publish}
use Rattle.machine.proofs.Samples.{
  users,
  cell,
  Leads,
  ◌then◌,
  connection,
  subscribed,
  at_rest,
  job,
  next,
  says,
  to,
  publishes,
  leads,
}
use Rattle.machine.proofs.Selections.{ids, stream_from, values, users_from, first_stream, second_stream, streams_polled}

-- ---- the stream

abbrev stream : ℕ → Text → ℕ → ℕ → Subscription
stream n id from cursor = subscribed n 1 id (stream_from from) (val.Int (pos cursor))

abbrev streams : Text → ℕ → Event
streams id from = Receive 1 (Subscribe id (record { selection = Ok users_from; values = values (codes "f") from }))

abbrev inserts : ℕ → TxChange
inserts n = Insert (codes "user") (cell (codes "id") (val.Big (pos n)) ∷ [])

abbrev two : List TxChange
two = inserts 1 ∷ inserts 2 ∷ []

abbrev third : List TxChange
third = inserts 3 ∷ []

abbrev two_rows : Text
two_rows = codes "{\"user_stream\":[{\"id\":1},{\"id\":2}]}"

abbrev third_row : Text
third_row = codes "{\"user_stream\":[{\"id\":3}]}"

-- users with these ids, without names
abbrev with_ids : List ℕ → Database
with_ids ids = map (λ n. val.Int (pos n) ∷ val.Null ∷ []) ids ∷ []

-- what the streams give at the cursors and on the databases of the run
both_rows : result users (stream_from 0) (val.Int (pos 0)) (with_ids (1 ∷ 2 ∷ []))
    ≡ record { text = codes "{\"data\":" ++ two_rows ++ codes "}"; rows = 2; last = val.Int (pos 2) }
unfolding digits escape_byte
both_rows = simp (queries, truths, canonical_texts)

no_row : result users (stream_from 2) (val.Int (pos 2)) (with_ids (1 ∷ 2 ∷ []))
    ≡ record { text = codes "{\"data\":{\"user_stream\":[]}}"; rows = 0; last = val.Null }
unfolding digits escape_byte
no_row = simp (queries, truths, canonical_texts)

x_third : result users (stream_from 0) (val.Int (pos 2)) (with_ids (1 ∷ 2 ∷ 3 ∷ []))
    ≡ record { text = codes "{\"data\":" ++ third_row ++ codes "}"; rows = 1; last = val.Int (pos 3) }
unfolding digits escape_byte
x_third = simp (queries, truths, canonical_texts)

y_third : result users (stream_from 2) (val.Int (pos 2)) (with_ids (1 ∷ 2 ∷ 3 ∷ []))
    ≡ record { text = codes "{\"data\":" ++ third_row ++ codes "}"; rows = 1; last = val.Int (pos 3) }
unfolding digits escape_byte
y_third = simp (queries, truths, canonical_texts)

abbrev flowing : List (List TxChange) → List Text → List Subscription → ℕ → State
flowing transactions queue subs jobs = at_rest transactions (connection 1 queue ∷ []) subs jobs

x_in_flight : Leads users (flowing (two ∷ []) [] [] 0) (streams (codes "x") 0 ∷ Tick ∷ Take ∷ [])
    (record (flowing (two ∷ []) [] (stream 1 (codes "x") 0 0 ∷ []) 1) { jobs = job 1 1 (1 ∷ []) ∷ [] })
    (codes "recv 1\ntick 1\njob 1 version 1 cohorts 1 members 1\n")
unfolding digits
x_in_flight = record { is = simp (first_stream, streams_polled) }

y_in_flight : Leads users
    (record (flowing (two ∷ []) [] (stream 1 (codes "x") 0 0 ∷ []) 1) { jobs = job 1 1 (1 ∷ []) ∷ [] })
    (streams (codes "y") 2 ∷ Tick ∷ Take ∷ [])
    (record (flowing (two ∷ []) [] (stream 1 (codes "x") 0 0 ∷ stream 2 (codes "y") 2 2 ∷ []) 2) {
      jobs = job 1 1 (1 ∷ []) ∷ job 2 1 (2 ∷ []) ∷ [];
    })
    (codes "recv 1\ntick 1\njob 2 version 1 cohorts 1 members 1\n")
unfolding digits
y_in_flight = record { is = simp (second_stream, streams_polled) }

x_is_told : Leads users
    (record (flowing (two ∷ []) [] (stream 1 (codes "x") 0 0 ∷ stream 2 (codes "y") 2 2 ∷ []) 2) {
      jobs = job 1 1 (1 ∷ []) ∷ job 2 1 (2 ∷ []) ∷ [];
    })
    (Publish 1 ∷ [])
    (record (flowing (two ∷ []) (next (codes "x") two_rows ∷ [])
    (stream 1 (codes "x") 0 2 ∷ stream 2 (codes "y") 2 2 ∷ []) 2) {
      jobs = job 2 1 (2 ∷ []) ∷ [];
    })
    (codes "published 1 version 1\n" ++ says 1 (next (codes "x") two_rows))
unfolding digits escape_byte
x_is_told = record { is = simp both_rows }

-- where the first stream has come to the second one's cursor, whose job is open
abbrev met : State
met = flowing (two ∷ []) (next (codes "x") two_rows ∷ []) (stream 1 (codes "x") 0 2 ∷ stream 2 (codes "y") 2 2 ∷ []) 2

is_busy : Leads users (record met { jobs = job 2 1 (2 ∷ []) ∷ [] }) (Tick ∷ [])
    (record met { jobs = job 2 1 (2 ∷ []) ∷ [] }) (codes "tick 0\n")
unfolding digits
is_busy = record { is = simp streams_polled }

commits_third : Leads users (record met { jobs = job 2 1 (2 ∷ []) ∷ [] }) (Commit third ∷ [])
    (record met { transactions = two ∷ third ∷ []; jobs = job 2 1 (2 ∷ []) ∷ [] }) (codes "commit 2\n")
unfolding digits
commits_third = record { is = refl }

-- on the database of its job the second one has no row
y_is_told : Leads users (record met { transactions = two ∷ third ∷ []; jobs = job 2 1 (2 ∷ []) ∷ [] }) (Publish 2 ∷ [])
    (record met { transactions = two ∷ third ∷ [] }) (codes "published 2 version 1\n")
unfolding digits escape_byte
y_is_told = record { is = simp no_row }

both_in_flight : Leads users (record met { transactions = two ∷ third ∷ [] }) (Tick ∷ Take ∷ [])
    (record met { transactions = two ∷ third ∷ []; jobs = job 3 2 (1 ∷ 2 ∷ []) ∷ []; jobs_made = 3 })
    (codes "tick 2\njob 3 version 2 cohorts 1 members 2\n")
unfolding digits
both_in_flight = record { is = simp streams_polled }

abbrev third_in_flight : State
third_in_flight = record met { transactions = two ∷ third ∷ []; jobs = job 3 2 (1 ∷ 2 ∷ []) ∷ []; jobs_made = 3 }

both_told : publish_members users (with_ids (1 ∷ 2 ∷ 3 ∷ [])) (job 3 2 (1 ∷ 2 ∷ [])).members third_in_flight ≡ record {
  state = record third_in_flight {
    connections =
        connection 1 (next (codes "x") two_rows ∷ next (codes "x") third_row ∷ next (codes "y") third_row ∷ []) ∷ [];
    subscriptions = stream 1 (codes "x") 0 3 ∷ stream 2 (codes "y") 2 3 ∷ [];
  };
  queued = to 1 (next (codes "x") third_row) ∷ to 1 (next (codes "y") third_row) ∷ [];
  closed = [];
}
unfolding digits escape_byte
both_told = simp (x_third, y_third)

both_are_told : Leads users third_in_flight (Publish 3 ∷ [])
    (flowing (two ∷ third ∷ []) (next (codes "x") two_rows ∷ next (codes "x") third_row ∷ next (codes "y") third_row
    ∷ [])
    (stream 1 (codes "x") 0 3 ∷ stream 2 (codes "y") 2 3 ∷ []) 3)
    (codes "published 3 version 2\n" ++ says 1 (next (codes "x") third_row) ++ says 1 (next (codes "y") third_row))
unfolding digits
both_are_told =
    leads (publishes users third_in_flight 3 (job 3 2 (1 ∷ 2 ∷ [])) (with_ids (1 ∷ 2 ∷ 3 ∷ [])) _ refl refl both_told)

-- Two streams that meet at one cursor are one cohort from then on; while a job of one is in flight, both wait for it.
streams_meet : Leads users (flowing (two ∷ []) [] [] 0)
    ((streams (codes "x") 0 ∷ Tick ∷ Take ∷ []) ++ (streams (codes "y") 2 ∷ Tick ∷ Take ∷ []) ++ (Publish 1 ∷ [])
    ++ (Tick ∷ [])
    ++ (Commit third ∷ []) ++ (Publish 2 ∷ []) ++ (Tick ∷ Take ∷ []) ++ (Publish 3 ∷ []))
    (flowing (two ∷ third ∷ []) (next (codes "x") two_rows ∷ next (codes "x") third_row ∷ next (codes "y") third_row
    ∷ [])
    (stream 1 (codes "x") 0 3 ∷ stream 2 (codes "y") 2 3 ∷ []) 3)
    (codes "recv 1\ntick 1\njob 1 version 1 cohorts 1 members 1\nrecv 1\ntick 1\njob 2 version 1 cohorts 1 members 1\n"
    ++ codes "published 1 version 1\n"
    ++ codes "> 1 {\"type\":\"next\",\"id\":\"x\",\"payload\":{\"data\":{\"user_stream\":[{\"id\":1},{\"id\":2}]}}}\n"
    ++ codes "tick 0\ncommit 2\npublished 2 version 1\ntick 2\njob 3 version 2 cohorts 1 members 2\n"
    ++ codes "published 3 version 2\n"
    ++ codes "> 1 {\"type\":\"next\",\"id\":\"x\",\"payload\":{\"data\":{\"user_stream\":[{\"id\":3}]}}}\n"
    ++ codes "> 1 {\"type\":\"next\",\"id\":\"y\",\"payload\":{\"data\":{\"user_stream\":[{\"id\":3}]}}}\n")
unfolding digits
streams_meet = x_in_flight then y_in_flight then x_is_told then is_busy then commits_third then y_is_told then
    both_in_flight then both_are_told

-- ---- a newcomer in flight

cut_rows : result users (stream_from 0) (val.Int (pos 0)) (with_ids (1 ∷ 2 ∷ 3 ∷ []))
    ≡ record { text = codes "{\"data\":" ++ two_rows ++ codes "}"; rows = 2; last = val.Int (pos 2) }
unfolding digits escape_byte
cut_rows = simp (queries, truths, canonical_texts)

abbrev joined : State
joined = record (flowing (two ∷ third ∷ []) [] (stream 1 (codes "x") 0 0 ∷ stream 2 (codes "z") 0 0 ∷ []) 1) {
  jobs = job 1 2 (1 ∷ []) ∷ [];
}

one_told : publish_members users (with_ids (1 ∷ 2 ∷ 3 ∷ [])) (job 1 2 (1 ∷ [])).members joined ≡ record {
  state = record joined {
    connections = connection 1 (next (codes "x") two_rows ∷ []) ∷ [];
    subscriptions = stream 1 (codes "x") 0 2 ∷ stream 2 (codes "z") 0 0 ∷ [];
  };
  queued = to 1 (next (codes "x") two_rows) ∷ [];
  closed = [];
}
unfolding digits escape_byte
one_told = simp cut_rows

-- A cursor moves to the last row that was told, and not to the table's last. One that joined the cohort after the take
-- doesn't move.
newcomer_stays : Leads users joined (Publish 1 ∷ [])
    (flowing (two ∷ third ∷ []) (next (codes "x") two_rows ∷ [])
    (stream 1 (codes "x") 0 2 ∷ stream 2 (codes "z") 0 0 ∷ []) 1)
    (codes "published 1 version 2\n" ++ says 1 (next (codes "x") two_rows))
unfolding digits
newcomer_stays = leads (publishes users joined 1 (job 1 2 (1 ∷ [])) (with_ids (1 ∷ 2 ∷ 3 ∷ [])) _ refl refl one_told)
