-- A worked run of a query that is answered once.
use Rattle.std.proofs.Common.{ℕ, List, [], ◌∷◌, ◌++◌}
use Rattle.std.specs.Prelude.{codes}
use Rattle.std.specs.Fmt.{digits}
use Rattle.json.specs.Print.{escape_byte}
use Rattle.scalar_val.specs.declared.val.Val.TheVariants as val
use Rattle.request_model.specs.Strings.{Text}
use Rattle.query_model.proofs.QueryRules.{queries}
use Rattle.machine.specs.State.{State, Subscription, Tick, Take, Report}
use Rattle.machine.proofs.Samples.{
  users,
  subscribes,
  polls,
  Leads,
  ◌then◌,
  connection,
  subscribed,
  ended,
  at_rest,
  next,
}
use Rattle.machine.proofs.Selections.{all_ids, once, once_admitted, ids_polled}

abbrev quick : ℕ → Subscription
quick n = subscribed n 1 (codes "q") once val.Null

abbrev alone : List Text → List Subscription → ℕ → State
alone queue subs jobs = at_rest [] (connection 1 queue ∷ []) subs jobs

asks_once : Leads users (alone [] [] 0) (subscribes 1 (codes "q") all_ids ∷ []) (alone [] (quick 1 ∷ []) 0)
    (codes "recv 1\n")
unfolding digits
asks_once = record { is = simp once_admitted }

answers_once : Leads users (alone [] (quick 1 ∷ []) 0) (polls 1)
    (alone (next (codes "q") (codes "{\"user\":[]}") ∷ codes "{\"type\":\"complete\",\"id\":\"q\"}" ∷ [])
    (ended (quick 1) ∷ []) 1)
    (codes "tick 1\njob 1 version 0 cohorts 1 members 1\npublished 1 version 0\n"
    ++ codes "> 1 {\"type\":\"next\",\"id\":\"q\",\"payload\":{\"data\":{\"user\":[]}}}\n"
    ++ codes "> 1 {\"type\":\"complete\",\"id\":\"q\"}\n")
unfolding digits escape_byte
answers_once = record { is = simp (ids_polled, queries) }

-- it is told nothing any more, and its id may be used again
is_over : Leads users
    (alone (next (codes "q") (codes "{\"user\":[]}") ∷ codes "{\"type\":\"complete\",\"id\":\"q\"}" ∷ [])
    (ended (quick 1) ∷ []) 1)
    (Report ∷ Tick ∷ Take ∷ subscribes 1 (codes "q") all_ids ∷ [])
    (alone (next (codes "q") (codes "{\"user\":[]}") ∷ codes "{\"type\":\"complete\",\"id\":\"q\"}" ∷ [])
    (ended (quick 1) ∷ quick 2 ∷ []) 1)
    (codes "report connections 1 live 0 due 0 jobs 0 version 0\ntick 0\nnone\nrecv 1\n")
unfolding digits
is_over = record { is = simp once_admitted }

query_operation : Leads users (alone [] [] 0)
    (subscribes 1 (codes "q") all_ids ∷ [] ++ polls 1 ++ (Report ∷ Tick ∷ Take ∷ subscribes 1 (codes "q") all_ids ∷ []))
    (alone (next (codes "q") (codes "{\"user\":[]}") ∷ codes "{\"type\":\"complete\",\"id\":\"q\"}" ∷ [])
    (ended (quick 1) ∷ quick 2 ∷ []) 1)
    (codes "recv 1\ntick 1\njob 1 version 0 cohorts 1 members 1\npublished 1 version 0\n"
    ++ codes "> 1 {\"type\":\"next\",\"id\":\"q\",\"payload\":{\"data\":{\"user\":[]}}}\n"
    ++ codes "> 1 {\"type\":\"complete\",\"id\":\"q\"}\n"
    ++ codes "report connections 1 live 0 due 0 jobs 0 version 0\ntick 0\nnone\nrecv 1\n")
query_operation = asks_once then answers_once then is_over
