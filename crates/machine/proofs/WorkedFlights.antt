-- Worked runs with a job in flight: connections that end and are opened again, newcomers, and members that ended.
use Rattle.std.proofs.Common.{ℕ, List, [], ◌∷◌, ◌++◌, refl}
use Rattle.std.specs.Prelude.{codes}
use Rattle.std.specs.Fmt.{digits}
use Rattle.json.specs.Print.{escape_byte}
use Rattle.scalar_val.specs.declared.val.Val.TheVariants as val
use Rattle.request_model.specs.Strings.{Text}
use Rattle.query_model.proofs.QueryRules.{queries}
use Rattle.machine.specs.Messages.{Complete}
use Rattle.machine.specs.State.{
  State,
  Connection,
  Subscription,
  Job,
  Event,
  Connect,
  Receive,
  Gone,
  Tick,
  Take,
  Publish,
  Abandon,
  Report,
}
use Rattle.machine.proofs.Samples.{
  users,
  all_users,
  live,
  init,
  subscribes,
  Leads,
  connection,
  subscribed,
  ended,
  last_told,
  at_rest,
  job,
  ack,
  next,
  says,
}
use Rattle.machine.proofs.Selections.{users_admitted, users_polled, first, asked}

abbrev other : ℕ → Text → Subscription
other number id = subscribed number 1 id (live all_users) val.Null

abbrev no_users : Text
no_users = codes "{\"user\":[]}"

-- a last result of no users
abbrev was_told : Subscription → Subscription
was_told = last_told (codes "{\"data\":{\"user\":[]}}")

abbrev one : List Text → Connection
one queue = connection 1 (ack ∷ queue)

abbrev with_jobs : List ℕ → List Job → State → State
with_jobs due jobs s = record s { due = due; jobs = jobs }

-- ---- A connection is gone and opened again with the same number while a job is in flight

abbrev opens_again : List Event
opens_again = Tick ∷ Take ∷ Gone 1 ∷ Connect 1 ∷ init 1 ∷ subscribes 1 (codes "a") all_users ∷ []

opened_again : Leads users asked opens_again
    (with_jobs [] (job 1 0 (1 ∷ []) ∷ []) (at_rest [] (one [] ∷ []) (ended first ∷ other 2 (codes "a") ∷ []) 1))
    (codes "tick 1\njob 1 version 0 cohorts 1 members 1\ngone 1\nopen 1\nrecv 1\n> 1 {\"type\":\"connection_ack\"}\n"
    ++ codes "recv 1\n")
unfolding digits
opened_again = record { is = simp (users_admitted, users_polled) }

-- Its new subscription, of the same id, isn't told of that job, and its cohort is busy until the job is closed.
isnt_told : Leads users
    (with_jobs [] (job 1 0 (1 ∷ []) ∷ []) (at_rest [] (one [] ∷ []) (ended first ∷ other 2 (codes "a") ∷ []) 1))
    (Tick ∷ Publish 1 ∷ Publish 1 ∷ [])
    (at_rest [] (one [] ∷ []) (ended first ∷ other 2 (codes "a") ∷ []) 1)
    (codes "tick 0\npublished 1 version 0\nnot open 1\n")
unfolding digits
isnt_told = record { is = simp users_polled }

abbrev of_second : State
of_second = at_rest [] (one [] ∷ []) (ended first ∷ other 2 (codes "a") ∷ []) 2

takes_second : Leads users (at_rest [] (one [] ∷ []) (ended first ∷ other 2 (codes "a") ∷ []) 1) (Tick ∷ Take ∷ [])
    (with_jobs [] (job 2 0 (2 ∷ []) ∷ []) of_second) (codes "tick 1\njob 2 version 0 cohorts 1 members 1\n")
unfolding digits
takes_second = record { is = simp users_polled }

-- who is due and ends isn't due any more
ends_due : Leads users (with_jobs [] (job 2 0 (2 ∷ []) ∷ []) of_second)
    (Abandon 2 ∷ Report ∷ Gone 1 ∷ Take ∷ Report ∷ [])
    (at_rest [] [] (ended first ∷ ended (other 2 (codes "a")) ∷ []) 2)
    (codes "abandoned 2\nreport connections 1 live 1 due 1 jobs 0 version 0\n"
    ++ codes "gone 1\nnone\nreport connections 0 live 0 due 0 jobs 0 version 0\n")
unfolding digits
ends_due = record { is = refl }

-- ---- Newcomers

-- one between the tick and the take is a member, though it isn't due
before_take : Leads users asked (Tick ∷ subscribes 1 (codes "b") all_users ∷ Report ∷ Take ∷ [])
    (with_jobs [] (job 1 0 (1 ∷ 2 ∷ []) ∷ []) (at_rest [] (one [] ∷ []) (first ∷ other 2 (codes "b") ∷ []) 1))
    (codes "tick 1\nrecv 1\nreport connections 1 live 2 due 1 jobs 0 version 0\njob 1 version 0 cohorts 1 members 2\n")
unfolding digits
before_take = record { is = simp (users_admitted, users_polled) }

-- One after the take is none, and the end of the job doesn't make it due; nor does it a member that has ended.
after_take : Leads users
    (with_jobs [] (job 1 0 (1 ∷ 2 ∷ []) ∷ []) (at_rest [] (one [] ∷ []) (first ∷ other 2 (codes "b") ∷ []) 1))
    (subscribes 1 (codes "c") all_users ∷ Receive 1 (Complete (codes "a")) ∷ Abandon 1 ∷ Report ∷ [])
    (with_jobs (2 ∷ []) [] (at_rest [] (one [] ∷ []) (ended first ∷ other 2 (codes "b") ∷ other 3 (codes "c") ∷ []) 1))
    (codes "recv 1\nrecv 1\nabandoned 1\nreport connections 1 live 2 due 1 jobs 0 version 0\n")
unfolding digits
after_take = record { is = simp users_admitted }

-- the next take of its cohort has it
next_take : Leads users
    (with_jobs (2 ∷ []) [] (at_rest [] (one [] ∷ []) (ended first ∷ other 2 (codes "b") ∷ other 3 (codes "c") ∷ []) 1))
    (Take ∷ Tick ∷ Report ∷ [])
    (with_jobs [] (job 2 0 (2 ∷ 3 ∷ []) ∷ [])
    (at_rest [] (one [] ∷ []) (ended first ∷ other 2 (codes "b") ∷ other 3 (codes "c") ∷ []) 2))
    (codes "job 2 version 0 cohorts 1 members 2\ntick 0\nreport connections 1 live 2 due 0 jobs 1 version 0\n")
unfolding digits
next_take = record { is = simp users_polled }

-- members are told in order, each on its own id, but for one that has ended meanwhile
tells_members : Leads users
    (with_jobs [] (job 2 0 (1 ∷ 2 ∷ 3 ∷ []) ∷ [])
    (at_rest [] (one [] ∷ []) (ended first ∷ other 2 (codes "b") ∷ other 3 (codes "c") ∷ []) 2))
    (Publish 2 ∷ [])
    (at_rest [] (one (next (codes "b") no_users ∷ next (codes "c") no_users ∷ []) ∷ [])
    (ended first ∷ was_told (other 2 (codes "b")) ∷ was_told (other 3 (codes "c")) ∷ []) 2)
    (codes "published 2 version 0\n" ++ says 1 (next (codes "b") no_users) ++ says 1 (next (codes "c") no_users))
unfolding digits escape_byte
tells_members = record { is = simp queries }

-- ---- Members that ended

abbrev all_end : List Event
all_end = Receive 1 (Complete (codes "a")) ∷ Receive 1 (Complete (codes "b")) ∷ subscribes 1 (codes "c") all_users
    ∷ Tick ∷ []

-- their cohort is busy for as long as their job is open
ended_members : Leads users
    (with_jobs [] (job 1 0 (1 ∷ 2 ∷ []) ∷ []) (at_rest [] (one [] ∷ []) (first ∷ other 2 (codes "b") ∷ []) 1)) all_end
    (with_jobs [] (job 1 0 (1 ∷ 2 ∷ []) ∷ [])
    (at_rest [] (one [] ∷ []) (ended first ∷ ended (other 2 (codes "b")) ∷ other 3 (codes "c") ∷ []) 1))
    (codes "recv 1\nrecv 1\nrecv 1\ntick 0\n")
unfolding digits
ended_members = record { is = simp (users_admitted, users_polled) }

-- and they aren't due after it
nobody_is_due : Leads users
    (with_jobs [] (job 1 0 (1 ∷ 2 ∷ []) ∷ [])
    (at_rest [] (one [] ∷ []) (ended first ∷ ended (other 2 (codes "b")) ∷ other 3 (codes "c") ∷ []) 1))
    (Abandon 1 ∷ Take ∷ Tick ∷ Receive 1 (Complete (codes "c")) ∷ Take ∷ Publish 1 ∷ Abandon 1 ∷ [])
    (at_rest [] (one [] ∷ []) (ended first ∷ ended (other 2 (codes "b")) ∷ ended (other 3 (codes "c")) ∷ []) 1)
    (codes "abandoned 1\nnone\ntick 1\nrecv 1\nnone\nnot open 1\nnot open 1\n")
unfolding digits
nobody_is_due = record { is = simp users_polled }
