-- Worked runs of batches of several cohorts, and a poll with two jobs.
use Rattle.std.proofs.Common.{◌≡◌, ℕ, List, [], ◌∷◌, ◌++◌, map, refl}
use Rattle.std.specs.Prelude.{codes, decimal, filter, ◌&&◌}
use Rattle.std.specs.Fmt.{digits}
use Rattle.json.specs.Print.{escape_byte}
use Rattle.scalar_val.specs.declared.val.Val.TheVariants as val
use Rattle.role_model.specs.declared.metadata.Metadata.{Metadata}
use Rattle.request_model.specs.Strings.{Text}
use Rattle.query_model.proofs.QueryRules.{queries}
use Rattle.query_model.specs.Results.{result}
use Rattle.machine.specs.Batches.{is_due, are_polled_together, first_of_each, members_of, taken_with}
use Rattle.machine.specs.Run.{happens}
use Rattle.machine.specs.Publication.{publish_members, close_job}
use Rattle.machine.specs.Transcript.{poll}
use Rattle.machine.specs.declared.queued.Queued.{Queued}
use Rattle.machine.specs.State.{
  Effect,
  with_reply,
  silent,
  Ticked,
  Published,
  State,
  Subscription,
  Job,
  Tick,
  Take,
  Publish,
}
use Rattle.machine.proofs.Samples.{
  users,
  Leads,
  ◌then◌,
  connection,
  subscribed,
  last_told,
  at_rest,
  job,
  next,
  takes,
  publishes,
  poll_by,
  due_by,
  to,
  leads,
  says,
}
use Rattle.machine.proofs.Selections.{with_key, keys_polled}

abbrev alone : List Text → List Subscription → ℕ → State
alone queue subs jobs = at_rest [] (connection 1 queue ∷ []) subs jobs

abbrev by_two : Metadata
by_two = record users { batch_size = 2 }

abbrev of_key : ℕ → ℕ → Subscription
of_key n key = subscribed n 1 (decimal n) (with_key key) val.Null

abbrev four : List Subscription
four = of_key 1 7 ∷ of_key 2 8 ∷ of_key 3 9 ∷ of_key 4 7 ∷ []

abbrev with_jobs : List ℕ → List Job → State → State
with_jobs due jobs s = record s { due = due; jobs = jobs }

abbrev first_job : Job
first_job = record {
  number = 1;
  version = 0;
  members = record { subscription = 1; cohort = 1 } ∷ record { subscription = 2; cohort = 2 }
      ∷ record { subscription = 4; cohort = 1 } ∷ [];
}

abbrev all_due : State
all_due = with_jobs (1 ∷ 2 ∷ 3 ∷ 4 ∷ []) [] (alone [] four 0)

ticks : Leads by_two (alone [] four 0) (Tick ∷ []) all_due (codes "tick 4\n")
unfolding digits
ticks = record { is = simp keys_polled }

due_polled : filter (λ sub. is_due (1 ∷ 2 ∷ 3 ∷ 4 ∷ []) sub && are_polled_together (of_key 1 7) sub) four ≡ four
due_polled = simp keys_polled

firsts : first_of_each [] four ≡ of_key 1 7 ∷ of_key 2 8 ∷ of_key 3 9 ∷ []
firsts = simp keys_polled

members : members_of (of_key 1 7 ∷ of_key 2 8 ∷ []) four ≡ first_job.members
members = simp keys_polled

first_taken : happens by_two all_due Take ≡ taken_with all_due first_job
first_taken = takes by_two all_due (of_key 1 7) four
    (of_key 1 7 ∷ of_key 2 8 ∷ of_key 3 9 ∷ []) first_job.members refl due_polled firsts members

-- The cohorts of a batch are those of the least due numbers, cut to the batch size. The others are left for the next.
batches : Leads by_two all_due (Take ∷ Take ∷ Take ∷ [])
    (with_jobs [] (first_job ∷ job 2 0 (3 ∷ []) ∷ []) (alone [] four 2))
    (codes "job 1 version 0 cohorts 2 members 3\njob 2 version 0 cohorts 1 members 1\nnone\n")
unfolding digits
batches = leads first_taken then second_batch
  where
    second_batch : Leads by_two (with_jobs (3 ∷ []) (first_job ∷ []) (alone [] four 1)) (Take ∷ Take ∷ [])
        (with_jobs [] (first_job ∷ job 2 0 (3 ∷ []) ∷ []) (alone [] four 2))
        (codes "job 2 version 0 cohorts 1 members 1\nnone\n")
    second_batch = record { is = simp keys_polled }

-- ---- a poll with two jobs

abbrev no_user : Text
no_user = codes "{\"user_by_pk\":null}"

abbrev was_told : Subscription → Subscription
was_told = last_told (codes "{\"data\":{\"user_by_pk\":null}}")

abbrev says_none : ℕ → Queued
says_none n = to 1 (next (decimal n) no_user)

first_missing : result by_two (with_key 7) val.Null ([] ∷ [])
    ≡ record { text = codes "{\"data\":{\"user_by_pk\":null}}"; rows = 0; last = val.Null }
unfolding escape_byte
first_missing = simp queries

second_missing : result by_two (with_key 8) val.Null ([] ∷ [])
    ≡ record { text = codes "{\"data\":{\"user_by_pk\":null}}"; rows = 0; last = val.Null }
unfolding escape_byte
second_missing = simp queries

third_missing : result by_two (with_key 9) val.Null ([] ∷ [])
    ≡ record { text = codes "{\"data\":{\"user_by_pk\":null}}"; rows = 0; last = val.Null }
unfolding escape_byte
third_missing = simp queries

abbrev first_open : State
first_open = with_jobs (3 ∷ []) (first_job ∷ []) (alone [] four 1)

abbrev first_told : Effect
first_told = record {
  state = record first_open {
    connections = connection 1 (next (decimal 1) no_user ∷ next (decimal 2) no_user ∷ next (decimal 4) no_user ∷ [])
        ∷ [];
    subscriptions = was_told (of_key 1 7) ∷ was_told (of_key 2 8) ∷ of_key 3 9 ∷ was_told (of_key 4 7) ∷ [];
  };
  queued = says_none 1 ∷ says_none 2 ∷ says_none 4 ∷ [];
  closed = [];
}

tells_first : publish_members by_two ([] ∷ []) first_job.members first_open ≡ first_told
unfolding escape_byte digits
tells_first = simp (first_missing, second_missing)

first_published : happens by_two first_open (Publish 1) ≡ with_reply (Published 0) (close_job 1 first_told)
first_published = publishes by_two first_open 1 first_job ([] ∷ []) first_told refl refl tells_first

abbrev between : State
between = record first_told.state { jobs = [] }

second_taken : happens by_two between Take ≡ taken_with between (job 2 0 (3 ∷ []))
second_taken = simp keys_polled

abbrev second_told : Effect
second_told = record {
  state = record between {
    connections = connection 1
        (next (decimal 1) no_user ∷ next (decimal 2) no_user ∷ next (decimal 4) no_user ∷ next (decimal 3) no_user
        ∷ []) ∷ [];
    subscriptions = map was_told four;
    due = [];
    jobs = job 2 0 (3 ∷ []) ∷ [];
    jobs_made = 2;
  };
  queued = says_none 3 ∷ [];
  closed = [];
}

tells_second : publish_members by_two ([] ∷ []) (job 2 0 (3 ∷ [])).members
    (taken_with between (job 2 0 (3 ∷ []))).state ≡ second_told
unfolding escape_byte digits
tells_second = simp third_missing

second_published : happens by_two (taken_with between (job 2 0 (3 ∷ []))).state (Publish 2)
    ≡ with_reply (Published 0) (close_job 2 second_told)
second_published = publishes by_two (taken_with between (job 2 0 (3 ∷ []))).state 2 (job 2 0 (3 ∷ []))
    ([] ∷ []) second_told refl refl tells_second

-- a poll takes and publishes for as long as somebody is due
two_jobs : poll by_two (alone [] four 0) ≡ record {
  state = at_rest [] second_told.state.connections (map was_told four) 2;
  text = codes "tick 4\njob 1 version 0 cohorts 2 members 3\npublished 1 version 0\n"
      ++ says 1 (next (decimal 1) no_user) ++ says 1 (next (decimal 2) no_user) ++ says 1 (next (decimal 4) no_user)
      ++ codes "job 2 version 0 cohorts 1 members 1\npublished 2 version 0\n" ++ says 1 (next (decimal 3) no_user);
}
unfolding digits
two_jobs = poll_by by_two (alone [] four 0) (silent all_due (Ticked 4)) _ (simp keys_polled)
    (due_by by_two 3 1 (2 ∷ 3 ∷ 4 ∷ []) all_due _ _ _ first_taken first_published
    (due_by by_two 2 3 [] between _ _ _ second_taken second_published refl))
