-- A worked run of several pollers, and which bindings are one.
use Rattle.std.proofs.Common.{◌≡◌, ℕ, List, [], ◌∷◌, ◌++◌, map, pos, true, false, refl}
use Rattle.std.specs.Prelude.{codes, decimal, filter, ◌&&◌}
use Rattle.std.specs.Fmt.{digits}
use Rattle.scalar_val.specs.declared.val.Val.{Val}
use Rattle.scalar_val.specs.declared.val.Val.TheVariants as val
use Rattle.plan_model.specs.declared.filter.Binding.{Binding}
use Rattle.plan_model.specs.declared.filter.Slot.{Slot}
use Rattle.plan_model.specs.declared.filter.Slot.TheVariants.{One, Many}
use Rattle.role_model.specs.declared.metadata.Metadata.{Metadata}
use Rattle.machine.specs.Cohorts.{same_binding}
use Rattle.machine.specs.State.{State, Subscription, Job, Tick, Take, Abandon, Report}
use Rattle.machine.specs.Batches.{is_due, are_polled_together, first_of_each, members_of}
use Rattle.machine.proofs.Samples.{users, all_users, live, Leads, ◌then◌, leads, takes, connection, subscribed, at_rest}
use Rattle.machine.proofs.Selections.{users_polled, stream_from, streams_polled}

-- ---- bindings

abbrev bound : List Slot → List Val → Val → Binding
bound vars session cursor = record { vars = vars; session = session; cursor = cursor }

abbrev int : ℕ → Val
int n = val.Int (pos n)

-- equal ones
same : map (λ b. same_binding b b)
    (bound [] [] val.Null ∷ bound (One (int 1) ∷ Many (int 1 ∷ val.Null ∷ []) ∷ []) (val.Text (codes "a") ∷ []) (int 1)
    ∷ bound (Many [] ∷ One (val.Bool true) ∷ One val.Null ∷ []) (val.Uuid 7 ∷ []) (val.Big (pos 1)) ∷ []) ≡ true
    ∷ true ∷ true ∷ []
same = refl

-- others: values of two kinds, null, lists of other lengths, a value and a list of it, other session values and cursors
others : map (λ b. same_binding (bound (One (int 1) ∷ []) (int 1 ∷ []) (int 1)) b)
    (bound (One (int 2) ∷ []) (int 1 ∷ []) (int 1)
    ∷ bound (One (val.Big (pos 1)) ∷ []) (int 1 ∷ []) (int 1)
    ∷ bound (One val.Null ∷ []) (int 1 ∷ []) (int 1)
    ∷ bound (Many (int 1 ∷ []) ∷ []) (int 1 ∷ []) (int 1)
    ∷ bound (One (int 1) ∷ One (int 1) ∷ []) (int 1 ∷ []) (int 1)
    ∷ bound (One (int 1) ∷ []) (int 2 ∷ []) (int 1)
    ∷ bound (One (int 1) ∷ []) [] (int 1)
    ∷ bound (One (int 1) ∷ []) (int 1 ∷ []) (int 2)
    ∷ bound (One (int 1) ∷ []) (int 1 ∷ []) val.Null ∷ []) ≡
    false ∷ false ∷ false ∷ false ∷ false ∷ false ∷ false ∷ false ∷ false ∷ []
others = refl

lists : map (λ xs. same_binding (bound (Many (int 1 ∷ int 2 ∷ []) ∷ []) [] val.Null) (bound (Many xs ∷ []) [] val.Null))
    ((int 1 ∷ int 2 ∷ []) ∷ (int 2 ∷ int 1 ∷ []) ∷ (int 1 ∷ []) ∷ [] ∷ []) ≡ true ∷ false ∷ false ∷ false ∷ []
lists = refl

-- ---- Four cohorts of two pollers: streams from the cursors 0, 9 and 5, and live queries on two connections

abbrev by_two : Metadata
by_two = record users { batch_size = 2 }

abbrev stream : ℕ → ℕ → ℕ → Subscription
stream n c cursor = subscribed n c (decimal n) (stream_from 0) (int cursor)

abbrev of_users : ℕ → ℕ → Subscription
of_users n c = subscribed n c (decimal n) (live all_users) val.Null

abbrev mixed : List Subscription
mixed = stream 1 1 0 ∷ of_users 2 1 ∷ stream 3 1 9 ∷ of_users 4 2 ∷ stream 5 2 5 ∷ []

abbrev taken : List ℕ → List Job → ℕ → State
taken due jobs made =
    record (at_rest [] (connection 1 [] ∷ connection 2 [] ∷ []) mixed made) { due = due; jobs = jobs }

abbrev of_two : ℕ → Job
of_two n = record {
  number = n;
  version = 0;
  members = record { subscription = 1; cohort = 1 } ∷ record { subscription = 3; cohort = 2 } ∷ [];
}

abbrev of_one : ℕ → List ℕ → Job
of_one n members =
    record { number = n; version = 0; members = map (λ m. record { subscription = m; cohort = 1 }) members }

ticks : Leads by_two (taken [] [] 0) (Tick ∷ []) (taken (1 ∷ 2 ∷ 3 ∷ 4 ∷ 5 ∷ []) [] 0) (codes "tick 5\n")
unfolding digits
ticks = record { is = simp (streams_polled, users_polled) }

streams_due : filter (λ s. is_due (1 ∷ 2 ∷ 3 ∷ 4 ∷ 5 ∷ []) s && are_polled_together (stream 1 1 0) s) mixed
    ≡ stream 1 1 0 ∷ stream 3 1 9 ∷ stream 5 2 5 ∷ []
streams_due = simp (streams_polled, users_polled)

streams_due_again : filter (λ s. is_due (1 ∷ 3 ∷ 5 ∷ []) s && are_polled_together (stream 1 1 0) s) mixed
    ≡ stream 1 1 0 ∷ stream 3 1 9 ∷ stream 5 2 5 ∷ []
streams_due_again = simp streams_polled

stream_cohorts : first_of_each [] (stream 1 1 0 ∷ stream 3 1 9 ∷ stream 5 2 5 ∷ []) ≡ stream 1 1 0 ∷ stream 3 1 9
    ∷ stream 5 2 5 ∷ []
stream_cohorts = simp streams_polled

two_cohorts : members_of (stream 1 1 0 ∷ stream 3 1 9 ∷ []) mixed ≡ (of_two 1).members
two_cohorts = simp (streams_polled, users_polled)

first_take : Leads by_two (taken (1 ∷ 2 ∷ 3 ∷ 4 ∷ 5 ∷ []) [] 0) (Take ∷ []) (taken (2 ∷ 4 ∷ 5 ∷ []) (of_two 1 ∷ []) 1)
    (codes "job 1 version 0 cohorts 2 members 2\n")
unfolding digits
first_take =
    leads (takes by_two (taken (1 ∷ 2 ∷ 3 ∷ 4 ∷ 5 ∷ []) [] 0) (stream 1 1 0)
    (stream 1 1 0 ∷ stream 3 1 9 ∷ stream 5 2 5 ∷ [])
    (stream 1 1 0 ∷ stream 3 1 9 ∷ stream 5 2 5 ∷ []) (of_two 1).members refl streams_due stream_cohorts two_cohorts)

users_due : filter (λ s. is_due (2 ∷ 4 ∷ 5 ∷ []) s && are_polled_together (of_users 2 1) s) mixed ≡ of_users 2 1
    ∷ of_users 4 2 ∷ []
users_due = simp (streams_polled, users_polled)

users_cohort : first_of_each [] (of_users 2 1 ∷ of_users 4 2 ∷ []) ≡ of_users 2 1 ∷ []
users_cohort = simp users_polled

users_members : members_of (of_users 2 1 ∷ []) mixed ≡ (of_one 2 (2 ∷ 4 ∷ [])).members
users_members = simp (streams_polled, users_polled)

second_take : Leads by_two (taken (2 ∷ 4 ∷ 5 ∷ []) (of_two 1 ∷ []) 1) (Take ∷ [])
    (taken (5 ∷ []) (of_two 1 ∷ of_one 2 (2 ∷ 4 ∷ []) ∷ []) 2) (codes "job 2 version 0 cohorts 1 members 2\n")
unfolding digits
second_take =
    leads (takes by_two (taken (2 ∷ 4 ∷ 5 ∷ []) (of_two 1 ∷ []) 1) (of_users 2 1) (of_users 2 1 ∷ of_users 4 2 ∷ [])
    (of_users 2 1 ∷ []) (of_one 2 (2 ∷ 4 ∷ [])).members refl users_due users_cohort users_members)

third_take : Leads by_two (taken (5 ∷ []) (of_two 1 ∷ of_one 2 (2 ∷ 4 ∷ []) ∷ []) 2) (Take ∷ Take ∷ [])
    (taken [] (of_two 1 ∷ of_one 2 (2 ∷ 4 ∷ []) ∷ of_one 3 (5 ∷ []) ∷ []) 3)
    (codes "job 3 version 0 cohorts 1 members 1\nnone\n")
unfolding digits
third_take = record { is = simp (streams_polled, users_polled) }

abandons : Leads by_two (taken [] (of_two 1 ∷ of_one 2 (2 ∷ 4 ∷ []) ∷ of_one 3 (5 ∷ []) ∷ []) 3)
    (Abandon 3 ∷ Abandon 1 ∷ Abandon 1 ∷ Report ∷ [])
    (taken (1 ∷ 3 ∷ 5 ∷ []) (of_one 2 (2 ∷ 4 ∷ []) ∷ []) 3)
    (codes "abandoned 3\nabandoned 1\nnot open 1\nreport connections 2 live 5 due 3 jobs 1 version 0\n")
unfolding digits
abandons = record { is = refl }

fourth_take : Leads by_two (taken (1 ∷ 3 ∷ 5 ∷ []) (of_one 2 (2 ∷ 4 ∷ []) ∷ []) 3) (Take ∷ [])
    (taken (5 ∷ []) (of_one 2 (2 ∷ 4 ∷ []) ∷ of_two 4 ∷ []) 4) (codes "job 4 version 0 cohorts 2 members 2\n")
unfolding digits
fourth_take = leads (takes by_two (taken (1 ∷ 3 ∷ 5 ∷ []) (of_one 2 (2 ∷ 4 ∷ []) ∷ []) 3) (stream 1 1 0)
    (stream 1 1 0 ∷ stream 3 1 9 ∷ stream 5 2 5 ∷ []) (stream 1 1 0 ∷ stream 3 1 9 ∷ stream 5 2 5 ∷ [])
    (of_two 4).members
    refl streams_due_again stream_cohorts two_cohorts)

-- A batch has one poller, that of the least due number, and its cohorts are cut. What is left is due for the next, and
-- an abandoned job's members are due again in order of number.
pollers : Leads by_two (taken [] [] 0)
    ((Tick ∷ []) ++ (Take ∷ []) ++ (Take ∷ []) ++ (Take ∷ Take ∷ [])
    ++ (Abandon 3 ∷ Abandon 1 ∷ Abandon 1 ∷ Report ∷ []) ++ (Take ∷ []))
    (taken (5 ∷ []) (of_one 2 (2 ∷ 4 ∷ []) ∷ of_two 4 ∷ []) 4)
    (codes "tick 5\njob 1 version 0 cohorts 2 members 2\njob 2 version 0 cohorts 1 members 2\n"
    ++ codes "job 3 version 0 cohorts 1 members 1\nnone\nabandoned 3\nabandoned 1\nnot open 1\n"
    ++ codes "report connections 2 live 5 due 3 jobs 1 version 0\njob 4 version 0 cohorts 2 members 2\n")
unfolding digits
pollers = ticks then first_take then second_take then third_take then abandons then fourth_take
