-- Pollers, cohorts and batches (Hasura's live query architecture, "Multiplexing"), as relations on subscriptions.
-- The numbering of jobs and the rules of these events are this project's own.
use Rattle.std.specs.Prelude.{
  ℕ,
  ◌+◌,
  Bool,
  ◌&&◌,
  ◌||◌,
  not,
  ◌==◌,
  if◌then◌else◌,
  Option,
  Some,
  None,
  List,
  [],
  ◌∷◌,
  ◌++◌,
  length,
  take,
  map,
  filter,
  find,
}
use Rattle.std.specs.List.{list_any, filter_map, position_from}
use Rattle.query_model.specs.Queries.{binding_of}
use Rattle.machine.specs.Cohorts.{same_poller, same_binding}
use Rattle.role_model.specs.declared.metadata.Metadata.{Metadata}
use Rattle.machine.specs.State.{State, Subscription, Member, Job, Step, Ticked, Nobody, Taken, NotOpen, Abandoned, silent}

-- subscriptions that only differ in variables have one poller
abbrev pub are_polled_together : Subscription → Subscription → Bool
are_polled_together a b = same_poller a.query b.query

-- subscriptions of one poller with equal variables, and for streams equal cursors, have one cohort
abbrev pub are_of_one_cohort : Subscription → Subscription → Bool
are_of_one_cohort a b =
    are_polled_together a b && same_binding (binding_of a.query a.cursor) (binding_of b.query b.cursor)

abbrev pub is_subscription : ℕ → Subscription → Bool
is_subscription number sub = sub.number == number

abbrev pub subscription_at : ℕ → List Subscription → Option Subscription
subscription_at number subs = find (is_subscription number) subs

abbrev pub is_member : ℕ → Job → Bool
is_member number job = list_any (λ m. m.subscription == number) job.members

-- the cohort of a subscription has a member, live or ended, in an open job
abbrev pub is_busy : List Subscription → List Job → Subscription → Bool
is_busy subs jobs sub = list_any (λ other. are_of_one_cohort sub other && list_any (is_member other.number) jobs) subs

abbrev pub numbers : List Subscription → List ℕ
numbers = map (λ sub. sub.number)

-- the numbers of all live subscriptions whose cohort isn't busy
abbrev pub idle : List Subscription → List Job → List ℕ
idle subs jobs = numbers (filter (λ sub. sub.live && not (is_busy subs jobs sub)) subs)

abbrev pub tick : State → Step
tick s = silent (record s { due = idle s.subscriptions s.jobs }) (Ticked (length (idle s.subscriptions s.jobs)))

abbrev pub is_due : List ℕ → Subscription → Bool
is_due due sub = list_any (λ n. n == sub.number) due

-- the first subscription of each cohort, without those of the cohorts of `earlier`
abbrev pub first_of_each : List Subscription → List Subscription → List Subscription
first_of_each earlier [] = []
first_of_each earlier (sub ∷ subs) =
    if list_any (are_of_one_cohort sub) earlier then first_of_each earlier subs
    else sub ∷ first_of_each (sub ∷ earlier) subs

-- For each cohort of a batch, its least due subscription. The batch has the poller of `first`; its cohorts stand in the
-- order of their least due numbers, and are cut to the batch size.
abbrev pub batch : ℕ → List ℕ → List Subscription → Subscription → List Subscription
batch size due subs first = take size (first_of_each []
    (filter (λ sub. is_due due sub && are_polled_together first sub) subs))

abbrev pub member_at : Subscription → Option ℕ → Option Member
member_at sub (Some place) = Some (record { subscription = sub.number; cohort = place + 1 })
member_at sub None = None

-- a live subscription of one of the batch's cohorts, with the place of its cohort
abbrev pub member_of : List Subscription → Subscription → Option Member
member_of cohorts sub = if sub.live then member_at sub (position_from (are_of_one_cohort sub) 0 cohorts) else None

abbrev pub members_of : List Subscription → List Subscription → List Member
members_of cohorts subs = filter_map (member_of cohorts) subs

abbrev pub next_job : State → List Member → Job
next_job s members = record { number = s.jobs_made + 1; version = length s.transactions; members = members }

-- the members leave `due`, and the job is open
abbrev pub taken_with : State → Job → Step
taken_with s job = silent (record s {
  due = filter (λ n. not (is_member n job)) s.due;
  jobs = s.jobs
      ++ job ∷ [];
  jobs_made = s.jobs_made + 1;
}) (Taken job)

abbrev pub take_from : Metadata → State → Option Subscription → Step
take_from meta s None = silent s Nobody
take_from meta s (Some first) = taken_with s (next_job s
    (members_of (batch meta.batch_size s.due s.subscriptions first) s.subscriptions))

-- the poller is that of the least due number
abbrev pub take_job : Metadata → State → Step
take_job meta s = take_from meta s (find (is_due s.due) s.subscriptions)

abbrev pub is_job : ℕ → Job → Bool
is_job number job = job.number == number

abbrev pub job_at : ℕ → List Job → Option Job
job_at number jobs = find (is_job number) jobs

abbrev pub without_job : ℕ → List Job → List Job
without_job number jobs = filter (λ job. not (is_job number job)) jobs

-- a job's live members become due again, and it is closed
abbrev pub abandon : ℕ → State → Option Job → Step
abandon number s (Some job) =
    silent (record
    s {
      due = numbers (filter (λ sub. is_due s.due sub || sub.live && is_member sub.number job)
          s.subscriptions);
      jobs = without_job number s.jobs;
    }) Abandoned
abandon number s None = silent s NotOpen
