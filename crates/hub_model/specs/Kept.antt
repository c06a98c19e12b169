-- What the hub keeps of the machine's state, and which states that is enough for. Ended subscriptions are kept for as long
-- as they are members of an open job; transactions aren't kept. This project's own.
use Rattle.std.specs.Prelude.{◌≡◌, ℕ, Bool, ◌&&◌, ◌||◌, ◌==◌, Option, Some, List, length, map, filter, find}
use Rattle.std.specs.List.{list_any, AllZip}
use Rattle.std.specs.Option.{option_map}
use Rattle.scalar_val.specs.declared.val.Val.{Val}
use Rattle.data_model.specs.Rows.{Database}
use Rattle.role_model.specs.declared.metadata.Metadata.{Metadata}
use Rattle.request_model.specs.Canonical.{canonical}
use Rattle.query_model.specs.Queries.{Query, binding_of, view_of}
use Rattle.query_model.specs.AdmissionLaws.{IsAdmitted}
use Rattle.query_model.specs.ResultLaws.{MayBeCursor}
use Rattle.query_model.specs.Plans.{plan_of}
use Rattle.cohort_map.specs.declared.key.PollerKey.{PollerKey}
use Rattle.cohort_map.specs.declared.member.Member.{Member}
use Rattle.cohort_map.specs.Entries.{Entry}
use Rattle.connection_table.specs.Connected.{Connected}
use Rattle.subscription_table.specs.declared.held.Held.{Held}
use Rattle.machine.specs.State as machine
use Rattle.machine.specs.State.{State, Connection, Subscription}
use Rattle.machine.specs.Batches.{is_member}
use Rattle.machine.specs.Run.{database_now}
use Rattle.hub_model.specs.declared.job.OpenJob.{OpenJob}

-- Connections, subscriptions and their places in cohorts stand in order of their numbers.
pub record Kept : Type 0 where
  pub meta : Metadata
  pub tables : Database
  pub version : ℕ
  pub connections : List Connected
  pub held : List Held
  pub entries : List Entry
  pub jobs : List OpenJob
  pub subscribed : ℕ
  pub jobs_made : ℕ
  pub events : ℕ

-- ---- subscriptions

-- a subscription is kept while it is live or a member of an open job
abbrev pub is_kept : List machine.Job → Subscription → Bool
is_kept jobs sub = sub.live || list_any (is_member sub.number) jobs

abbrev pub kept_of : State → List Subscription
kept_of s = filter (is_kept s.jobs) s.subscriptions

abbrev pub poller_of : Query → PollerKey
poller_of q = record { word = q.selection.kind; role = q.role; canon = canonical q.selection }

-- the open job that a number is a member of
abbrev pub job_with : ℕ → List machine.Job → Option ℕ
job_with number jobs = option_map (λ (job : machine.Job). job.number) (find (is_member number) jobs)

-- a subscription's place among cohorts
abbrev pub entry_of : State → Subscription → Entry
entry_of s sub =
    record {
      number = sub.number;
      poller = poller_of sub.query;
      binding = binding_of sub.query sub.cursor;
      live = sub.live;
      due = list_any (λ n. n == sub.number) s.due;
      job = job_with sub.number s.jobs;
    }

-- What is held stands for a subscription: its plan is that of its query, with which some request was admitted.
pub record Holds (meta : Metadata) (sub : Subscription) (h : Held) : Type 0 where
  pub number : h.number ≡ sub.number
  pub connection : h.connection ≡ sub.connection
  pub id : h.id ≡ sub.id
  pub kind : h.kind ≡ sub.query.kind
  pub last : h.last ≡ sub.last
  pub plan : plan_of (view_of meta sub.query) sub.query.selection ≡ Some h.plan
  pub initial : Val
  pub admitted : IsAdmitted meta (record { query = sub.query; cursor = initial })
  pub cursor : MayBeCursor sub.query sub.cursor

-- ---- connections

abbrev pub is_live_on : ℕ → Subscription → Bool
is_live_on number sub = sub.live && sub.connection == number

-- the numbers of the live subscriptions of a connection
abbrev pub live_of : List Subscription → ℕ → List ℕ
live_of subs number = map (λ sub. sub.number) (filter (is_live_on number) subs)

abbrev pub connected : List Subscription → Connection → Connected
connected subs c = record { number = c.number; phase = c.phase; queue = c.queue; live = live_of subs c.number }

-- ---- jobs

abbrev pub member_of : Member → machine.Member
member_of m = record { subscription = m.sub; cohort = m.id }

abbrev pub open_job : OpenJob → machine.Job
open_job job = record { number = job.number; version = job.version; members = map member_of job.members }

-- ---- states

-- what is kept is enough for a state of the machine
pub record Represents (k : Kept) (s : State) : Type 0 where
  pub version : k.version ≡ length s.transactions
  pub tables : k.tables ≡ database_now k.meta s
  pub connections : k.connections ≡ map (connected s.subscriptions) s.connections
  pub entries : k.entries ≡ map (entry_of s) (kept_of s)
  pub held : AllZip (Holds k.meta) (kept_of s) k.held
  pub jobs : map open_job k.jobs ≡ s.jobs
  pub subscribed : k.subscribed ≡ length s.subscriptions
  pub jobs_made : k.jobs_made ≡ s.jobs_made
