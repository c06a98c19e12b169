-- What each call of the hub does to what is kept, step by step. This project's own.
use Rattle.std.specs.Prelude.{ℕ, ◌+◌, Bool, not, ◌==◌, is_some, if◌then◌else◌, Option, None, List, [], ◌∷◌, ◌++◌, drop, filter, find, unwrap_or}
use Rattle.std.specs.Option.{option_map}
use Rattle.data_model.specs.Rows.{Database}
use Rattle.plan_model.specs.declared.plan.Plan.{Plan}
use Rattle.plan_model.specs.declared.filter.Binding.{Binding}
use Rattle.query_model.specs.declared.kind.SubKind.{SubKind}
use Rattle.role_model.specs.declared.session.Session.{Session}
use Rattle.wire_model.specs.declared.close.CloseReason.{CloseReason}
use Rattle.machine.specs.declared.phase.Phase.TheVariants.{Fresh, Acknowledged, Closed}
use Rattle.cohort_map.specs.declared.key.PollerKey.{PollerKey}
use Rattle.cohort_map.specs.declared.member.Member.{Member}
use Rattle.cohort_map.specs.Entries.{entered, has, left, ticked}
use Rattle.cohort_map.specs.Batches.{opened as marked_open, closed as marks_closed}
use Rattle.connection_table.specs.Connected.{Connected, connected_at, changed, with_new, without as without_connection}
use Rattle.subscription_table.specs.declared.held.Held.{Held}
use Rattle.subscription_table.specs.Kept.{without as without_held}
use Rattle.hub_model.specs.declared.job.OpenJob.{OpenJob}
use Rattle.hub_model.specs.Kept.{Kept}

-- one more event
abbrev pub counted : Kept → Kept
counted k = record k { events = k.events + 1 }

-- ---- connections

abbrev pub known : ℕ → Kept → Option Connected
known conn k = connected_at conn k.connections

abbrev pub knows : ℕ → Kept → Bool
knows conn k = is_some (known conn k)

abbrev pub with_connection : ℕ → (Connected → Connected) → Kept → Kept
with_connection conn f k = record k { connections = changed conn f k.connections }

abbrev pub opens : ℕ → Kept → Kept
opens conn k =
    record k { connections = with_new (record { number = conn; phase = Fresh; queue = []; live = [] }) k.connections }

abbrev pub queues : List ℕ → Connected → Connected
queues text c = record c { queue = c.queue ++ text ∷ [] }

-- a text is queued
abbrev pub queued : ℕ → List ℕ → Kept → Kept
queued conn text = with_connection conn (queues text)

-- the first text leaves the queue
abbrev pub drained : ℕ → Kept → Kept
drained conn = with_connection conn (λ c. record c { queue = drop 1 c.queue })

abbrev pub acknowledged : ℕ → Session → Kept → Kept
acknowledged conn session = with_connection conn (λ c. record c { phase = Acknowledged session })

-- ---- ends

-- a subscription ends; it is kept while it is a member of an open job
abbrev pub ends_one : ℕ → Kept → Kept
ends_one number k = let entries = left number k.entries in
    record k { entries = entries; held = if has number entries then k.held else without_held number k.held }

abbrev pub ends_all : List ℕ → Kept → Kept
ends_all [] k = k
ends_all (n ∷ ns) k = ends_all ns (ends_one n k)

abbrev pub forgets : ℕ → Connected → Connected
forgets number c = record c { live = filter (λ n. not (n == number)) c.live }

-- a subscription of a connection ends
abbrev pub ended : ℕ → ℕ → Kept → Kept
ended conn number k = with_connection conn (forgets number) (ends_one number k)

-- the live subscriptions of a connection
abbrev pub live_on : ℕ → Kept → List ℕ
live_on conn k = unwrap_or (option_map (λ (c : Connected). c.live) (known conn k)) []

-- a connection closes, and its subscriptions end
abbrev pub closed : ℕ → CloseReason → Kept → Kept
closed conn reason k =
    with_connection conn (λ c. record c { phase = Closed reason; live = [] }) (ends_all (live_on conn k) k)

-- a connection is no longer known
abbrev pub gone : ℕ → Kept → Kept
gone conn k = let after = ends_all (live_on conn k) k in
    record after { connections = without_connection conn after.connections }

-- ---- subscriptions

-- what a new subscription is
pub record Joining : Type 0 where
  pub id : List ℕ
  pub kind : SubKind
  pub plan : Plan
  pub poller : PollerKey
  pub binding : Binding

abbrev pub holding : ℕ → ℕ → Joining → Held
holding number conn j =
    record { number = number; connection = conn; id = j.id; kind = j.kind; plan = j.plan; last = None }

-- the next subscription
abbrev pub joined : ℕ → Joining → Kept → Kept
joined conn j k = let number = k.subscribed + 1 in
    record k {
      connections = changed conn (λ c. record c { live = c.live ++ number ∷ [] }) k.connections;
      held = k.held ++ holding number conn j ∷ [];
      entries = k.entries ++ entered number j.poller j.binding ∷ [];
      subscribed = number;
    }

-- ---- transactions and jobs

abbrev pub committed : Database → Kept → Kept
committed after k = record k { tables = after; version = k.version + 1 }

abbrev pub ticks : Kept → Kept
ticks k = record k { entries = ticked k.entries }

-- the next job is open
abbrev pub takes : List Member → Kept → Kept
takes members k = let number = k.jobs_made + 1 in
    record k {
      entries = marked_open number members k.entries;
      jobs = k.jobs ++ record { number = number; version = k.version; members = members } ∷ [];
      jobs_made = number;
    }

abbrev pub is_open_job : ℕ → OpenJob → Bool
is_open_job number job = job.number == number

abbrev pub job_at : ℕ → Kept → Option OpenJob
job_at number k = find (is_open_job number) k.jobs

-- what is held of members that ended and are members no longer is dropped
abbrev pub clears_one : ℕ → Kept → Kept
clears_one number k = record k { held = if has number k.entries then k.held else without_held number k.held }

abbrev pub clears : List Member → Kept → Kept
clears [] k = k
clears (m ∷ ms) k = clears ms (clears_one m.sub k)

-- a job is closed; where it is abandoned its live members become due
abbrev pub closes_job : ℕ → Bool → List Member → Kept → Kept
closes_job number due members k =
    clears members (record k {
      entries = marks_closed number due k.entries;
      jobs = filter (λ job. not (is_open_job number job)) k.jobs;
    })
