-- What the hub's own parts do to what is kept.
use Rattle.std.specs.Prelude.{ℕ, Bool, true, false, Option, Some, None, List, [], find}
use Rattle.wire_model.specs.declared.close.CloseReason.{CloseReason}
use Rattle.machine.specs.State.{Event, Did}
use Rattle.machine.specs.declared.phase.Phase.{Phase}
use Rattle.machine.specs.declared.phase.Phase.TheVariants.{Fresh, Acknowledged, Closed}
use Rattle.cohort_map.specs.declared.member.Member.{Member}
use Rattle.cohort_map.specs.Entries.{Entry}
use Rattle.subscription_table.specs.declared.held.Held.{Held}
use Rattle.hub_model.specs.declared.job.OpenJob.{OpenJob}
use Rattle.hub_model.specs.declared.reply.ConnReply.{ConnReply}
use Rattle.hub_model.specs.declared.reply.ConnReply.TheVariants as conn
use Rattle.hub_model.specs.declared.reply.DrainReply.{DrainReply}
use Rattle.hub_model.specs.declared.reply.DrainReply.TheVariants as drain
use Rattle.hub_model.specs.Kept.{Kept}
use Rattle.hub_model.specs.Stands.{Does}
use Rattle.hub_model.specs.Steps.{counted, closed, is_open_job}
use Rattle.hub_model.specs.Replies.{closes_of}

-- the reply to an event that queued nothing and closed nothing
abbrev pub did_nothing : ConnReply
did_nothing = conn.Did (record { queued = []; closed = None })

-- the reply to the draining of an empty queue
abbrev pub emptied : Phase → DrainReply
emptied Fresh = drain.Empty
emptied (Acknowledged session) = drain.Empty
emptied (Closed reason) = drain.Done reason

abbrev pub is_fresh : Phase → Bool
is_fresh Fresh = true
is_fresh (Acknowledged session) = false
is_fresh (Closed reason) = false

-- these cohorts and what is held of their members
abbrev pub with_entries : List Entry → List Held → Kept → Kept
with_entries entries held k = record k { entries = entries; held = held }

-- these open jobs too
abbrev pub with_jobs : List Entry → List Held → List OpenJob → Kept → Kept
with_jobs entries held jobs k = record k { entries = entries; held = held; jobs = jobs }

abbrev pub job_in : ℕ → List OpenJob → Option OpenJob
job_in number jobs = find (is_open_job number) jobs

abbrev pub members_by : Option OpenJob → List Member
members_by (Some job) = job.members
members_by None = []

-- the members of an open job, and none where there is no such job
abbrev pub members_in : ℕ → List OpenJob → List Member
members_in number jobs = members_by (job_in number jobs)

-- the event closes the connection for this reason, and does nothing else
abbrev pub ClosesBy : Kept → ℕ → CloseReason → Event → Type 0
ClosesBy k conn reason e = Does k (counted (closed conn reason k)) e Did [] (closes_of conn (Some reason))
