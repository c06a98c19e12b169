-- The publication of a job's answers: what it needs, and that the hub's parts do it.
use Rattle.std.proofs.Common.{◌≡◌, ◌∙◌, sym, ap, refl, subst, ℕ, Bool, true, false, nat_lt, if◌then◌else◌, Some, None}
use Rattle.std.proofs.Common.{Option, List, [], ◌∷◌, ◌++◌, slice_get, ◌-◌}
use Rattle.std.specs.Option.{IfSome, is_some}
use Rattle.std.specs.List.{filter_map, cons_option}
use Rattle.plan_model.specs.Outcomes.{Outcome}
use Rattle.query_model.specs.declared.kind.SubKind.{SubKind}
use Rattle.query_model.specs.declared.kind.SubKind.TheVariants.{Live, Once, Stream}
use Rattle.role_model.specs.declared.metadata.Metadata.{Metadata}
use Rattle.cohort_map.specs.declared.member.Member.{Member}
use Rattle.cohort_map.specs.Entries.{Entry}
use Rattle.connection_table.specs.Connected.{Connected}
use Rattle.subscription_table.specs.declared.held.Held.{Held}
use Rattle.stream_cursor.specs.Moves.{AreApart, AreStreams, rekeyed}
use Rattle.machine.specs.declared.queued.Queued.{Queued}
use Rattle.machine.specs.State.{State, Subscription, Event, Publish, Published}
use Rattle.machine.specs.Connections.{connection_at}
use Rattle.machine.specs.Batches.{is_subscription, subscription_at}
use Rattle.machine.specs.Publication.{is_new}
use Rattle.machine.specs.Run.{run}
use Rattle.run_laws.proofs.OpenJobs.{open_jobs_were_taken, members_stay, databases_stay}
use Rattle.hub_model.specs.declared.job.Answers.{Answers}
use Rattle.hub_model.specs.declared.job.OpenJob.{OpenJob}
use Rattle.hub_model.specs.declared.telling.Telling.{Telling}
use Rattle.hub_model.specs.declared.reply.PublishReply.TheVariants as publish
use Rattle.hub_model.specs.Kept.{Kept, Represents}
use Rattle.hub_model.specs.Jobs.{AnswersOf}
use Rattle.hub_model.specs.Stands.{StandsFor, Happened}
use Rattle.hub_model.specs.Steps.{counted, closes_job, job_at}
use Rattle.hub_model.specs.Tellings.{telling_of, tellings, move_of, moves, queued_all, tells}
use Rattle.hub_model.specs.Replies.{PublishAnswers}
use Rattle.hub_model.proofs.Items.{found_among, some_of}
use Rattle.hub_model.proofs.Reached.{IsRun}
use Rattle.hub_model.proofs.Connections.{knows_is}
use Rattle.hub_model.proofs.Told.{told_by, told_with, told_to, telling_is}
use Rattle.hub_model.proofs.Publishes.{published, published_meta, published_events}
use Rattle.hub_model.proofs.Answered.{OpenJobsStay, moved_apart, publishes, moves_streams}
use Rattle.hub_model.proofs.OpenJobs.{open_jobs_stay}
use Rattle.hub.specs.Parts.{job_in, members_by, members_in, with_jobs}
use Rattle.hub.specs.Telling.{AreKnown, all_told, with_tables}
use Rattle.hub.proofs.Runs.{is_run, jobs_apart}

-- ---- who is told is on a connection that is known

abbrev IsOn : State → Option Telling → Type 0
IsOn s o = IfSome o (λ t. is_some (connection_at t.conn s) ≡ true)

on_branch : (s : State) (b : Bool) (o : Option Telling) → (b ≡ true → IsOn s o) → IsOn s (if b then o else None)
on_branch s true o h = h refl
on_branch s false o h = tt

on_kind : (s : State) (sub : Subscription) → is_some (connection_at sub.connection s) ≡ true → (kind : SubKind)
    (o : Outcome) →
    IsOn s (told_by kind sub o)
on_kind s sub h Live o = on_branch s (is_new sub.last o.text) _ (λ e. h)
on_kind s sub h Once o = h
on_kind s sub h Stream o = on_branch s (nat_lt 0 o.rows) _ (λ e. h)

on_with : (s : State) (sub : Subscription) → is_some (connection_at sub.connection s) ≡ true → (o : Option Outcome) →
    IsOn s (told_with sub o)
on_with s sub h (Some o) = on_kind s sub h sub.query.kind o
on_with s sub h None = tt

on_found : (s : State) → IsRun s → (number : ℕ) (sub : Option Subscription) (o : Option Outcome) →
    subscription_at number s.subscriptions ≡ sub → IsOn s (told_to sub o)
on_found s w number (Some sub) o at =
    on_branch s sub.live (told_with sub o)
    (λ live. on_with s sub (w.known sub (found_among (is_subscription number) s.subscriptions sub at).0 live) o)
on_found s w number None o at = tt

on_member : (k : Kept) (s : State) (outcomes : List Outcome) (m : Member) → Represents k s → IsRun s →
    IsOn s (telling_of k outcomes m)
on_member k s outcomes m r w =
    subst (IsOn s) (sym (telling_is k s outcomes m r w.numbered))
    (on_found s w m.sub (subscription_at m.sub s.subscriptions) (slice_get outcomes (m.id - 1)) refl)

known_cons : (k : Kept) (s : State) → Represents k s → (o : Option Telling) (ts : List Telling) → IsOn s o →
    AreKnown k.connections ts → AreKnown k.connections (cons_option o ts)
known_cons k s r (Some t) ts on all = (knows_is t.conn k s r ∙ on, all)
known_cons k s r None ts on all = all

all_known : (k : Kept) (s : State) (outcomes : List Outcome) (ms : List Member) → Represents k s → IsRun s →
    AreKnown k.connections (tellings k outcomes ms)
all_known k s outcomes [] r w = tt
all_known k s outcomes (m ∷ ms) r w =
    known_cons k s r (telling_of k outcomes m) (tellings k outcomes ms) (on_member k s outcomes m r w)
    (all_known k s outcomes ms r w)

-- ---- what a publication needs

pub record MayBeTold (k : Kept) (ts : List Telling) : Type 0 where
  pub known : AreKnown k.connections ts
  pub streams : AreStreams (filter_map move_of ts) k.entries
  pub apart : AreApart (filter_map move_of ts)

stay : (meta : Metadata) → OpenJobsStay meta
stay meta = open_jobs_stay meta (open_jobs_were_taken meta) (members_stay meta) (databases_stay meta)

-- the tellings of an open job's members
abbrev pub told_in : Kept → Answers → List Telling
told_in k answers = all_told k.entries k.held answers.outcomes (members_in answers.number k.jobs)

told_of : (k : Kept) (answers : Answers) (job : OpenJob) → job_at answers.number k ≡ Some job →
    told_in k answers ≡ tellings k answers.outcomes job.members
told_of k answers job at = ap (λ (o : Option OpenJob). tellings k answers.outcomes (members_by o)) at

may_be_told : (k : Kept) (answers : Answers) (h : List Event) → StandsFor k h → AnswersOf k.meta answers h →
    (job : OpenJob) → job_at answers.number k ≡ Some job → MayBeTold k (tellings k answers.outcomes job.members)
may_be_told k answers h st a job at = record {
  known = all_known k (run k.meta h) answers.outcomes job.members st.represents (is_run k.meta h);
  streams = moves_streams k answers job at h st (stay k.meta) a (is_run k.meta);
  apart = moved_apart k answers job at h st (is_run k.meta);
}

pub may_tell : (k : Kept) (answers : Answers) (ts : List Telling) → ts ≡ told_in k answers →
    is_some (job_in answers.number k.jobs) ≡ true → (h : List Event) × StandsFor k h × AnswersOf k.meta answers h →
    MayBeTold k ts
may_tell k answers ts is opened a =
    let job = some_of (job_in answers.number k.jobs) opened in
    subst (MayBeTold k) (sym (is ∙ told_of k answers job.0 job.1)) (may_be_told k answers a.0 a.1 a.2 job.0 job.1)

-- ---- what its parts come to

-- what the tables of a hub are after its parts
pub record AreParts (k : Kept) (number : ℕ) (ts : List Telling) (connections : List Connected) (entries : List Entry)
    (held : List Held) (jobs : List OpenJob) : Type 0 where
  pub roomy : List Connected
  pub same : roomy ≡ k.connections
  pub moved : List Entry
  pub moves : moved ≡ rekeyed (filter_map move_of ts) k.entries
  pub told_entries : List Entry
  pub told_held : List Held
  pub tells : (j : Kept) →
      with_tables connections told_held told_entries j ≡ tells ts (with_tables roomy k.held moved j)
  pub closes : (j : Kept) (job : OpenJob) → job_in number k.jobs ≡ Some job →
      closes_job number false job.members (with_jobs told_entries told_held k.jobs j) ≡ with_jobs entries held jobs j

abbrev pub after : Kept → List Connected → List Entry → List Held → List OpenJob → Kept
after k connections entries held jobs =
    counted (record k { connections = connections; entries = entries; held = held; jobs = jobs })

parts_publish : (k : Kept) (answers : Answers) (ts : List Telling) (connections : List Connected) (entries : List Entry)
    (held : List Held) (jobs : List OpenJob) (job : OpenJob) → job_at answers.number k ≡ Some job →
    ts ≡ tellings k answers.outcomes job.members →
    AreParts k answers.number ts connections entries held jobs →
    published answers.number answers.outcomes job k ≡ after k connections entries held jobs
parts_publish k answers ts connections entries held jobs job at is p =
    let told : tells ts (moves ts k) ≡ with_tables connections p.told_held p.told_entries k =
    (λ i. tells ts (with_tables (sym p.same i) k.held (sym p.moves i) k)) ∙ sym (p.tells k) in
    ap (λ (us : List Telling). counted (closes_job answers.number false job.members (tells us (moves us k)))) (sym is)
    ∙ ap (λ (j : Kept). counted (closes_job answers.number false job.members j)) told
    ∙ ap counted (p.closes (with_tables connections p.told_held p.told_entries k) job at)

-- the machine published, and this is what is kept then
pub record Publishes (k k' : Kept) (answers : Answers) (queued : List Queued) : Type 0 where
  pub reply : PublishAnswers k k' answers (publish.Published queued)
  pub history : List Event
  pub stands : StandsFor k' history

publishes_by : (k : Kept) (answers : Answers) (job : OpenJob) → job_at answers.number k ≡ Some job →
    (queued : List Queued) → queued ≡ queued_all (tellings k answers.outcomes job.members) →
    (h : List Event) × StandsFor k h × AnswersOf k.meta answers h →
    Publishes k (published answers.number answers.outcomes job k) answers queued
publishes_by k answers job at queued is a =
    let happens : (h : List Event) (st : StandsFor k h) (a : AnswersOf k.meta answers h) →
    Happened k (published answers.number answers.outcomes job k) h (Publish answers.number)
    (Published a.taking.job.version) queued [] =
    (λ h st a.
    subst (λ (qs : List Queued). Happened k (published answers.number answers.outcomes job k) h (Publish answers.number)
    (Published a.taking.job.version) qs []) (sym is)
    (publishes k answers job at h st (stay k.meta) a (is_run k.meta) (jobs_apart k.meta))) in
    record {
      reply = (
        published_meta answers.number answers.outcomes job k,
        published_events answers.number answers.outcomes job k,
        happens,
      );
      history = a.0 ++ Publish answers.number ∷ [];
      stands = (happens a.0 a.1 a.2).stands;
    }

pub publishes_as : (k : Kept) (answers : Answers) (ts : List Telling) (queued : List Queued)
    (connections : List Connected) (entries : List Entry) (held : List Held) (jobs : List OpenJob) →
    ts ≡ told_in k answers → queued ≡ queued_all ts → is_some (job_in answers.number k.jobs) ≡ true →
    (h : List Event) × StandsFor k h × AnswersOf k.meta answers h →
    AreParts k answers.number ts connections entries held jobs →
    Publishes k (after k connections entries held jobs) answers queued
publishes_as k answers ts queued connections entries held jobs is all opened a p =
    let job = some_of (job_in answers.number k.jobs) opened in
    let told = is ∙ told_of k answers job.0 job.1 in
    subst (λ (k' : Kept). Publishes k k' answers queued)
    (parts_publish k answers ts connections entries held jobs job.0 job.1 told p)
    (publishes_by k answers job.0 job.1 queued (all ∙ ap queued_all told) a)
