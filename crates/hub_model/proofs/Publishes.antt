-- The publication of a job's answers, member by member.
use Rattle.std.proofs.Common.{
  ◌≡◌,
  ◌∙◌,
  sym,
  ap,
  refl,
  subst,
  ℕ,
  ◌-◌,
  ◌==◌,
  false,
  Option,
  Some,
  None,
  List,
  [],
  ◌∷◌,
  ◌++◌,
  map,
  slice_get,
  ◌+◌,
  ◌<◌,
  not,
  filter,
  arith,
  ne_eqb,
}
use Rattle.std.specs.Option.{option_map}
use Rattle.std.specs.List.{AllByRecursion, cons_option, find}
use Rattle.data_model.specs.Rows.{Database}
use Rattle.role_model.specs.declared.metadata.Metadata.{Metadata}
use Rattle.plan_model.specs.Outcomes.{Outcome}
use Rattle.query_model.specs.Results.{result}
use Rattle.cohort_map.specs.declared.member.Member.{Member}
use Rattle.cohort_map.specs.Batches.{closed}
use Rattle.machine.specs.State as machine
use Rattle.machine.specs.Batches as batches
use Rattle.machine.specs.State.{State, Subscription, Effect, Publish, Published, Event, NotOpen}
use Rattle.machine.specs.Connections.{and_then}
use Rattle.machine.specs.Batches.{subscription_at, is_job, without_job}
use Rattle.machine.specs.Publication.{publish_member, publish_members, database_of, publish}
use Rattle.machine.specs.Run.{run}
use Rattle.hub_model.specs.declared.job.Answers.{Answers}
use Rattle.hub_model.specs.declared.job.OpenJob.{OpenJob}
use Rattle.hub_model.specs.Stands.{StandsFor, Happened, Does}
use Rattle.hub_model.specs.Steps.{counted, queued, is_open_job, job_at, clears_one, clears, closes_job}
use Rattle.hub_model.specs.Kept.{Kept, Represents, member_of, open_job}
use Rattle.hub_model.specs.Jobs.{AreResults}
use Rattle.hub_model.specs.Tellings.{
  Telling,
  telling_of,
  tellings,
  queued_all,
  Change,
  Remembers,
  Ends,
  Moves,
  queues_all,
  changes,
  tells_one,
  tells,
  moves,
}
use Rattle.hub_model.proofs.Standing.{Steps, counts, happened, does}
use Rattle.hub_model.proofs.Abandons.{AreOpen, job_is, ends_published}
use Rattle.hub_model.proofs.Reached.{IsRun}
use Rattle.hub_model.proofs.Items.{Ascend, found_among}
use Rattle.hub_model.proofs.JobFacts.{AreNumbered}
use Rattle.hub_model.proofs.Tells.{turns, turns_are_tells}
use Rattle.hub_model.proofs.Apart.{Apart, tellings_apart, moves_apart}
use Rattle.hub_model.proofs.Told.{told_to, telling_is}
use Rattle.hub_model.proofs.Turning.{turned, queued_for, Turned, turned_at}

-- what the turns of members come to
pub record Publishing (k : Kept) (s : State) (ts : List Telling) (e : Effect) : Type 0 where
  pub represents : Represents (turns ts k) e.state
  pub queued : e.queued ≡ queued_all ts
  pub closed : e.closed ≡ []
  pub numbered : AreNumbered e.state.subscriptions
  pub jobs : e.state.jobs ≡ s.jobs

turns_cons : (o : Option Telling) (ts : List Telling) (k : Kept) → turns ts (turned o k) ≡ turns (cons_option o ts) k
turns_cons (Some t) ts k = refl
turns_cons None ts k = refl

queued_cons : (o : Option Telling) (ts : List Telling) → queued_for o ++ queued_all ts ≡ queued_all (cons_option o ts)
queued_cons (Some t) ts = refl
queued_cons None ts = refl

-- one turn, and then others
publishing_cons : (k : Kept) (s : State) (number : ℕ) (o : Option Telling) (ts : List Telling) (e : Effect)
    (more : State → Effect) → Turned k s number o e → Publishing (turned o k) e.state ts (more e.state) →
    Publishing k s (cons_option o ts) (and_then e more)
publishing_cons k s number o ts e more t p = record {
  represents = subst (λ (k : Kept). Represents k (more e.state).state) (turns_cons o ts k) p.represents;
  queued = (λ i. t.queued i ++ p.queued i) ∙ queued_cons o ts;
  closed = λ i. t.closed i ++ p.closed i;
  numbered = p.numbered;
  jobs = p.jobs ∙ t.jobs;
}

-- ---- other members

abbrev AreOthers : ℕ → List Member → Type 0
AreOthers number ms = AllByRecursion (λ m. (number == m.sub) ≡ false) ms

abbrev OthersStay : ℕ → State → State → Type 0
OthersStay number s t =
    (other : ℕ) → (number == other) ≡ false →
    subscription_at other t.subscriptions ≡ subscription_at other s.subscriptions

results_stay : (meta : Metadata) (db : Database) (outcomes : List Outcome) (number : ℕ) (s t : State) →
    OthersStay number s t → (ms : List Member) → AreOthers number ms →
    AreResults meta db s.subscriptions outcomes (map member_of ms) →
    AreResults meta db t.subscriptions outcomes (map member_of ms)
results_stay meta db outcomes number s t stay [] apart all = tt
results_stay meta db outcomes number s t stay (m ∷ ms) apart all = (
  all.0 ∙ ap (option_map (λ (sub : Subscription). result meta sub.query sub.cursor db)) (sym (stay m.sub apart.0)),
  results_stay meta db outcomes number s t stay ms apart.1 all.1,
)

tellings_stay : (k l : Kept) (s t : State) (outcomes : List Outcome) (number : ℕ) → Represents k s → Represents l t →
    AreNumbered s.subscriptions → AreNumbered t.subscriptions → OthersStay number s t → (ms : List Member) →
    AreOthers number ms → tellings l outcomes ms ≡ tellings k outcomes ms
tellings_stay k l s t outcomes number r q n m stay [] apart = refl
tellings_stay k l s t outcomes number r q n m stay (x ∷ ms) apart =
    let here : telling_of l outcomes x ≡ telling_of k outcomes x =
    telling_is l t outcomes x q m
    ∙ ap (λ (o : Option Subscription). told_to o (slice_get outcomes (x.id - 1))) (stay x.sub apart.0)
    ∙ sym (telling_is k s outcomes x r n) in
    let rest = tellings_stay k l s t outcomes number r q n m stay ms apart.1 in
    λ i. cons_option (here i) (rest i)

-- ---- all members

-- The machine's publication of members tells what was to be told at its start.
pub members_told : (meta : Metadata) (db : Database) (outcomes : List Outcome) (ms : List Member) (k : Kept)
    (s : State) →
    Represents k s → AreNumbered s.subscriptions → Apart (λ m. m.sub) ms →
    AreResults meta db s.subscriptions outcomes (map member_of ms) →
    Publishing k s (tellings k outcomes ms) (publish_members meta db (map member_of ms) s)
members_told meta db outcomes [] k s r numbered apart results =
    record { represents = r; queued = refl; closed = refl; numbered = numbered; jobs = refl }
members_told meta db outcomes (m ∷ ms) k s r numbered apart results =
    let sub = subscription_at m.sub s.subscriptions in
    let outcome = slice_get outcomes (m.id - 1) in
    let e = publish_member meta db s sub in
    let o = told_to sub outcome in
    let t : Turned k s m.sub o e = turned_at k s m.sub r numbered meta db outcome sub refl results.0 in
    let here : telling_of k outcomes m ≡ o = telling_is k s outcomes m r numbered in
    let rest = tellings_stay k (turned o k) s e.state outcomes m.sub r t.represents numbered t.numbered t.others ms
    apart.0 in
    subst (λ (ts : List Telling). Publishing k s ts (publish_members meta db (map member_of (m ∷ ms)) s))
    (λ i. cons_option (sym here i) (rest i))
    (publishing_cons k s m.sub o (tellings (turned o k) outcomes ms) e
    (λ t. publish_members meta db (map member_of ms) t) t
    (members_told meta db outcomes ms (turned o k) e.state t.represents t.numbered apart.1
    (results_stay meta db outcomes m.sub s e.state t.others ms apart.0 results.1)))

-- ---- what a publication leaves

abbrev base : Kept → Metadata × ℕ × List OpenJob
base k = (k.meta, k.events, k.jobs)

queues_base : (conn : ℕ) (texts : List (List ℕ)) (k : Kept) → base (queues_all conn texts k) ≡ base k
queues_base conn [] k = refl
queues_base conn (text ∷ texts) k = queues_base conn texts (queued conn text k)

change_base : (t : Telling) (c : Change) (k : Kept) → base (changes t c k) ≡ base k
change_base t (Remembers text) k = refl
change_base t Ends k = refl
change_base t (Moves cursor) k = refl

tells_base : (ts : List Telling) (k : Kept) → base (tells ts k) ≡ base k
tells_base [] k = refl
tells_base (t ∷ ts) k =
    tells_base ts (tells_one t k)
    ∙ change_base t t.change (queues_all t.conn t.texts k)
    ∙ queues_base t.conn t.texts k

clears_base : (ms : List Member) (k : Kept) → base (clears ms k) ≡ base k
clears_base [] k = refl
clears_base (m ∷ ms) k = clears_base ms (clears_one m.sub k)

-- what is kept after a publication
abbrev pub published : ℕ → List Outcome → OpenJob → Kept → Kept
published number outcomes job k =
    let ts = tellings k outcomes job.members in
    counted (closes_job number false job.members (tells ts (moves ts k)))

pub published_meta : (number : ℕ) (outcomes : List Outcome) (job : OpenJob) (k : Kept) →
    (published number outcomes job k).meta ≡ k.meta
published_meta number outcomes job k =
    let ts = tellings k outcomes job.members in
    let told = tells ts (moves ts k) in
    ap (λ (b : Metadata × ℕ × List OpenJob). b.0) (clears_base job.members (record told {
      entries = closed number false told.entries;
      jobs = filter (λ job. not (is_open_job number job)) told.jobs;
    }))
    ∙ ap (λ (b : Metadata × ℕ × List OpenJob). b.0) (tells_base ts (moves ts k))

pub published_events : (number : ℕ) (outcomes : List Outcome) (job : OpenJob) (k : Kept) →
    (published number outcomes job k).events ≡ k.events + 1
published_events number outcomes job k =
    let ts = tellings k outcomes job.members in
    let told = tells ts (moves ts k) in
    ap (λ (b : Metadata × ℕ × List OpenJob). b.1 + 1) (clears_base job.members (record told {
      entries = closed number false told.entries;
      jobs = filter (λ job. not (is_open_job number job)) told.jobs;
    }))
    ∙ ap (λ (b : Metadata × ℕ × List OpenJob). b.1 + 1) (tells_base ts (moves ts k))

-- ---- publications

-- no two members of a job are one subscription
apart_by : (number : ℕ) (ms : List Member) →
    AllByRecursion (λ n. number < n) (map (λ (m : machine.Member). m.subscription) (map member_of ms)) →
    AllByRecursion (λ m. (number == m.sub) ≡ false) ms
apart_by number [] all = tt
apart_by number (m ∷ ms) all =
    let above = all.0 in (ne_eqb number m.sub (λ e. omega (arith, above, e)), apart_by number ms all.1)

pub ascending_apart : (ms : List Member) → Ascend (map (λ (m : machine.Member). m.subscription) (map member_of ms)) →
    Apart (λ m. m.sub) ms
ascending_apart [] ascend = tt
ascending_apart (m ∷ ms) ascend = (apart_by m.sub ms ascend.0, ascending_apart ms ascend.1)

abbrev pub AreOwnResults : Kept → State → Answers → OpenJob → Type 0
AreOwnResults k s answers job =
    AreResults k.meta (database_of k.meta s (open_job job)) s.subscriptions answers.outcomes (map member_of job.members)

pub steps_published : (k : Kept) (s : State) (answers : Answers) (job : OpenJob) → job_at answers.number k ≡ Some job →
    Represents k s → IsRun s → AreOpen s.jobs → AreOwnResults k s answers job →
    Steps k (published answers.number answers.outcomes job k) s (Publish answers.number) (Published job.version)
    (queued_all (tellings k answers.outcomes job.members)) []
steps_published k s answers job at r run own results =
    let ts = tellings k answers.outcomes job.members in
    let db = database_of k.meta s (open_job job) in
    let found : batches.job_at answers.number s.jobs ≡ Some (open_job job) =
    job_is k s answers.number r ∙ ap (option_map open_job) at in
    let among = (found_among (is_job answers.number) s.jobs (open_job job) found).0 in
    let apart = ascending_apart job.members (run.members_ascend (open_job job) among) in
    let e = publish_members k.meta db (map member_of job.members) s in
    let p = members_told k.meta db answers.outcomes job.members k s r run.numbered apart results in
    let told = tells ts (moves ts k) in
    let same : turns ts k ≡ told =
    turns_are_tells ts k (moves_apart ts (tellings_apart k answers.outcomes job.members apart)) in
    let open_at : job_at answers.number told ≡ Some job =
    ap (λ (b : Metadata × ℕ × List OpenJob). find (is_open_job answers.number) b.2) (tells_base ts (moves ts k)) ∙ at in
    record {
      after = record e.state { jobs = without_job answers.number e.state.jobs };
      step = ap (publish k.meta answers.number s) found
          ∙ (λ i. record {
            state = record e.state { jobs = without_job answers.number e.state.jobs };
            reply = Published job.version;
            queued = p.queued i;
            closed = p.closed i;
          });
      represents = counts (closes_job answers.number false job.members told)
          (record e.state { jobs = without_job answers.number e.state.jobs })
          (ends_published told e.state answers.number job p.numbered (subst AreOpen (sym p.jobs) own) open_at
          (subst (λ (k : Kept). Represents k e.state) same p.represents));
    }

-- A publication of an open job's answers, where they are its members' own results.
pub publishes_own : (k : Kept) (answers : Answers) (job : OpenJob) → job_at answers.number k ≡ Some job →
    (h : List Event) → StandsFor k h → IsRun (run k.meta h) → AreOpen (run k.meta h).jobs →
    AreOwnResults k (run k.meta h) answers job →
    Happened k (published answers.number answers.outcomes job k) h (Publish answers.number) (Published job.version)
    (queued_all (tellings k answers.outcomes job.members)) []
publishes_own k answers job at h st run own results =
    happened k (published answers.number answers.outcomes job k) (Publish answers.number) (Published job.version)
    (queued_all (tellings k answers.outcomes job.members)) [] h
    (published_meta answers.number answers.outcomes job k) (published_events answers.number answers.outcomes job k) st
    (steps_published k _ answers job at st.represents run own results)

-- A number that isn't that of an open job.
pub unopened : (k : Kept) (answers : Answers) → job_at answers.number k ≡ None →
    Does k (counted k) (Publish answers.number) NotOpen [] []
unopened k answers at =
    does k (counted k) (Publish answers.number) NotOpen [] [] refl refl
    (λ h st.
    let s = run k.meta h in
    record {
      after = s;
      step = ap (publish k.meta answers.number s)
          (job_is k s answers.number st.represents ∙ ap (option_map open_job) at);
      represents = counts k s st.represents;
    })
