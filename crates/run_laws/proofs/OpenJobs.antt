-- An open job is what its take gave, and what it was taken of stays as it was.
use Rattle.std.proofs.Common.{◌≡◌, ◌⊎◌, inl, inr, ◌∙◌, sym, ap, refl, subst, ℕ, ◌+◌, ◌-◌, ◌≤◌, ◌==◌, true, not, Some, None, Option, List, [], ◌∷◌, ◌++◌, append-nil, append_assoc, length, map, arith}
use Rattle.std.specs.Prelude.{slice_get}
use Rattle.std.specs.Bool.{⊤}
use Rattle.std.specs.Option.{option_map, option_or}
use Rattle.std.proofs.lemmas.Bool.{eqb-true, eq-eqb, true≢false}
use Rattle.std.proofs.lemmas.List.{length-append}
use Rattle.data_model.specs.declared.transaction.TxChange.{TxChange}
use Rattle.data_model.specs.Transactions.{snapshot}
use Rattle.role_model.specs.declared.metadata.Metadata.{Metadata}
use Rattle.machine.specs.State.{State, Subscription, Member, Job, Event, Publish, Skip, Reply, Taken, Step, opening}
use Rattle.machine.specs.Batches.{subscription_at, is_subscription, is_member, is_job, job_at, without_job, batch, members_of, take_from, abandon}
use Rattle.machine.specs.Publication.{publish, database_of}
use Rattle.machine.specs.Run.{happens, run}
use Rattle.run_laws.specs.Laws.{EachPair}
use Rattle.run_laws.specs.Takings.{Taking, taking_of, takings, ComesBefore, Stays, StaysIn, JobsAreCounted, JobsAreNumbered, OpenJobsWereTaken, MembersStay, DatabasesStay, SnapshotsStay}
use Rattle.run_laws.proofs.Among.{Among, among_any, among_found, some_of, found_among, pairs_filter, pairs_push, all_from_among}
use Rattle.run_laws.proofs.Cases.{IsNoJob, by_event}
use Rattle.run_laws.proofs.Following.{Alike, IsNewer, Proceeds, other_proceeds}
use Rattle.run_laws.proofs.Finding.{at_proceeded}
use Rattle.run_laws.proofs.Apart.{Sound, IsKnown}
use Rattle.run_laws.proofs.Moves.{Moves}
use Rattle.run_laws.proofs.Publishing.{publish_moves, left_job}
use Rattle.run_laws.proofs.Taking.{job_cases}
use Rattle.run_laws.proofs.SoundRuns.{event_sound, run_sound}
use Rattle.run_laws.proofs.Order.{event_on, published_jobs}
use Rattle.run_laws.proofs.OwnResults.{snapshot_later, all_grow}
use Rattle.run_laws.proofs.Runs.{after_all-append}
use Rattle.run_laws.proofs.Histories.{run_holds, slice_get-append, slice_get-push}

-- What an event does to jobs

-- the job that the event took
pub record Newly (s : State) (t : Step) (job : Job) : Type 0 where
  pub taking : taking_of s t.reply ≡ record { state = s; job = job } ∷ []
  pub number : job.number ≡ s.jobs_made + 1
  pub version : job.version ≡ length s.transactions
  pub subscriptions : t.state.subscriptions ≡ s.subscriptions
  pub transactions : t.state.transactions ≡ s.transactions
  pub cohorts : List Subscription
  pub members : job.members ≡ members_of cohorts s.subscriptions

pub record Hires (s : State) (t : Step) : Type 0 where
  pub made : t.state.jobs_made ≡ s.jobs_made + length (taking_of s t.reply)
  pub jobs : (job : Job) → Among job t.state.jobs → Among job s.jobs ⊎ Newly s t job
  pub order : EachPair ComesBefore s.jobs → ((job : Job) → Among job s.jobs → job.number ≤ s.jobs_made) → EachPair ComesBefore t.state.jobs

-- with the same jobs
hires_none : (s : State) (t : Step) → taking_of s t.reply ≡ [] → t.state.jobs_made ≡ s.jobs_made → t.state.jobs ≡ s.jobs → Hires s t
hires_none s t none made jobs = record {
  made = let count = ap (λ (ts : List Taking). length ts) none in omega (arith, made, count);
  jobs = λ job a. inl (subst (λ (l : List Job). Among job l) jobs a);
  order = λ p h. subst (λ (l : List Job). EachPair ComesBefore l) (sym jobs) p;
}

no_taking : (s : State) (r : Reply) → IsNoJob r → taking_of s r ≡ []
no_taking s (Taken job) none = absurd none
no_taking s _ none = refl

-- with one job less
hires_fewer : (s : State) (t : Step) (number : ℕ) → taking_of s t.reply ≡ [] → t.state.jobs_made ≡ s.jobs_made → t.state.jobs ≡ without_job number s.jobs → Hires s t
hires_fewer s t number none made jobs = record {
  made = let count = ap (λ (ts : List Taking). length ts) none in omega (arith, made, count);
  jobs = λ job a. inl (left_job number s.jobs job (subst (λ (l : List Job). Among job l) jobs a)).0;
  order = λ p h. subst (λ (l : List Job). EachPair ComesBefore l) (sym jobs) (pairs_filter ComesBefore (λ j. not (is_job number j)) s.jobs p);
}

newly : (meta : Metadata) (s : State) (first : Subscription) (job : Job) → Among job (take_from meta s (Some first)).state.jobs → Among job s.jobs ⊎ Newly s (take_from meta s (Some first)) job
newly meta s first job a =
    elim (job_cases s _ job a) [
      | inl b ↦ inl b
      | inr e ↦ inr (record {
        taking = ap (λ (j : Job). record { state = s; job = j } ∷ []) (sym e);
        number = ap (λ (j : Job). j.number) e;
        version = ap (λ (j : Job). j.version) e;
        subscriptions = refl;
        transactions = refl;
        cohorts = batch meta.batch_size s.due s.subscriptions first;
        members = ap (λ (j : Job). j.members) e;
      })
    ]

hires_one : (meta : Metadata) (s : State) (first : Subscription) → Hires s (take_from meta s (Some first))
hires_one meta s first = record {
  made = omega arith;
  jobs = λ job a. newly meta s first job a;
  order = λ p h. pairs_push ComesBefore s.jobs _ p (λ job a. let low = h job a in omega (arith, low));
}

pub event_hires : (meta : Metadata) (s : State) (e : Event) → Sound s → Hires s (happens meta s e)
event_hires meta s e w =
    by_event meta s e (λ t. Hires s t)
    (record {
      still = λ reply none. hires_none s _ (no_taking s reply none) refl refl;
      opens = λ number new. hires_none s _ refl refl refl;
      closes = λ number reason. hires_none s _ refl refl refl;
      acknowledges = λ number session. hires_none s _ refl refl refl;
      pongs = λ number. hires_none s _ refl refl refl;
      refuses = λ number id fault. hires_none s _ refl refl refl;
      joins = λ number id a j. hires_none s _ refl refl refl;
      completes = λ number id. hires_none s _ refl refl refl;
      goes = λ number. hires_none s _ refl refl refl;
      commits = λ tx db e. hires_none s _ refl refl refl;
      ticks = hires_none s _ refl refl refl;
      takes = λ first e. hires_one meta s first;
      abandons = λ number job at. hires_fewer s (abandon number s (Some job)) number refl refl refl;
      drains = λ number rest text. hires_none s _ refl refl refl;
    })
    (λ number job at.
    hires_fewer s (publish meta number s (Some job)) number refl (publish_moves meta number s job w at).jobs_made
    (published_jobs meta number s job))

-- What an event does to the members of the jobs that are open after it

pub record Steady (s t : State) : Type 0 where
  pub change : Subscription → Subscription
  pub alike : Alike change
  pub more : List Subscription
  pub newer : IsNewer (length s.subscriptions) more
  pub is : t.subscriptions ≡ map change s.subscriptions ++ more
  pub stands : (x : Subscription) → Among x s.subscriptions → (job : Job) → Among job t.jobs → is_member x.number job ≡ true → (change x).cursor ≡ x.cursor

from_other : (s t : State) → Proceeds ⊤ s.subscriptions t.subscriptions → Steady s t
from_other s t p = record { change = p.change; alike = p.alike; more = p.more; newer = p.newer; is = p.is; stands = λ x a job b m. (p.unmoved tt).cursor x }

from_moves : (s t : State) → Moves s t → Steady s t
from_moves s t m = record {
  change = m.change;
  alike = m.alike;
  more = m.more;
  newer = m.newer;
  is = m.subs;
  stands = λ x a job b h. elim (m.moved x a) [ inl same ↦ same | inr free ↦ absurd (true≢false (sym h ∙ free.0 job b)) ];
}

publish_steady : (meta : Metadata) (number : ℕ) (s : State) (o : Option Job) → Sound s → job_at number s.jobs ≡ o → Steady s (publish meta number s o).state
publish_steady meta number s (Some job) w at = from_moves s (publish meta number s (Some job)).state (publish_moves meta number s job w at)
publish_steady meta number s None w at = from_other s s (other_proceeds meta s Skip tt)

pub event_steady : (meta : Metadata) (s : State) (e : Event) → Sound s → Steady s (happens meta s e).state
event_steady meta s (Publish number) w = publish_steady meta number s (job_at number s.jobs) w refl
event_steady meta s e w = from_other s (happens meta s e).state (other_proceeds meta s e tt)

-- What holds of open jobs

pub record WasTaken (ts : List Taking) (s : State) (job : Job) : Type 0 where
  pub taking : Taking
  pub at : slice_get ts (job.number - 1) ≡ Some taking
  pub is : taking.job ≡ job
  pub members : (m : Member) → Among m job.members → StaysIn m.subscription taking.state s
  pub more : List (List TxChange)
  pub grows : s.transactions ≡ taking.state.transactions ++ more
  pub version : job.version ≤ length taking.state.transactions

pub record AreTaken (ts : List Taking) (s : State) : Type 0 where
  pub made : s.jobs_made ≡ length ts
  pub order : EachPair ComesBefore s.jobs
  pub numbered : (job : Job) → Among job s.jobs → (1 ≤ job.number) × (job.number ≤ s.jobs_made)
  pub taken : (job : Job) → Among job s.jobs → WasTaken ts s job

-- a subscription that stays
stays_same : (a : Subscription) → Stays a a
stays_same a = record { number = refl; connection = refl; id = refl; query = refl; cursor = refl }

stays_by : (f : Subscription → Subscription) → Alike f → (a b : Subscription) → (f b).cursor ≡ b.cursor → Stays a b → Stays a (f b)
stays_by f k a b same h = record {
  number = h.number ∙ sym (k.number b);
  connection = h.connection ∙ sym (k.connection b);
  id = h.id ∙ sym (k.id b);
  query = h.query ∙ sym (k.query b);
  cursor = h.cursor ∙ sym same;
}

-- the member of a job, and one that is found for it
found_number : (number : ℕ) (subs : List Subscription) (x : Subscription) → subscription_at number subs ≡ Some x → x.number ≡ number
found_number number subs x e = eqb-true x.number number (found_among (is_subscription number) subs x e).1

pub member_among : (m : Member) (job : Job) → Among m job.members → is_member m.subscription job ≡ true
member_among m job a = among_any (λ (k : Member). k.subscription == m.subscription) m job.members a (eq-eqb m.subscription m.subscription refl)

pub known_found : (number : ℕ) (subs : List Subscription) → IsKnown subs number → (x : Subscription) × (subscription_at number subs ≡ Some x)
known_found number subs k = some_of (subscription_at number subs) (among_found (is_subscription number) k.0 subs k.1 (eq-eqb k.0.number number k.2))

-- the subscription of a number, after an event
steady_at : (s t : State) (m : Steady s t) (number : ℕ) (x : Subscription) → subscription_at number s.subscriptions ≡ Some x → subscription_at number t.subscriptions ≡ Some (m.change x)
steady_at s t m number x e =
    at_proceeded ⊥ s.subscriptions t.subscriptions (record { change = m.change; alike = m.alike; unmoved = λ no. absurd no; more = m.more; newer = m.newer; is = m.is }) number
    ∙ ap (λ (o : Option Subscription). option_or (option_map m.change o) (subscription_at number m.more)) e

stays_on : (s t u : State) (m : Steady t u) (job : Job) (number : ℕ) → Among job u.jobs → is_member number job ≡ true → StaysIn number s t → StaysIn number s u
stays_on s t u m job number a h k =
    let b = k.after in
    let member : is_member b.number job ≡ true = ap (λ (n : ℕ). is_member n job) (found_number number t.subscriptions b k.is) ∙ h in
    record {
      before = k.before;
      after = m.change b;
      was = k.was;
      is = steady_at t u m number b k.is;
      stays = stays_by m.change m.alike k.before b (m.stands b (found_among (is_subscription number) t.subscriptions b k.is).0 job a member) k.stays;
    }

still_taken : (meta : Metadata) (ts own : List Taking) (s : State) (e : Event) (job : Job) → Sound s → Among job (happens meta s e).state.jobs → WasTaken ts s job → WasTaken (ts ++ own) (happens meta s e).state job
still_taken meta ts own s e job w a k =
    let after = (happens meta s e).state in
    let g = event_on meta s e in
    record {
      taking = k.taking;
      at = slice_get-append ts own (job.number - 1) k.taking k.at;
      is = k.is;
      members = λ m b. stays_on k.taking.state s after (event_steady meta s e w) job m.subscription a (member_among m job b) (k.members m b);
      more = k.more ++ g.more;
      grows = g.grows ∙ ap (λ (l : List (List TxChange)). l ++ g.more) k.grows ∙ append_assoc k.taking.state.transactions k.more g.more;
      version = k.version;
    }

newly_taken : (meta : Metadata) (ts : List Taking) (s : State) (e : Event) (job : Job) → Sound s → s.jobs_made ≡ length ts → Among job (happens meta s e).state.jobs → Newly s (happens meta s e) job →
    WasTaken (ts ++ taking_of s (happens meta s e).reply) (happens meta s e).state job
newly_taken meta ts s e job w made a n =
    let after = (happens meta s e).state in
    let number : job.number - 1 ≡ length ts = (let is = n.number in omega (arith, is, made)) in
    let taking : Taking = record { state = s; job = job } in
    let stays : (m : Member) → Among m job.members → StaysIn m.subscription s after = (λ m b.
    let known = known_found m.subscription after.subscriptions ((event_sound meta s e w).members_known job a m.subscription (member_among m job b)) in
    record { before = known.0; after = known.0; was = ap (λ (l : List Subscription). subscription_at m.subscription l) (sym n.subscriptions) ∙ known.1; is = known.1; stays = stays_same known.0 }) in
    record {
      taking = taking;
      at = ap (λ (us : List Taking). slice_get (ts ++ us) (job.number - 1)) n.taking ∙ ap (λ (i : ℕ). slice_get (ts ++ taking ∷ []) i) number ∙ slice_get-push ts taking;
      is = refl;
      members = stays;
      more = [];
      grows = n.transactions ∙ sym (append-nil s.transactions);
      version = let is = n.version in omega (arith, is);
    }

taken_after : (meta : Metadata) (ts : List Taking) (s : State) (e : Event) → Sound s → AreTaken ts s → AreTaken (ts ++ taking_of s (happens meta s e).reply) (happens meta s e).state
taken_after meta ts s e w k =
    let h = event_hires meta s e w in
    let own = taking_of s (happens meta s e).reply in
    record {
      made = let count = length-append ts own in let before = k.made in let now = h.made in omega (arith, count, before, now);
      order = h.order k.order (λ job a. (k.numbered job a).1);
      numbered = λ job a.
          let now = h.made in
          elim (h.jobs job a) [
            | inl b ↦ (let low = (k.numbered job b).0 in let high = (k.numbered job b).1 in (low, omega (arith, high, now)))
            | inr n ↦ (let is = n.number in let one = ap (λ (us : List Taking). length us) n.taking in (omega (arith, is), omega (arith, is, one, now)))
          ];
      taken = λ job a. elim (h.jobs job a) [ inl b ↦ still_taken meta ts own s e job w a (k.taken job b) | inr n ↦ newly_taken meta ts s e job w k.made a n ];
    }

pub are_taken : (meta : Metadata) (h : List Event) → AreTaken (takings meta h) (run meta h)
are_taken meta h =
    run_holds meta AreTaken (record { made = refl; order = tt; numbered = λ job a. absurd a; taken = λ job a. absurd a }) (λ ts s e w k. taken_after meta ts s e w k) h

-- In the words of the laws

pub jobs_are_counted : (meta : Metadata) → JobsAreCounted meta
jobs_are_counted meta h = (are_taken meta h).made

pub jobs_are_numbered : (meta : Metadata) → JobsAreNumbered meta
jobs_are_numbered meta h =
    let k = are_taken meta h in
    record {
      order = k.order;
      numbers = all_from_among _ (run meta h).jobs k.numbered;
      versions = all_from_among _ (run meta h).jobs (run_sound meta h).versions;
    }

pub open_jobs_were_taken : (meta : Metadata) → OpenJobsWereTaken meta
open_jobs_were_taken meta h = all_from_among _ (run meta h).jobs (λ job a. let k = (are_taken meta h).taken job a in (k.taking, k.at, k.is))

-- the taking of an open job is the one at its place
pub its_taking : (ts : List Taking) (s : State) (job : Job) (k : WasTaken ts s job) (t : Taking) → slice_get ts (job.number - 1) ≡ Some t → k.taking ≡ t
its_taking ts s job k t e = cc (sym k.at ∙ e)

pub members_stay : (meta : Metadata) → MembersStay meta
members_stay meta h =
    all_from_among _ (run meta h).jobs
    (λ job a t e.
    let k = (are_taken meta h).taken job a in
    all_from_among _ job.members (λ m b. subst (λ (u : Taking). StaysIn m.subscription u.state (run meta h)) (its_taking (takings meta h) (run meta h) job k t e) (k.members m b)))

pub databases_stay : (meta : Metadata) → DatabasesStay meta
databases_stay meta h =
    all_from_among _ (run meta h).jobs
    (λ job a t e.
    let k = (are_taken meta h).taken job a in
    let now = run meta h in
    ap (λ (u : Taking). database_of meta u.state job) (sym (its_taking (takings meta h) now job k t e))
    ∙ sym (ap (λ (l : List (List TxChange)). snapshot meta.catalog l job.version) k.grows ∙ snapshot_later meta.catalog k.taking.state.transactions k.more job.version k.version))

pub snapshots_stay : (meta : Metadata) → SnapshotsStay meta
snapshots_stay meta = (
  (λ h more version low.
      let g = all_grow meta more (run meta h) in
      ap (λ (s : State). snapshot meta.catalog s.transactions version) (after_all-append meta opening h more)
      ∙ ap (λ (l : List (List TxChange)). snapshot meta.catalog l version) g.1
      ∙ snapshot_later meta.catalog (run meta h).transactions g.0 version low),
  (λ transactions more version low. snapshot_later meta.catalog transactions more version low),
)
