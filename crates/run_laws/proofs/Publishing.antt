-- A publication keeps jobs apart: it moves members of its own job alone, and that job closes.
use Rattle.std.proofs.Common.{◌≡◌, ◌⊎◌, inl, inr, ◌∙◌, sym, ap, refl, subst, ℕ, ◌==◌, Bool, true, false, not, ◌&&◌, if◌then◌else◌, Some, None, Option, List, [], ◌∷◌, append-nil, length, map, arith}
use Rattle.std.specs.List.{list_any}
use Rattle.std.proofs.lemmas.Bool.{eqb-true, eq-eqb, eqb-false, true≢false, not-true, cases_Bool}
use Rattle.data_model.specs.Rows.{Database}
use Rattle.data_model.specs.declared.transaction.TxChange.{TxChange}
use Rattle.role_model.specs.declared.metadata.Metadata.{Metadata}
use Rattle.plan_model.specs.Outcomes.{Outcome}
use Rattle.query_model.specs.Results.{result}
use Rattle.machine.specs.State.{State, Subscription, Member, Job}
use Rattle.machine.specs.Connections.{ended_if}
use Rattle.machine.specs.Batches.{is_subscription, subscription_at, is_member, is_due, is_job, job_at, without_job}
use Rattle.machine.specs.Publication.{at_subscription, remembers, moves_to, publish_once, publish_member, publish_members, publish, database_of}
use Rattle.run_laws.specs.Laws.{EachPair}
use Rattle.run_laws.proofs.Cases.{told_live, told_rows, member_case}
use Rattle.run_laws.proofs.Tests.{map_map, map_same}
use Rattle.run_laws.proofs.Among.{Among, among_filter, among_any, found_among, not_true, pairs_filter}
use Rattle.run_laws.proofs.Following.{Alike, same_alike, then_alike, at_alike, remembers_alike, moves_alike, ended_alike, ended_unmoved}
use Rattle.run_laws.proofs.Apart.{HaveOtherNumbers, Sound, busy_by, cohort_own}
use Rattle.run_laws.proofs.Moves.{Moves, moves_sound, DueLive, sound_live, due_live_mapped, due_live_ended, same_due, among_mapped}

-- from one turn to a later one in the publication of a job
pub record Publishing (job : Job) (s t : State) : Type 0 where
  pub change : Subscription → Subscription
  pub alike : Alike change
  pub subs : t.subscriptions ≡ map change s.subscriptions
  pub moved : (x : Subscription) → ((change x).cursor ≡ x.cursor) ⊎ (is_member x.number job ≡ true)
  pub due_in : (number : ℕ) → Among number t.due → Among number s.due
  pub due_live : DueLive s.subscriptions s.due → DueLive t.subscriptions t.due
  pub jobs : t.jobs ≡ s.jobs
  pub jobs_made : t.jobs_made ≡ s.jobs_made
  pub transactions : t.transactions ≡ s.transactions

publishing_same : (job : Job) (s : State) → Publishing job s s
publishing_same job s = record {
  change = λ x. x;
  alike = same_alike;
  subs = sym (map_same s.subscriptions);
  moved = λ x. inl refl;
  due_in = λ number a. a;
  due_live = λ h. h;
  jobs = refl;
  jobs_made = refl;
  transactions = refl;
}

moved_then : (job : Job) (f g : Subscription → Subscription) → Alike f → (x : Subscription) → ((f x).cursor ≡ x.cursor) ⊎ (is_member x.number job ≡ true) → ((g (f x)).cursor ≡ (f x).cursor) ⊎ (is_member (f x).number job ≡ true) →
    ((g (f x)).cursor ≡ x.cursor) ⊎ (is_member x.number job ≡ true)
moved_then job f g k x (inr h) b = inr h
moved_then job f g k x (inl e) (inl i) = inl (i ∙ e)
moved_then job f g k x (inl e) (inr h) = inr (ap (λ (n : ℕ). is_member n job) (sym (k.number x)) ∙ h)

publishing_then : (job : Job) (s t u : State) → Publishing job s t → Publishing job t u → Publishing job s u
publishing_then job s t u p q = record {
  change = λ x. q.change (p.change x);
  alike = then_alike p.change q.change p.alike q.alike;
  subs = q.subs ∙ ap (λ (l : List Subscription). map q.change l) p.subs ∙ map_map p.change q.change s.subscriptions;
  moved = λ x. moved_then job p.change q.change p.alike x (p.moved x) (q.moved (p.change x));
  due_in = λ number a. p.due_in number (q.due_in number a);
  due_live = λ h. q.due_live (p.due_live h);
  jobs = q.jobs ∙ p.jobs;
  jobs_made = q.jobs_made ∙ p.jobs_made;
  transactions = q.transactions ∙ p.transactions;
}

same_live : (g : Subscription → Subscription) (b : Bool) (x : Subscription) → (g x).live ≡ x.live → (if b then g x else x).live ≡ x.live
same_live g true x h = h
same_live g false x h = refl

same_cursor : (g : Subscription → Subscription) (b : Bool) (x : Subscription) → (g x).cursor ≡ x.cursor → (if b then g x else x).cursor ≡ x.cursor
same_cursor g true x h = h
same_cursor g false x h = refl

kept_cursor : (g : Subscription → Subscription) (b : Bool) (x : Subscription) → b ≡ false → (if b then g x else x).cursor ≡ x.cursor
kept_cursor g true x h = absurd (cc)
kept_cursor g false x h = refl

-- a subscription remembers its text, ends, or moves on
remembering : (job : Job) (s : State) (sub : Subscription) (r : Outcome) → Publishing job s (told_live sub r s).state
remembering job s sub r = record {
  change = at_subscription sub.number (remembers r.text);
  alike = at_alike sub.number (remembers r.text) (remembers_alike r.text);
  subs = refl;
  moved = λ x. inl (same_cursor (remembers r.text) (x.number == sub.number) x refl);
  due_in = λ number a. a;
  due_live = λ h. due_live_mapped (at_subscription sub.number (remembers r.text)) (at_alike sub.number (remembers r.text) (remembers_alike r.text)) (λ x. same_live (remembers r.text) (x.number == sub.number) x refl) s.subscriptions s.due h;
  jobs = refl;
  jobs_made = refl;
  transactions = refl;
}

ending : (job : Job) (s : State) (sub : Subscription) (r : Outcome) → Publishing job s (publish_once sub r s).state
ending job s sub r = record {
  change = ended_if (is_subscription sub.number);
  alike = ended_alike (is_subscription sub.number);
  subs = refl;
  moved = λ x. inl ((ended_unmoved (is_subscription sub.number)).cursor x);
  due_in = λ number a. (among_filter (λ n. not (list_any (λ other. other.number == n && is_subscription sub.number other) s.subscriptions)) number s.due a).0;
  due_live = λ h. due_live_ended (is_subscription sub.number) s.subscriptions s.due h;
  jobs = refl;
  jobs_made = refl;
  transactions = refl;
}

moving : (job : Job) (s : State) (sub : Subscription) (r : Outcome) → is_member sub.number job ≡ true → Publishing job s (told_rows sub r s).state
moving job s sub r member = record {
  change = at_subscription sub.number (moves_to r.last);
  alike = at_alike sub.number (moves_to r.last) (moves_alike r.last);
  subs = refl;
  moved = λ x.
      elim (cases_Bool (x.number == sub.number)) [
        | inl same ↦ inr (ap (λ (n : ℕ). is_member n job) (eqb-true x.number sub.number same) ∙ member)
        | inr other ↦ inl (kept_cursor (moves_to r.last) (x.number == sub.number) x other)
      ];
  due_in = λ number a. a;
  due_live = λ h. due_live_mapped (at_subscription sub.number (moves_to r.last)) (at_alike sub.number (moves_to r.last) (moves_alike r.last)) (λ x. same_live (moves_to r.last) (x.number == sub.number) x refl) s.subscriptions s.due h;
  jobs = refl;
  jobs_made = refl;
  transactions = refl;
}

member_publishing : (meta : Metadata) (db : Database) (job : Job) (m : Member) (s : State) (o : Option Subscription) → subscription_at m.subscription s.subscriptions ≡ o → Among m job.members → Publishing job s (publish_member meta db s o).state
member_publishing meta db job m s o at a =
    member_case meta db s (λ e. Publishing job s e.state) (publishing_same job s) o
    (λ sub is live.
    let r = result meta sub.query sub.cursor db in
    let passes = (found_among (is_subscription m.subscription) s.subscriptions sub (at ∙ is)).1 in
    let number = eqb-true sub.number m.subscription passes in
    let member : is_member sub.number job ≡ true = among_any (λ (k : Member). k.subscription == sub.number) m job.members a (eq-eqb m.subscription sub.number (sym number)) in
    record { live = remembering job s sub r; once = ending job s sub r; stream = λ kind. moving job s sub r member })

pub members_publishing : (meta : Metadata) (db : Database) (job : Job) (ms : List Member) (s : State) → ((m : Member) → Among m ms → Among m job.members) → Publishing job s (publish_members meta db ms s).state
members_publishing meta db job [] s h = publishing_same job s
members_publishing meta db job (m ∷ ms) s h =
    let sub = subscription_at m.subscription s.subscriptions in
    let after = (publish_member meta db s sub).state in
    publishing_then job s after (publish_members meta db ms after).state (member_publishing meta db job m s sub refl (h m (inl refl))) (members_publishing meta db job ms after (λ k a. h k (inr a)))

-- a job that is left has another number
pub left_job : (number : ℕ) (jobs : List Job) (job : Job) → Among job (without_job number jobs) → Among job jobs × ((job.number == number) ≡ false)
left_job number jobs job a = let r = among_filter (λ j. not (is_job number j)) job jobs a in (r.0, not-true (is_job number job) r.1)

-- no member of the job that is published is one of another job, or due
pub others_free : (s : State) → Sound s → (number : ℕ) (job : Job) → job_at number s.jobs ≡ Some job → (x : Subscription) → Among x s.subscriptions → is_member x.number job ≡ true →
    ((other : Job) → Among other (without_job number s.jobs) → is_member x.number other ≡ false) × (is_due s.due x ≡ false)
others_free s w number job at x a h =
    let found = found_among (is_job number) s.jobs job at in
    let is = eqb-true job.number number found.1 in (
      (λ other b.
          let left = left_job number s.jobs other b in
          not_true (is_member x.number other) (λ i. eqb-false other.number number left.1 (w.apart other job left.0 found.0 x x a a (cohort_own x) i h ∙ is))),
      not_true (is_due s.due x) (λ d. true≢false (sym (busy_by s.subscriptions s.jobs x x job a found.0 (cohort_own x) h) ∙ (w.idle x a d).1)),
    )

pub publish_moves : (meta : Metadata) (number : ℕ) (s : State) (job : Job) → Sound s → job_at number s.jobs ≡ Some job → Moves s (publish meta number s (Some job)).state
publish_moves meta number s job w at =
    let p = members_publishing meta (database_of meta s job) job job.members s (λ m a. a) in
    let last = (publish_members meta (database_of meta s job) job.members s).state in
    record {
      change = p.change;
      alike = p.alike;
      more = [];
      newer = tt;
      subs = p.subs ∙ sym (append-nil (map p.change s.subscriptions));
      jobs_in = λ other a. (left_job number s.jobs other (subst (λ (l : List Job). Among other (without_job number l)) p.jobs a)).0;
      distinct = pairs_filter HaveOtherNumbers (λ j. not (is_job number j)) last.jobs (subst (λ (l : List Job). EachPair HaveOtherNumbers l) (sym p.jobs) w.distinct);
      due_in = p.due_in;
      due_live = λ x a d.
          p.due_live (sound_live s w) (p.change x) (subst (λ (l : List Subscription). Among (p.change x) l) (sym p.subs) (among_mapped p.change x s.subscriptions a)) (same_due last.due (p.change x) x (p.alike.number x) ∙ d);
      moved = λ x a.
          elim (p.moved x) [
            | inl same ↦ inl same
            | inr member ↦ (let free = others_free s w number job at x a member in inr ((λ other b. free.0 other (subst (λ (l : List Job). Among other (without_job number l)) p.jobs b)), free.1))
          ];
      jobs_made = p.jobs_made;
      later = let same = ap (λ (l : List (List TxChange)). length l) p.transactions in omega (arith, same);
    }

pub publish_sound : (meta : Metadata) (number : ℕ) (s : State) (o : Option Job) → Sound s → job_at number s.jobs ≡ o → Sound (publish meta number s o).state
publish_sound meta number s (Some job) w at = moves_sound s (publish meta number s (Some job)).state w (publish_moves meta number s job w at)
publish_sound meta number s None w at = w
