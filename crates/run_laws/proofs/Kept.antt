-- Events of jobs do the same where subscriptions are left out that are neither live nor members of an open job.
use Rattle.std.proofs.Common.{◌≡◌, inl, inr, ◌∙◌, sym, ap, refl, subst, ℕ, nat_lt, ◌==◌, Bool, true, false, ◌&&◌, ◌||◌, not, if◌then◌else◌, Some, None, Option, List, [], ◌∷◌, ◌++◌, length, take, map, filter}
use Rattle.std.specs.Option.{is_some}
use Rattle.std.specs.List.{list_any, find, position_from}
use Rattle.std.proofs.Math.Path.{fun_ext}
use Rattle.std.proofs.lemmas.Bool.{eqb-true}
use Rattle.std.proofs.lemmas.List.Elements.{filter_agree}
use Rattle.data_model.specs.Rows.{Database}
use Rattle.role_model.specs.declared.metadata.Metadata.{Metadata}
use Rattle.plan_model.specs.Outcomes.{Outcome}
use Rattle.query_model.specs.declared.kind.SubKind.{SubKind}
use Rattle.query_model.specs.declared.kind.SubKind.TheVariants.{Live, Once, Stream}
use Rattle.query_model.specs.Results.{result}
use Rattle.machine.specs.State.{State, Subscription, Member, Job, Event, Tick, Take, Publish, Abandon, Ticked, Published, Effect, Step, silent, nothing, with_reply}
use Rattle.machine.specs.Connections.{ended_if, and_then}
use Rattle.machine.specs.Batches.{is_subscription, subscription_at, is_member, are_of_one_cohort, are_polled_together, is_busy, numbers, idle, tick, is_due, first_of_each, batch, member_at, member_of, members_of, next_job, taken_with, take_from, take_job, is_job, job_at, abandon}
use Rattle.machine.specs.Publication.{at_subscription, remembers, moves_to, is_new, publish_once, publish_kind, publish_member, publish_members, close_job, publish, database_of}
use Rattle.machine.specs.Run.{happens, run}
use Rattle.run_laws.specs.Takings.{is_kept, kept, IsOfJobs, AreAlike, KeptAreEnough}
use Rattle.run_laws.proofs.Among.{Among, or_true, or_true_left, or_true_right, and_true, any_among, among_any, found_among}
use Rattle.run_laws.proofs.Cases.{told_live, told_rows}
use Rattle.run_laws.proofs.Within.{Covers, filter_within, any_within, find_within, filter_map_within, filter_mapped}
use Rattle.run_laws.proofs.Apart.{Sound}
use Rattle.run_laws.proofs.Taking.{joined_by}
use Rattle.run_laws.proofs.SoundRuns.{run_sound}
use Rattle.run_laws.proofs.OpenJobs.{event_hires, member_among}

-- live, or a member of one of these jobs
abbrev pub keeps : List Job → Subscription → Bool
keeps jobs sub = sub.live || list_any (is_member sub.number) jobs

abbrev pub narrow : (Subscription → Bool) → State → State
narrow q s = record s { subscriptions = filter q s.subscriptions }

abbrev pub narrow_effect : (Subscription → Bool) → Effect → Effect
narrow_effect q e = record e { state = narrow q e.state }

abbrev pub narrow_step : (Subscription → Bool) → Step → Step
narrow_step q t = record t { state = narrow q t.state }

keeps_live : (jobs : List Job) (x : Subscription) → x.live ≡ true → keeps jobs x ≡ true
keeps_live jobs x h = or_true_left x.live (list_any (is_member x.number) jobs) h

pub keeps_member : (jobs : List Job) (job : Job) (number : ℕ) (x : Subscription) → Among job jobs → x.number ≡ number → is_member number job ≡ true → keeps jobs x ≡ true
keeps_member jobs job number x a e h =
    or_true_right x.live (list_any (is_member x.number) jobs) (among_any (is_member x.number) job jobs a (ap (λ (n : ℕ). is_member n job) e ∙ h))

keeps_due : (s : State) → Sound s → (x : Subscription) → Among x s.subscriptions → is_due s.due x ≡ true → keeps s.jobs x ≡ true
keeps_due s w x a d = keeps_live s.jobs x (w.idle x a d).0

-- Ticks

busy_within : (subs : List Subscription) (jobs : List Job) (x : Subscription) → is_busy (filter (keeps jobs) subs) jobs x ≡ is_busy subs jobs x
busy_within subs jobs x =
    any_within (keeps jobs) (λ other. are_of_one_cohort x other && list_any (is_member other.number) jobs) subs
    (λ y a h. or_true_right y.live (list_any (is_member y.number) jobs) (and_true (are_of_one_cohort x y) (list_any (is_member y.number) jobs) h).1)

idle_within : (subs : List Subscription) (jobs : List Job) → idle (filter (keeps jobs) subs) jobs ≡ idle subs jobs
idle_within subs jobs =
    ap (λ (busy : Subscription → Bool). numbers (filter (λ sub. sub.live && not (busy sub)) (filter (keeps jobs) subs))) (fun_ext (λ x. busy_within subs jobs x))
    ∙ ap numbers (filter_within (keeps jobs) (λ sub. sub.live && not (is_busy subs jobs sub)) subs (λ x a h. keeps_live jobs x (and_true x.live (not (is_busy subs jobs x)) h).0))

tick_within : (s : State) → tick (narrow (is_kept s) s) ≡ narrow_step (is_kept s) (tick s)
tick_within s = ap (λ (due : List ℕ). silent (record (narrow (is_kept s) s) { due = due }) (Ticked (length due))) (idle_within s.subscriptions s.jobs)

-- Takes

batch_within : (size : ℕ) (s : State) → Sound s → (first : Subscription) → batch size s.due (filter (is_kept s) s.subscriptions) first ≡ batch size s.due s.subscriptions first
batch_within size s w first =
    ap (λ (subs : List Subscription). take size (first_of_each [] subs))
    (filter_within (is_kept s) (λ sub. is_due s.due sub && are_polled_together first sub) s.subscriptions (λ x a h. keeps_due s w x a (and_true (is_due s.due x) (are_polled_together first x) h).0))

some_if : {X : Type 0} (b : Bool) (o : Option X) → is_some (if b then o else None) ≡ true → b ≡ true
some_if true o h = refl
some_if false o h = absurd (cc)

members_within : (cohorts subs : List Subscription) (jobs : List Job) → members_of cohorts (filter (keeps jobs) subs) ≡ members_of cohorts subs
members_within cohorts subs jobs =
    filter_map_within (keeps jobs) (member_of cohorts) subs (λ x a h. keeps_live jobs x (some_if x.live (member_at x (position_from (are_of_one_cohort x) 0 cohorts)) h))

taken_within : (meta : Metadata) (s : State) → Sound s → (o : Option Subscription) → take_from meta (narrow (is_kept s) s) o ≡ narrow_step (is_kept s) (take_from meta s o)
taken_within meta s w None = refl
taken_within meta s w (Some first) =
    ap (λ (ms : List Member). taken_with (narrow (is_kept s) s) (next_job s ms))
    (ap (λ (cohorts : List Subscription). members_of cohorts (filter (is_kept s) s.subscriptions)) (batch_within meta.batch_size s w first)
    ∙ members_within (batch meta.batch_size s.due s.subscriptions first) s.subscriptions s.jobs)

take_within : (meta : Metadata) (s : State) → Sound s → take_job meta (narrow (is_kept s) s) ≡ narrow_step (is_kept s) (take_job meta s)
take_within meta s w =
    ap (λ (o : Option Subscription). take_from meta (narrow (is_kept s) s) o) (find_within (is_kept s) (is_due s.due) s.subscriptions (λ x a h. keeps_due s w x a h))
    ∙ taken_within meta s w (find (is_due s.due) s.subscriptions)

-- Abandoned jobs

abandon_within : (number : ℕ) (s : State) → Sound s → (o : Option Job) → abandon number (narrow (is_kept s) s) o ≡ narrow_step (is_kept s) (abandon number s o)
abandon_within number s w None = refl
abandon_within number s w (Some job) =
    let p : Subscription → Bool = λ sub. is_due s.due sub || sub.live && is_member sub.number job in
    ap (λ (due : List ℕ). narrow_step (is_kept s) (record (abandon number s (Some job)) { state = record (abandon number s (Some job)).state { due = due } }))
    (ap numbers
    (filter_within (is_kept s) p s.subscriptions
    (λ x a h. elim (or_true (is_due s.due x) (x.live && is_member x.number job) h) [
      | inl due ↦ keeps_due s w x a due
      | inr both ↦ keeps_live s.jobs x (and_true x.live (is_member x.number job) both).0
    ])))

-- Publications

at_unseen : (jobs : List Job) (number : ℕ) (g : Subscription → Subscription) → ((x : Subscription) → keeps jobs (g x) ≡ keeps jobs x) → (x : Subscription) → keeps jobs (at_subscription number g x) ≡ keeps jobs x
at_unseen jobs number g h x = at_by (x.number == number)
  where
    at_by : (b : Bool) → keeps jobs (if b then g x else x) ≡ keeps jobs x
    at_by true = h x
    at_by false = refl

ended_unseen : (jobs : List Job) (job : Job) (number : ℕ) → Among job jobs → is_member number job ≡ true → (x : Subscription) → keeps jobs (ended_if (is_subscription number) x) ≡ keeps jobs x
ended_unseen jobs job number a h x = ended_by (x.number == number) refl
  where
    ended_by : (b : Bool) → (x.number == number) ≡ b → keeps jobs (if b then record x { live = false } else x) ≡ keeps jobs x
    ended_by true e =
        let same = eqb-true x.number number e in
        keeps_member jobs job number (record x { live = false }) a same h ∙ sym (keeps_member jobs job number x a same h)
    ended_by false e = refl

once_due : (jobs : List Job) (job : Job) (number : ℕ) (s : State) → Among job jobs → is_member number job ≡ true → (n : ℕ) →
    not (list_any (λ sub. sub.number == n && is_subscription number sub) (filter (keeps jobs) s.subscriptions)) ≡ not (list_any (λ sub. sub.number == n && is_subscription number sub) s.subscriptions)
once_due jobs job number s a h n =
    ap not
    (any_within (keeps jobs) (λ sub. sub.number == n && is_subscription number sub) s.subscriptions
    (λ x b e. keeps_member jobs job number x a (eqb-true x.number number (and_true (x.number == n) (x.number == number) e).1) h))

module _ (jobs : List Job) (job : Job) (open_job : Among job jobs) where
  live_within : (s : State) (sub : Subscription) (r : Outcome) → told_live sub r (narrow (keeps jobs) s) ≡ narrow_effect (keeps jobs) (told_live sub r s)
  live_within s sub r =
      ap (λ (subs : List Subscription). record (told_live sub r s) { state = record (told_live sub r s).state { subscriptions = subs } })
      (sym (filter_mapped (keeps jobs) (at_subscription sub.number (remembers r.text)) (at_unseen jobs sub.number (remembers r.text) (λ x. refl)) s.subscriptions))

  rows_within : (s : State) (sub : Subscription) (r : Outcome) → told_rows sub r (narrow (keeps jobs) s) ≡ narrow_effect (keeps jobs) (told_rows sub r s)
  rows_within s sub r =
      ap (λ (subs : List Subscription). record (told_rows sub r s) { state = record (told_rows sub r s).state { subscriptions = subs } })
      (sym (filter_mapped (keeps jobs) (at_subscription sub.number (moves_to r.last)) (at_unseen jobs sub.number (moves_to r.last) (λ x. refl)) s.subscriptions))

  once_within : (s : State) (sub : Subscription) (r : Outcome) → is_member sub.number job ≡ true → publish_once sub r (narrow (keeps jobs) s) ≡ narrow_effect (keeps jobs) (publish_once sub r s)
  once_within s sub r h =
      ap (λ (subs : List Subscription). record (publish_once sub r s) {
        state = record (publish_once sub r s).state {
          subscriptions = subs;
          due = filter (λ n. not (list_any (λ other. other.number == n && is_subscription sub.number other) (filter (keeps jobs) s.subscriptions))) s.due;
        };
      })
      (sym (filter_mapped (keeps jobs) (ended_if (is_subscription sub.number)) (ended_unseen jobs job sub.number open_job h) s.subscriptions))
      ∙ ap (λ (due : List ℕ). record (publish_once sub r s) {
        state = record (publish_once sub r s).state { subscriptions = filter (keeps jobs) (map (ended_if (is_subscription sub.number)) s.subscriptions); due = due };
      }) (filter_agree _ _ (once_due jobs job sub.number s open_job h) s.due)

  kind_within : (s : State) (sub : Subscription) (r : Outcome) → is_member sub.number job ≡ true → (k : SubKind) → publish_kind k sub r (narrow (keeps jobs) s) ≡ narrow_effect (keeps jobs) (publish_kind k sub r s)
  kind_within s sub r h Live = live_by (is_new sub.last r.text)
    where
      live_by : (b : Bool) → (if b then told_live sub r (narrow (keeps jobs) s) else nothing (narrow (keeps jobs) s)) ≡ narrow_effect (keeps jobs) (if b then told_live sub r s else nothing s)
      live_by true = live_within s sub r
      live_by false = refl
  kind_within s sub r h Once = once_within s sub r h
  kind_within s sub r h Stream = stream_by (nat_lt 0 r.rows)
    where
      stream_by : (b : Bool) → (if b then told_rows sub r (narrow (keeps jobs) s) else nothing (narrow (keeps jobs) s)) ≡ narrow_effect (keeps jobs) (if b then told_rows sub r s else nothing s)
      stream_by true = rows_within s sub r
      stream_by false = refl

  member_within : (meta : Metadata) (db : Database) (s : State) (number : ℕ) (o : Option Subscription) → is_member number job ≡ true → subscription_at number s.subscriptions ≡ o →
      publish_member meta db (narrow (keeps jobs) s) o ≡ narrow_effect (keeps jobs) (publish_member meta db s o)
  member_within meta db s number None h at = refl
  member_within meta db s number (Some sub) h at =
      member_by sub.live (kind_within s sub (result meta sub.query sub.cursor db) (ap (λ (n : ℕ). is_member n job) (eqb-true sub.number number (found_among (is_subscription number) s.subscriptions sub at).1) ∙ h) sub.query.kind)
    where
      member_by : (b : Bool) → publish_kind sub.query.kind sub (result meta sub.query sub.cursor db) (narrow (keeps jobs) s) ≡ narrow_effect (keeps jobs) (publish_kind sub.query.kind sub (result meta sub.query sub.cursor db) s) →
          (if b then publish_kind sub.query.kind sub (result meta sub.query sub.cursor db) (narrow (keeps jobs) s) else nothing (narrow (keeps jobs) s))
          ≡ narrow_effect (keeps jobs) (if b then publish_kind sub.query.kind sub (result meta sub.query sub.cursor db) s else nothing s)
      member_by true e = e
      member_by false e = refl

  at_within : (s : State) (number : ℕ) → is_member number job ≡ true → subscription_at number (filter (keeps jobs) s.subscriptions) ≡ subscription_at number s.subscriptions
  at_within s number h = find_within (keeps jobs) (is_subscription number) s.subscriptions (λ x a e. keeps_member jobs job number x open_job (eqb-true x.number number e) h)

  pub published_within : (meta : Metadata) (db : Database) (ms : List Member) (s : State) → ((m : Member) → Among m ms → is_member m.subscription job ≡ true) →
      publish_members meta db ms (narrow (keeps jobs) s) ≡ narrow_effect (keeps jobs) (publish_members meta db ms s)
  published_within meta db [] s h = refl
  published_within meta db (m ∷ ms) s h =
      let own = h m (inl refl) in
      let sub = subscription_at m.subscription s.subscriptions in
      let first = publish_member meta db s sub in
      ap (λ (o : Option Subscription). and_then (publish_member meta db (narrow (keeps jobs) s) o) (λ t. publish_members meta db ms t)) (at_within s m.subscription own)
      ∙ ap (λ (e : Effect). and_then e (λ t. publish_members meta db ms t)) (member_within meta db s m.subscription sub own refl)
      ∙ ap (λ (e : Effect). record { state = e.state; queued = first.queued ++ e.queued; closed = first.closed ++ e.closed }) (published_within meta db ms first.state (λ k a. h k (inr a)))

publish_within : (meta : Metadata) (number : ℕ) (s : State) (o : Option Job) → job_at number s.jobs ≡ o → publish meta number (narrow (is_kept s) s) o ≡ narrow_step (is_kept s) (publish meta number s o)
publish_within meta number s None at = refl
publish_within meta number s (Some job) at =
    ap (λ (e : Effect). with_reply (Published job.version) (close_job number e))
    (published_within s.jobs job (found_among (is_job number) s.jobs job at).0 meta (database_of meta s job) job.members s (λ m a. member_among m job a))

-- All of them

pub happens_within : (meta : Metadata) (s : State) (e : Event) → Sound s → IsOfJobs e → happens meta (kept s) e ≡ narrow_step (is_kept s) (happens meta s e)
happens_within meta s Tick w of = tick_within s
happens_within meta s Take w of = take_within meta s w
happens_within meta s (Publish job) w of = publish_within meta job s (job_at job s.jobs) refl
happens_within meta s (Abandon job) w of = abandon_within job s w (job_at job s.jobs)
happens_within meta s _ w of = absurd of

-- whoever is kept after an event was kept by the jobs before it
kept_before : (meta : Metadata) (s : State) (e : Event) → Sound s → Covers (is_kept s) (is_kept (happens meta s e).state) (happens meta s e).state.subscriptions
kept_before meta s e w x a h =
    let after = (happens meta s e).state in
    elim (or_true x.live (list_any (is_member x.number) after.jobs) h) [
      | inl live ↦ keeps_live s.jobs x live
      | inr member ↦
          (let j = any_among (is_member x.number) after.jobs member in
          elim ((event_hires meta s e w).jobs j.0 j.1) [
            | inl b ↦ keeps_member s.jobs j.0 x.number x b refl j.2
            | inr n ↦
                (let before = subst (λ (l : List Subscription). Among x l) n.subscriptions a in
                let own : is_member x.number (next_job s (members_of n.cohorts s.subscriptions)) ≡ true = ap (λ (ms : List Member). list_any (λ m. m.subscription == x.number) ms) (sym n.members) ∙ j.2 in
                keeps_live s.jobs x (and_true x.live (list_any (are_of_one_cohort x) n.cohorts) (joined_by s w n.cohorts x before own)).0)
          ])
    ]

alike_within : (meta : Metadata) (s : State) (e : Event) → Sound s → (t : Step) → t ≡ narrow_step (is_kept s) (happens meta s e) → AreAlike t (happens meta s e)
alike_within meta s e w t is =
    let after = (happens meta s e).state in
    record {
      reply = ap (λ (u : Step). u.reply) is;
      queued = ap (λ (u : Step). u.queued) is;
      closed = ap (λ (u : Step). u.closed) is;
      due = ap (λ (u : Step). u.state.due) is;
      jobs = ap (λ (u : Step). u.state.jobs) is;
      kept = ap (λ (u : Step). kept u.state) is
          ∙ ap (λ (subs : List Subscription). record after { subscriptions = subs }) (filter_within (is_kept s) (is_kept after) after.subscriptions (kept_before meta s e w));
    }

pub kept_are_enough : (meta : Metadata) → KeptAreEnough meta
kept_are_enough meta h e of = let s = run meta h in alike_within meta s e (run_sound meta h) (happens meta (kept s) e) (happens_within meta s e (run_sound meta h) of)
