-- The end of a job, in what is kept, and its abandonment.
use Rattle.std.proofs.Common.{◌≡◌, ◌∙◌, sym, ap, refl, subst, ℕ, ◌+◌, ◌==◌, Bool, true, false, ◌&&◌, ◌||◌, not}
use Rattle.std.proofs.Common.{if◌then◌else◌, Some, None, Option, List, [], ◌∷◌, map}
use Rattle.std.specs.Option.{option_map, is_some}
use Rattle.std.specs.List.{list_any, filter, find, AllZip}
use Rattle.std.proofs.lemmas.Bool.{eqb-true, eq-eqb}
use Rattle.cohort_map.specs.declared.member.Member.{Member}
use Rattle.cohort_map.specs.Entries.{Entry, has, is_entry}
use Rattle.cohort_map.specs.Batches as batches
use Rattle.subscription_table.specs.declared.held.Held.{Held}
use Rattle.subscription_table.specs.Kept.{without}
use Rattle.machine.specs.State as machine
use Rattle.machine.specs.State.{State, Subscription, Event, Abandon, Abandoned, NotOpen, silent}
use Rattle.machine.specs.Batches.{is_member, is_due, numbers, is_job, without_job, abandon}
use Rattle.machine.specs.Batches as machines
use Rattle.machine.specs.Run.{run}
use Rattle.role_model.specs.declared.metadata.Metadata.{Metadata}
use Rattle.hub_model.specs.declared.job.OpenJob.{OpenJob}
use Rattle.hub_model.specs.Kept.{Kept, is_kept, kept_of, job_with, member_of, open_job, entry_of, Holds, Represents}
use Rattle.hub_model.specs.Stands.{Does}
use Rattle.hub_model.specs.Steps.{counted, is_open_job, job_at, clears, closes_job}
use Rattle.hub_model.proofs.Items.{Among, Ascend, ascend_apart, among_filter, filter_among, any_among, among_any}
use Rattle.hub_model.proofs.Items.{not_any, any_none, found_among, or_true_right, and_true, not_true, not_both}
use Rattle.hub_model.proofs.Items.{not_not, and_yes, and_no, same_test, none_of, any_mapped, filter_same, filter_both}
use Rattle.hub_model.proofs.Items.{filter_all, filter_mapped, find_mapped}
use Rattle.hub_model.proofs.Filtered.{by_test, among_found, filter_kept, find_kept, filter_map_mapped, made_of_kept}
use Rattle.hub_model.proofs.Zipped.{zip_filter}
use Rattle.hub_model.proofs.Ends.{some_job}
use Rattle.hub_model.proofs.Ticks.{entries_of}
use Rattle.hub_model.proofs.JobFacts.{AreNumbered, JobsApart, one_of_number, number_left}
use Rattle.hub_model.proofs.Reached.{IsRun}
use Rattle.hub_model.proofs.Standing.{does, counts}

-- open jobs have numbers and members of their own
pub record AreOpen (jobs : List machine.Job) : Type 0 where
  pub numbers : Ascend (map (λ job. job.number) jobs)
  pub members : (i j : machine.Job) → Among i jobs → Among j jobs → (number : ℕ) → is_member number i ≡ true →
      is_member number j ≡ true → i.number ≡ j.number

pub are_open : (s : State) → IsRun s → JobsApart s → AreOpen s.jobs
are_open s w v = record { numbers = w.jobs_ascend; members = v.members }

-- ---- the job of a member

abbrev number_of : machine.Job → ℕ
number_of job = job.number

by_found : (n number : ℕ) (o : Option machine.Job) (j : machine.Job) → o ≡ Some j → (j.number == number) ≡ true →
    batches.is_job number (option_map number_of o) ≡ true
by_found n number o j e h = rw e h

-- a member of the job that ends is one of no other
pub record Ends (number n : ℕ) (jobs : List machine.Job) : Type 0 where
  pub marked : batches.is_job number (job_with n jobs) ≡ true
  pub free : list_any (is_member n) (without_job number jobs) ≡ false
  pub none : job_with n (without_job number jobs) ≡ None

ends : (jobs : List machine.Job) → AreOpen jobs → (number n : ℕ) (job : machine.Job) → Among job jobs →
    job.number ≡ number →
    is_member n job ≡ true → Ends number n jobs
ends jobs w number n job a e m =
    let found = among_found (is_member n) job jobs a m in
    let is = found_among (is_member n) jobs found.0 found.1 in
    let same : found.0.number ≡ number = w.members found.0 job is.0 a n is.1 m ∙ e in
    let free : list_any (is_member n) (without_job number jobs) ≡ false =
    not_any (is_member n) (without_job number jobs)
    (λ j b h.
    let left = among_filter (λ job. not (is_job number job)) j jobs b in
    not_both (j.number == number) (eq-eqb j.number number (w.members j job left.0 a n h m ∙ e))
    (not_not (j.number == number) left.1)) in
    record {
      marked = by_found n number (find (is_member n) jobs) found.0 found.1 (eq-eqb found.0.number number same);
      free = free;
      none = none_of (job_with n (without_job number jobs)) (some_job n (without_job number jobs) ∙ free);
    }

-- who is no member of it stays with its own
pub record Stays (number n : ℕ) (jobs : List machine.Job) : Type 0 where
  pub marked : batches.is_job number (job_with n jobs) ≡ false
  pub with : job_with n (without_job number jobs) ≡ job_with n jobs

not_found : (n number : ℕ) (jobs : List machine.Job) (o : Option machine.Job) → find (is_member n) jobs ≡ o →
    ((j : machine.Job) → Among j jobs → is_member n j ≡ true → (j.number == number) ≡ false) →
    batches.is_job number (option_map number_of o) ≡ false
not_found n number jobs (Some j) e h = let is = found_among (is_member n) jobs j e in h j is.0 is.1
not_found n number jobs None e h = refl

stays : (jobs : List machine.Job) → AreOpen jobs → (number n : ℕ) (job : machine.Job) → Among job jobs →
    job.number ≡ number →
    is_member n job ≡ false → Stays number n jobs
stays jobs w number n job a e m =
    let other : (j : machine.Job) → Among j jobs → is_member n j ≡ true → (j.number == number) ≡ false =
    (λ j b h. not_true (j.number == number)
    (λ same.
    let is : j ≡ job = ascend_apart number_of jobs w.numbers j job b a (eqb-true j.number number same ∙ sym e) in
    not_both (is_member n job) (ap (is_member n) (sym is) ∙ h) m)) in
    record {
      marked = not_found n number jobs (find (is_member n) jobs) refl other;
      with = ap (option_map number_of)
          (find_kept (is_member n) (λ job. not (is_job number job)) jobs (λ j b h. ap not (other j b h)));
    }

-- ---- what is held of members

-- what is held of a number stays, but where it is a member's that isn't kept any more
abbrev stays_held : List Member → List Entry → ℕ → Bool
stays_held members entries number = not (list_any (λ (m : Member). number == m.sub && not (has m.sub entries)) members)

held_one : (m : Member) (ms : List Member) (entries : List Entry) (held : List Held) (there : Bool) →
    has m.sub entries ≡ there →
    filter (λ (h : Held). stays_held ms entries h.number)
    (if there then held else without m.sub held)
    ≡ filter (λ (h : Held). stays_held (m ∷ ms) entries h.number) held
held_one m ms entries held true e =
    filter_same _ _ held
    (λ h a. ap (λ (b : Bool). not (b || list_any (λ (m : Member). h.number == m.sub && not (has m.sub entries)) ms))
    (sym (ap (λ (b : Bool). h.number == m.sub && not b) e ∙ and_no (h.number == m.sub))))
held_one m ms entries held false e =
    filter_both (λ (h : Held). stays_held ms entries h.number) (λ (h : Held). not (h.number == m.sub)) held
    ∙ filter_same _ _ held
    (λ h a. not_either (h.number == m.sub) (list_any (λ (m : Member). h.number == m.sub && not (has m.sub entries)) ms)
    ∙ ap (λ (b : Bool). not (b || list_any (λ (m : Member). h.number == m.sub && not (has m.sub entries)) ms))
    (sym (ap (λ (b : Bool). h.number == m.sub && not b) e ∙ and_yes (h.number == m.sub))))
  where
    not_either : (a b : Bool) → (not a && not b) ≡ not (a || b)
    not_either true b = refl
    not_either false b = refl

clears_is : (members : List Member) (k : Kept) →
    clears members k ≡ record k { held = filter (λ (h : Held). stays_held members k.entries h.number) k.held }
clears_is [] k = ap (λ (held : List Held). record k { held = held }) (sym (filter_all _ k.held (λ h a. refl)))
clears_is (m ∷ ms) k =
    clears_is ms (record k { held = if has m.sub k.entries then k.held else without m.sub k.held })
    ∙ ap (λ (held : List Held). record k { held = held }) (held_one m ms k.entries k.held (has m.sub k.entries) refl)

-- ---- the state after the end of a job

module _ (s : State) (number : ℕ) (job : machine.Job) (due : Bool) (after : List ℕ)
    (numbered : AreNumbered s.subscriptions)
    (w : AreOpen s.jobs) (is_open : Among job s.jobs) (own : job.number ≡ number)
    (due_is : (x : Subscription) → Among x s.subscriptions →
    is_due after x ≡ (is_due s.due x || due && (x.live && is_member x.number job))) where
  abbrev left : List machine.Job
  left = without_job number s.jobs

  abbrev ended : State
  ended = record s { due = after; jobs = left }

  -- who is no member of the job is kept as before
  still_kept : (x : Subscription) → is_member x.number job ≡ false → is_kept left x ≡ is_kept s.jobs x
  still_kept x m =
      ap (λ (b : Bool). x.live || b)
      (sym (some_job x.number left)
      ∙ ap is_some (stays s.jobs w number x.number job is_open own m).with
      ∙ some_job x.number s.jobs)

  -- nobody is kept who wasn't
  kept_before : (x : Subscription) → is_kept left x ≡ true → is_kept s.jobs x ≡ true
  kept_before x h =
      by_test (is_kept s.jobs x ≡ true) (is_member x.number job)
      (λ m. or_true_right x.live (list_any (is_member x.number) s.jobs)
      (among_any (is_member x.number) job s.jobs is_open m))
      (λ m. sym (still_kept x m) ∙ h)

  kept_after : filter (is_kept left) (kept_of s) ≡ kept_of ended
  kept_after = filter_kept (is_kept left) (is_kept s.jobs) s.subscriptions (λ x a h. kept_before x h)

  freed_live : (x : Subscription) (d : Bool) → Ends number x.number s.jobs → is_due after x ≡ (is_due s.due x || d) →
      (live : Bool) → x.live ≡ live → d ≡ (due && live) →
      (if live then Some (record (entry_of s x) { due = is_due s.due x || due; job = None }) else None)
      ≡ (if live || list_any (is_member x.number) left then Some (entry_of ended x) else None)
  freed_live x d f h true e i =
      let now : (is_due s.due x || due) ≡ is_due after x =
      ap (λ (b : Bool). is_due s.due x || b) (sym (i ∙ and_yes due)) ∙ sym h in
      λ j. Some (record (entry_of s x) { due = now j; job = sym f.none j })
  freed_live x d f h false e i = rw f.free refl

  freed_member : (x : Subscription) → Among x s.subscriptions → is_member x.number job ≡ true →
      batches.freed number due (entry_of s x) ≡ (if is_kept left x then Some (entry_of ended x) else None)
  freed_member x a m =
      let f = ends s.jobs w number x.number job is_open own m in
      let now : is_due after x ≡ (is_due s.due x || due && x.live) =
      due_is x a ∙ ap (λ (b : Bool). is_due s.due x || due && b) (ap (λ (b : Bool). x.live && b) m ∙ and_yes x.live) in
      ap (λ (b : Bool). if b then batches.unmarked due (entry_of s x) else Some (entry_of s x)) f.marked
      ∙ freed_live x (due && x.live) f now x.live refl refl

  freed_other : (x : Subscription) → Among x s.subscriptions → is_kept s.jobs x ≡ true →
      is_member x.number job ≡ false →
      batches.freed number due (entry_of s x) ≡ (if is_kept left x then Some (entry_of ended x) else None)
  freed_other x a k m =
      let f = stays s.jobs w number x.number job is_open own m in
      let now : is_due after x ≡ is_due s.due x =
      due_is x a
      ∙ ap (λ (b : Bool). is_due s.due x || due && b) (ap (λ (b : Bool). x.live && b) m ∙ and_no x.live)
      ∙ ap (λ (b : Bool). is_due s.due x || b) (and_no due)
      ∙ or_no (is_due s.due x) in
      let same : entry_of s x ≡ entry_of ended x = λ j. record (entry_of s x) { due = sym now j; job = sym f.with j } in
      ap (λ (b : Bool). if b then batches.unmarked due (entry_of s x) else Some (entry_of s x)) f.marked
      ∙ ap (λ (e : Entry). Some e) same
      ∙ ap (λ (b : Bool). if b then Some (entry_of ended x) else None) (sym (still_kept x m ∙ k))
    where
      or_no : (b : Bool) → (b || false) ≡ b
      or_no true = refl
      or_no false = refl

  freed_is : (x : Subscription) → Among x (kept_of s) →
      batches.freed number due (entry_of s x) ≡ (if is_kept left x then Some (entry_of ended x) else None)
  freed_is x a =
      let kept = among_filter (is_kept s.jobs) x s.subscriptions a in
      by_test _ (is_member x.number job) (λ m. freed_member x kept.0 m) (λ m. freed_other x kept.0 kept.1 m)

  closed_entries : batches.closed number due (entries_of s) ≡ entries_of ended
  closed_entries =
      filter_map_mapped (batches.freed number due) (entry_of s) (kept_of s)
      ∙ made_of_kept (λ (x : Subscription). batches.freed number due (entry_of s x)) (is_kept left) (entry_of ended)
      (kept_of s) freed_is
      ∙ ap (map (entry_of ended)) kept_after

  -- whoever is kept has an entry
  has_entry : (n : ℕ) → has n (entries_of ended) ≡ list_any (λ (x : Subscription). x.number == n) (kept_of ended)
  has_entry n = any_mapped (is_entry n) (entry_of ended) (kept_of ended)

  abbrev gone : List Member → Subscription → Member → Bool
  gone members x m = x.number == m.sub && not (has m.sub (entries_of ended))

  still_there : (a b : Bool) → a ≡ true → (a && not b) ≡ false → b ≡ true
  still_there true true e h = refl
  still_there true false e h = sym h
  still_there false b e h = cc

  -- a member whose entry stays is kept
  member_kept : (x : Subscription) → Among x s.subscriptions → (n : ℕ) → n ≡ x.number →
      has n (entries_of ended) ≡ true →
      is_kept left x ≡ true
  member_kept x a n e there =
      let y = any_among (λ (y : Subscription). y.number == n) (kept_of ended) (sym (has_entry n) ∙ there) in
      let left_in = among_filter (is_kept left) y.0 s.subscriptions y.1 in
      let same : y.0 ≡ x = one_of_number s.subscriptions numbered y.0 x left_in.0 a (eqb-true y.0.number n y.2 ∙ e) in
      ap (is_kept left) (sym same) ∙ left_in.1

  kept_if_held : (members : List Member) → map member_of members ≡ job.members → (x : Subscription) →
      Among x s.subscriptions →
      is_member x.number job ≡ true → list_any (gone members x) members ≡ false → is_kept left x ≡ true
  kept_if_held members is x a m none =
      let found = any_among (λ (m : Member). m.sub == x.number) members
      (sym (any_mapped (λ (m : machine.Member). m.subscription == x.number) member_of members)
      ∙ ap (list_any (λ (m : machine.Member). m.subscription == x.number)) is
      ∙ m) in
      let number_is : found.0.sub ≡ x.number = eqb-true found.0.sub x.number found.2 in
      member_kept x a found.0.sub number_is
      (still_there (x.number == found.0.sub) (has found.0.sub (entries_of ended))
      (eq-eqb x.number found.0.sub (sym number_is))
      (any_none (gone members x) members none found.0 found.1))

  held_if_kept : (members : List Member) (x : Subscription) → Among x s.subscriptions → is_kept left x ≡ true →
      list_any (gone members x) members ≡ false
  held_if_kept members x a k =
      not_any (gone members x) members
      (λ m b both.
      let parts = and_true (x.number == m.sub) (not (has m.sub (entries_of ended))) both in
      let there = has_entry m.sub
      ∙ among_any (λ (y : Subscription). y.number == m.sub) x (kept_of ended)
      (filter_among (is_kept left) x s.subscriptions a k) parts.0 in
      not_both (has m.sub (entries_of ended)) there (not_not (has m.sub (entries_of ended)) parts.1))

  held_same : (members : List Member) → map member_of members ≡ job.members → (x : Subscription) → Among x (kept_of s) →
      stays_held members (entries_of ended) x.number ≡ is_kept left x
  held_same members is x a =
      let kept = among_filter (is_kept s.jobs) x s.subscriptions a in
      same_test _ _
      (λ h.
      by_test (is_kept left x ≡ true) (is_member x.number job)
      (λ m. kept_if_held members is x kept.0 m (not_not (list_any (gone members x) members) h))
      (λ m. still_kept x m ∙ kept.1))
      (λ h. ap not (held_if_kept members x kept.0 h))

  held_after : (meta : Metadata) (held : List Held) (members : List Member) → map member_of members ≡ job.members →
      AllZip (Holds meta) (kept_of s) held →
      AllZip (Holds meta) (kept_of ended) (filter (λ (h : Held). stays_held members (entries_of ended) h.number) held)
  held_after meta held members is all =
      subst (λ (subs : List Subscription). AllZip (Holds meta) subs
      (filter (λ (h : Held). stays_held members (entries_of ended) h.number) held))
      (filter_same (λ (x : Subscription). stays_held members (entries_of ended) x.number) (is_kept left) (kept_of s)
      (held_same members is) ∙ kept_after)
      (zip_filter (Holds meta) (λ (x : Subscription). stays_held members (entries_of ended) x.number)
      (λ (h : Held). stays_held members (entries_of ended) h.number)
      (λ x h r. ap (stays_held members (entries_of ended)) (sym r.number)) (kept_of s) held all)

-- ---- what is kept after the end of a job

closes_held : (k : Kept) (s : State) (number : ℕ) (job : OpenJob) (due : Bool) (after : List ℕ) →
    AreNumbered s.subscriptions → AreOpen s.jobs →
    Among (open_job job) s.jobs → job.number ≡ number →
    ((x : Subscription) → Among x s.subscriptions →
    is_due after x ≡ (is_due s.due x || due && (x.live && is_member x.number (open_job job)))) →
    Represents k s →
    Represents
    (record k {
      entries = batches.closed number due k.entries;
      jobs = filter (λ job. not (is_open_job number job)) k.jobs;
      held = filter (λ (h : Held). stays_held job.members (batches.closed number due k.entries) h.number) k.held;
    })
    (record s { due = after; jobs = without_job number s.jobs })
closes_held k s number job due after n w a e d r =
    let entries : batches.closed number due k.entries
    ≡ entries_of (record s { due = after; jobs = without_job number s.jobs }) =
    ap (batches.closed number due) r.entries ∙ closed_entries s number (open_job job) due after n w a e d in
    record {
      version = r.version;
      tables = r.tables;
      connections = r.connections;
      entries = entries;
      held = subst (λ (es : List Entry). AllZip (Holds k.meta)
          (kept_of (record s { due = after; jobs = without_job number s.jobs }))
          (filter (λ (h : Held). stays_held job.members es h.number) k.held)) (sym entries)
          (held_after s number (open_job job) due after n w a e d k.meta k.held job.members refl r.held);
      jobs = sym (filter_mapped (λ (j : machine.Job). not (is_job number j)) open_job k.jobs)
          ∙ ap (filter (λ (j : machine.Job). not (is_job number j))) r.jobs;
      subscribed = r.subscribed;
      jobs_made = r.jobs_made;
    }

-- the job of a number, as the machine has it
pub job_is : (k : Kept) (s : State) (number : ℕ) → Represents k s →
    machines.job_at number s.jobs ≡ option_map open_job (job_at number k)
job_is k s number r = ap (machines.job_at number) (sym r.jobs) ∙ find_mapped (is_job number) open_job k.jobs

-- A job ends. Its live members are due then, or nobody else than before.
pub closes_represents : (k : Kept) (s : State) (number : ℕ) (job : OpenJob) (due : Bool) (after : List ℕ) →
    AreNumbered s.subscriptions →
    AreOpen s.jobs → job_at number k ≡ Some job →
    ((x : Subscription) → Among x s.subscriptions →
    is_due after x ≡ (is_due s.due x || due && (x.live && is_member x.number (open_job job)))) →
    Represents k s → Represents (closes_job number due job.members k)
    (record s { due = after; jobs = without_job number s.jobs })
closes_represents k s number job due after n w at d r =
    let is = found_among (is_job number) s.jobs (open_job job) (job_is k s number r ∙ ap (option_map open_job) at) in
    subst (λ (after_it : Kept). Represents after_it (record s { due = after; jobs = without_job number s.jobs }))
    (sym (clears_is job.members (record k {
      entries = batches.closed number due k.entries;
      jobs = filter (λ job. not (is_open_job number job)) k.jobs;
    })))
    (closes_held k s number job due after n w is.0 (eqb-true job.number number is.1) d r)

-- the end of a job that is published, after its members were told
pub ends_published : (k : Kept) (s : State) (number : ℕ) (job : OpenJob) → AreNumbered s.subscriptions →
    AreOpen s.jobs →
    job_at number k ≡ Some job → Represents k s →
    Represents (closes_job number false job.members k) (record s { jobs = without_job number s.jobs })
ends_published k s number job n w at r =
    closes_represents k s number job false s.due n w at (λ x a. sym (or_none (is_due s.due x))) r
  where
    or_none : (b : Bool) → (b || false) ≡ b
    or_none true = refl
    or_none false = refl

-- ---- what an abandonment does

pub does_abandon : (k : Kept) (number : ℕ) (job : OpenJob) → ((h : List Event) → IsRun (run k.meta h)) →
    ((h : List Event) → JobsApart (run k.meta h)) → job_at number k ≡ Some job →
    Does k (counted (closes_job number true job.members k)) (Abandon number) Abandoned [] []
does_abandon k number job runs apart at =
    let is = clears_is job.members (record k {
      entries = batches.closed number true k.entries;
      jobs = filter (λ job. not (is_open_job number job)) k.jobs;
    }) in
    does k (counted (closes_job number true job.members k)) (Abandon number) Abandoned [] []
    (ap (λ (k' : Kept). k'.meta) is) (ap (λ (k' : Kept). k'.events + 1) is)
    (λ h st.
    let s = run k.meta h in
    let found = job_is k s number st.represents ∙ ap (option_map open_job) at in
    record {
      after = (abandon number s (Some (open_job job))).state;
      step = ap (abandon number s) found;
      represents = counts (closes_job number true job.members k) (abandon number s (Some (open_job job))).state
          (closes_represents k s number job true _ (runs h).numbered (are_open s (runs h) (apart h)) at
          (λ x a. number_left s.subscriptions (runs h).numbered
          (λ (sub : Subscription). is_due s.due sub || sub.live && is_member sub.number (open_job job)) x a)
          st.represents);
    })

pub does_not_open : (k : Kept) (number : ℕ) → job_at number k ≡ None → Does k (counted k) (Abandon number) NotOpen [] []
does_not_open k number at =
    does k (counted k) (Abandon number) NotOpen [] [] refl refl
    (λ h st.
    let s = run k.meta h in
    record {
      after = s;
      step = ap (abandon number s) (job_is k s number st.represents ∙ ap (option_map open_job) at);
      represents = counts k s st.represents;
    })
