-- A take of what is kept is the machine's.
use Rattle.std.proofs.Common.{◌≡◌, ◌∙◌, sym, ap, refl, subst, ℕ, ◌+◌, ◌-◌, ◌<◌, ◌≤◌, ◌==◌, Bool, true, false, ◌&&◌}
use Rattle.std.proofs.Common.{◌||◌, not, cond, if◌then◌else◌, Some, None, Option, List, [], ◌∷◌, ◌++◌, map, take}
use Rattle.std.proofs.lemmas.List.{map-append}
use Rattle.std.proofs.lemmas.List.Folds.{list_any-append}
use Rattle.std.specs.Option.{option_map}
use Rattle.std.specs.List.{list_any, filter, find, position_from, AllZip, take-map}
use Rattle.std.proofs.lemmas.Bool.{eqb-true}
use Rattle.cohort_map.specs.declared.member.Member.{Member}
use Rattle.cohort_map.specs.Entries as entries
use Rattle.cohort_map.specs.Entries.{Entry}
use Rattle.cohort_map.specs.Batches as batches
use Rattle.cohort_map.specs.Batches.{batch_of}
use Rattle.machine.specs.State as machine
use Rattle.machine.specs.State.{State, Subscription, Event, Take, Nobody, Taken}
use Rattle.machine.specs.Batches.{are_polled_together, are_of_one_cohort, is_busy, is_due, first_of_each, batch}
use Rattle.machine.specs.Batches.{member_at, members_of, next_job, taken_with, take_from}
use Rattle.machine.specs.Run.{happens, run}
use Rattle.role_model.specs.declared.metadata.Metadata.{Metadata}
use Rattle.machine.specs.Batches as machines
use Rattle.hub_model.specs.Kept.{Kept, is_kept, kept_of, job_with, member_of, open_job, entry_of, Holds, Represents}
use Rattle.hub_model.specs.Stands.{Does}
use Rattle.hub_model.specs.Steps.{counted, takes}
use Rattle.hub_model.proofs.Items.{Among, among_filter, filter_among, among_map, or_true_left, and_true, and_both}
use Rattle.hub_model.proofs.Items.{not_true, not_both, same_test, any_among, found_among, among_any, map_mapped}
use Rattle.hub_model.proofs.Items.{map_same, any_mapped, any_same, filter_mapped, filter_same, find_mapped, and_no}
use Rattle.hub_model.proofs.Items.{and_yes}
use Rattle.hub_model.proofs.Filtered.{filter_kept, find_kept, filter_map_mapped, map_filter_map, filter_map_same}
use Rattle.hub_model.proofs.Filtered.{filter_map_kept}
use Rattle.hub_model.proofs.Cohorts.{polled_together, of_one_cohort}
use Rattle.hub_model.proofs.Ticks.{entries_of}
use Rattle.hub_model.proofs.Reached.{IsRun}
use Rattle.hub_model.proofs.JobFacts.{JobsApart, one_of_number}
use Rattle.hub_model.proofs.Chosen.{IsMemberIn, member_in, chosen_in, got_among, cohort_then, then_cohort, AreDueLive}
use Rattle.hub_model.proofs.Chosen.{first_is_member, fewer_due}
use Rattle.hub_model.proofs.Standing.{does, counts}

abbrev pub DueLive : State → Type 0
DueLive s = (x : Subscription) → Among x s.subscriptions → is_due s.due x ≡ true → x.live ≡ true

live_kept : (s : State) (x : Subscription) → x.live ≡ true → is_kept s.jobs x ≡ true
live_kept s x h = or_true_left x.live (list_any (machines.is_member x.number) s.jobs) h

-- ---- the batch

-- the first that is due
pub first_due : (s : State) → DueLive s →
    find entries.is_due (entries_of s) ≡ option_map (entry_of s) (find (is_due s.due) s.subscriptions)
first_due s d =
    find_mapped entries.is_due (entry_of s) (kept_of s)
    ∙ ap (option_map (entry_of s))
    (find_kept (is_due s.due) (is_kept s.jobs) s.subscriptions (λ x a h. live_kept s x (d x a h)))

first_by : (s : State) (earlier xs : List Subscription) (x : Subscription) (b : Bool) →
    batches.first_of_each (map (entry_of s) earlier) (map (entry_of s) xs)
    ≡ map (entry_of s) (first_of_each earlier xs) →
    batches.first_of_each (map (entry_of s) (x ∷ earlier)) (map (entry_of s) xs)
    ≡ map (entry_of s) (first_of_each (x ∷ earlier) xs) →
    (if b then batches.first_of_each (map (entry_of s) earlier) (map (entry_of s) xs)
    else entry_of s x ∷ batches.first_of_each (map (entry_of s) (x ∷ earlier)) (map (entry_of s) xs))
    ≡ map (entry_of s) (if b then first_of_each earlier xs else x ∷ first_of_each (x ∷ earlier) xs)
first_by s earlier xs x true h i = h
first_by s earlier xs x false h i = ap (λ es. entry_of s x ∷ es) i

first_is : (s : State) (earlier xs : List Subscription) →
    batches.first_of_each (map (entry_of s) earlier) (map (entry_of s) xs) ≡ map (entry_of s) (first_of_each earlier xs)
first_is s earlier [] = refl
first_is s earlier (x ∷ xs) =
    ap (λ (b : Bool). if b then batches.first_of_each (map (entry_of s) earlier) (map (entry_of s) xs)
    else entry_of s x ∷ batches.first_of_each (map (entry_of s) (x ∷ earlier)) (map (entry_of s) xs))
    (any_mapped (entries.are_of_one_cohort (entry_of s x)) (entry_of s) earlier
    ∙ any_same (λ (y : Subscription). entries.are_of_one_cohort (entry_of s x) (entry_of s y))
    (are_of_one_cohort x) earlier (λ y a. of_one_cohort s s x y))
    ∙ first_by s earlier xs x (list_any (are_of_one_cohort x) earlier) (first_is s earlier xs)
    (first_is s (x ∷ earlier) xs)

pub chosen_is : (size : ℕ) (s : State) (first : Subscription) → DueLive s →
    batches.chosen size (entries_of s) (entry_of s first) ≡ map (entry_of s) (batch size s.due s.subscriptions first)
chosen_is size s first d =
    let p : Subscription → Bool = λ sub. is_due s.due sub && are_polled_together first sub in
    ap (λ (es : List Entry). take size (batches.first_of_each [] es))
    (filter_mapped (batches.is_due_with (entry_of s first)) (entry_of s) (kept_of s)
    ∙ ap (map (entry_of s))
    (filter_same (λ (x : Subscription). batches.is_due_with (entry_of s first) (entry_of s x)) p (kept_of s)
    (λ x a. ap (λ (b : Bool). is_due s.due x && b) (polled_together s s first x))
    ∙ filter_kept p (is_kept s.jobs) s.subscriptions (λ x a h. live_kept s x (d x a (and_true _ _ h).0))))
    ∙ ap (take size) (first_is s [] (filter p s.subscriptions))
    ∙ take-map (entry_of s) size (first_of_each [] (filter p s.subscriptions))

place_is : (s : State) (x : Subscription) (n : ℕ) (cohorts : List Subscription) →
    position_from (entries.are_of_one_cohort (entry_of s x)) n (map (entry_of s) cohorts)
    ≡ position_from (are_of_one_cohort x) n cohorts
place_is s x n [] = refl
place_is s x n (c ∷ cs) = rw (of_one_cohort s s x c, place_is s x (n + 1) cs) refl

member_by : (s : State) (x : Subscription) (o : Option ℕ) →
    option_map member_of (batches.member_at (entry_of s x) o) ≡ member_at x o
member_by s x (Some place) = refl
member_by s x None = refl

member_if : (s : State) (x : Subscription) (o p : Option ℕ) (live : Bool) → o ≡ p →
    option_map member_of (if live then batches.member_at (entry_of s x) o else None)
    ≡ (if live then member_at x p else None)
member_if s x o p true e = rw e (member_by s x p)
member_if s x o p false e = refl

not_live : (x : Subscription) (cohorts : List Subscription) (live : Bool) (b : Bool) → (live || b) ≡ false →
    (if live then member_at x (position_from (are_of_one_cohort x) 0 cohorts) else None) ≡ None
not_live x cohorts true b h = absurd (cc)
not_live x cohorts false b h = refl

pub members_are : (s : State) (cohorts : List Subscription) →
    map member_of (batches.members_of (map (entry_of s) cohorts) (entries_of s)) ≡ members_of cohorts s.subscriptions
members_are s cohorts =
    ap (map member_of) (filter_map_mapped (batches.member_of (map (entry_of s) cohorts)) (entry_of s) (kept_of s))
    ∙ map_filter_map member_of (λ (x : Subscription). batches.member_of (map (entry_of s) cohorts) (entry_of s x))
    (kept_of s)
    ∙ filter_map_same _ (machines.member_of cohorts) (kept_of s)
    (λ x a. member_if s x _ _ x.live (place_is s x 0 cohorts))
    ∙ filter_map_kept (machines.member_of cohorts) (is_kept s.jobs) s.subscriptions
    (λ x a h. not_live x cohorts x.live (list_any (machines.is_member x.number) s.jobs) h)

-- the members that the machine takes
abbrev pub taken_of : ℕ → State → Option Subscription → List machine.Member
taken_of size s (Some first) = members_of (batch size s.due s.subscriptions first) s.subscriptions
taken_of size s None = []

batch_by : (size : ℕ) (s : State) → DueLive s → (o : Option Subscription) →
    map member_of (batches.batch_from size (entries_of s) (option_map (entry_of s) o)) ≡ taken_of size s o
batch_by size s d (Some first) =
    ap (λ (cs : List Entry). map member_of (batches.members_of cs (entries_of s))) (chosen_is size s first d)
    ∙ members_are s (batch size s.due s.subscriptions first)
batch_by size s d None = refl

pub batch_is : (size : ℕ) (s : State) → DueLive s →
    map member_of (batch_of size (entries_of s)) ≡ taken_of size s (find (is_due s.due) s.subscriptions)
batch_is size s d =
    ap (λ (o : Option Entry). map member_of (batches.batch_from size (entries_of s) o)) (first_due s d)
    ∙ batch_by size s d (find (is_due s.due) s.subscriptions)

-- ---- who joins

pub due_live : (s : State) → IsRun s → DueLive s
due_live s w x a h =
    let n = any_among (λ n. n == x.number) s.due h in
    let is = w.due n.0 n.1 in
    let same : is.sub ≡ x = one_of_number s.subscriptions w.numbered is.sub x is.among a
    (is.number ∙ eqb-true n.0 x.number n.2) in
    ap (λ (y : Subscription). y.live) (sym same) ∙ is.live

-- a member of a batch is live, and of no open job yet
pub record Joins (s : State) (x : Subscription) : Type 0 where
  pub live : x.live ≡ true
  pub free : list_any (machines.is_member x.number) s.jobs ≡ false

-- whose cohort is that of one who is due is of no open job
free_with : (s : State) → JobsApart s → (x z : Subscription) → Among x s.subscriptions → Among z s.subscriptions →
    is_due s.due z ≡ true →
    entries.are_of_one_cohort (entry_of s x) (entry_of s z) ≡ true →
    list_any (machines.is_member x.number) s.jobs ≡ false
free_with s w x z a b due same =
    let keys = cohort_then (entry_of s x) (entry_of s z) same in
    let back = sym (of_one_cohort s s z x) ∙ then_cohort (entry_of s z) (entry_of s x) (sym keys.0) (sym keys.1) in
    not_true (list_any (machines.is_member x.number) s.jobs)
    (λ m.
    not_both (is_busy s.subscriptions s.jobs z)
    (among_any
    (λ (other : Subscription). are_of_one_cohort z other && list_any (machines.is_member other.number) s.jobs)
    x s.subscriptions a (and_both _ _ back m))
    (w.idle z b due))

joins_with : (s : State) → IsRun s → JobsApart s → (size : ℕ) (first : Entry) (x : Subscription) (m : Member) →
    Among x s.subscriptions →
    m.sub ≡ x.number → IsMemberIn (batches.chosen size (entries_of s) first) (entries_of s) m → Joins s x
joins_with s w v size first x m a number is =
    let own = among_map (entry_of s) (kept_of s) is.entry is.among in
    let same : own.0 ≡ x =
    one_of_number s.subscriptions w.numbered own.0 x (among_filter (is_kept s.jobs) own.0 s.subscriptions own.1).0 a
    (ap (λ (e : Entry). e.number) (sym own.2) ∙ is.number ∙ number) in
    let entry : is.entry ≡ entry_of s x = own.2 ∙ ap (entry_of s) same in
    let chosen = chosen_in size (entries_of s) first is.cohort (got_among _ (m.id - 1) is.cohort is.at) in
    let other = among_map (entry_of s) (kept_of s) is.cohort chosen.0 in
    record {
      live = ap (λ (e : Entry). e.live) (sym entry) ∙ is.live;
      free =
          free_with s v x other.0 a (among_filter (is_kept s.jobs) other.0 s.subscriptions other.1).0
          (ap (λ (e : Entry). e.due) (sym other.2) ∙ chosen.1)
          (ap (λ (e : Entry). entries.are_of_one_cohort e (entry_of s other.0)) (sym entry)
          ∙ ap (λ (e : Entry). entries.are_of_one_cohort is.entry e) (sym other.2)
          ∙ is.same);
    }

joins_by : (s : State) → IsRun s → JobsApart s → (size : ℕ) (o : Option Entry) (x : Subscription) (m : Member) →
    Among x s.subscriptions →
    m.sub ≡ x.number → Among m (batches.batch_from size (entries_of s) o) → Joins s x
joins_by s w v size (Some first) x m a number b =
    joins_with s w v size first x m a number (member_in _ (entries_of s) m b)
joins_by s w v size None x m a number b = absurd b

pub joins : (s : State) → IsRun s → JobsApart s → (size : ℕ) (members : List Member) →
    members ≡ batch_of size (entries_of s) →
    (x : Subscription) → Among x s.subscriptions → batches.is_member members x.number ≡ true → Joins s x
joins s w v size members is x a h =
    let m = any_among (λ (m : Member). m.sub == x.number) members h in
    joins_by s w v size (find entries.is_due (entries_of s)) x m.0 a (eqb-true m.0.sub x.number m.2)
    (subst (λ (ms : List Member). Among m.0 ms) is m.1)

-- ---- the state after a take

abbrev taken_state : State → List Member → State
taken_state s members = (taken_with s (next_job s (map member_of members))).state

member_same : (members : List Member) (n : ℕ) →
    list_any (λ (m : machine.Member). m.subscription == n) (map member_of members) ≡ batches.is_member members n
member_same members n = any_mapped (λ (m : machine.Member). m.subscription == n) member_of members

still_kept : (live a b : Bool) → (b ≡ true → live ≡ true) → (live || (a || (b || false))) ≡ (live || a)
still_kept true a b h = refl
still_kept false true b h = refl
still_kept false false true h = cc (h refl)
still_kept false false false h = refl

kept_same : (s : State) (members : List Member) →
    ((x : Subscription) → Among x s.subscriptions → batches.is_member members x.number ≡ true → Joins s x) →
    kept_of (taken_state s members) ≡ kept_of s
kept_same s members j =
    let job = next_job s (map member_of members) in
    filter_same (is_kept (s.jobs ++ job ∷ [])) (is_kept s.jobs) s.subscriptions
    (λ x a.
    ap (λ (b : Bool). x.live || b) (list_any-append (machines.is_member x.number) s.jobs (job ∷ []))
    ∙ still_kept x.live (list_any (machines.is_member x.number) s.jobs) (machines.is_member x.number job)
    (λ h. (j x a (sym (member_same members x.number) ∙ h)).live))

-- the due numbers without those of members
due_left : (p : ℕ → Bool) (x : ℕ) (due : List ℕ) →
    list_any (λ m. m == x) (filter (λ m. not (p m)) due) ≡ (list_any (λ m. m == x) due && not (p x))
due_left p x due =
    same_test _ _
    (λ h.
    let m = any_among (λ m. m == x) (filter (λ m. not (p m)) due) h in
    let left = among_filter (λ m. not (p m)) m.0 due m.1 in
    and_both _ _ (among_any (λ m. m == x) m.0 due left.0 m.2)
    (ap (λ (n : ℕ). not (p n)) (sym (eqb-true m.0 x m.2)) ∙ left.1))
    (λ h.
    let both = and_true _ _ h in
    let m = any_among (λ m. m == x) due both.0 in
    among_any (λ m. m == x) m.0 _
    (filter_among (λ m. not (p m)) m.0 due m.1 (ap (λ (n : ℕ). not (p n)) (eqb-true m.0 x m.2) ∙ both.1)) m.2)

-- the job that a number is a member of, once another is open
pushed_by : (n : ℕ) (job j : machine.Job) (js : List machine.Job) (b c : Bool) →
    (b || list_any (machines.is_member n) js) ≡ false →
    (list_any (machines.is_member n) js ≡ false → job_with n (js ++ job ∷ []) ≡ (if c then Some job.number else None)) →
    option_map (λ (job : machine.Job). job.number) (cond b (Some j) (find (machines.is_member n) (js ++ job ∷ [])))
    ≡ (if c then Some job.number else None)
pushed_by n job j js true c h rest = absurd (cc)
pushed_by n job j js false c h rest = rest h

own_job : (job : machine.Job) (c : Bool) →
    option_map (λ (job : machine.Job). job.number) (cond c (Some job) None) ≡ (if c then Some job.number else None)
own_job job true = refl
own_job job false = refl

job_pushed : (n : ℕ) (job : machine.Job) (jobs : List machine.Job) → list_any (machines.is_member n) jobs ≡ false →
    job_with n (jobs ++ job ∷ []) ≡ (if machines.is_member n job then Some job.number else None)
job_pushed n job [] h = own_job job (machines.is_member n job)
job_pushed n job (j ∷ js) h =
    pushed_by n job j js (machines.is_member n j) (machines.is_member n job) h (λ f. job_pushed n job js f)

other_by : (n : ℕ) (job j : machine.Job) (js : List machine.Job) (b : Bool) →
    job_with n (js ++ job ∷ []) ≡ job_with n js →
    option_map (λ (job : machine.Job). job.number) (cond b (Some j) (find (machines.is_member n) (js ++ job ∷ [])))
    ≡ option_map (λ (job : machine.Job). job.number) (cond b (Some j) (find (machines.is_member n) js))
other_by n job j js true rest = refl
other_by n job j js false rest = rest

other_pushed : (n : ℕ) (job : machine.Job) (jobs : List machine.Job) → machines.is_member n job ≡ false →
    job_with n (jobs ++ job ∷ []) ≡ job_with n jobs
other_pushed n job [] h = ap (λ (b : Bool). option_map (λ (job : machine.Job). job.number) (cond b (Some job) None)) h
other_pushed n job (j ∷ js) h = other_by n job j js (machines.is_member n j) (other_pushed n job js h)

entry_marked : (s : State) (members : List Member) (x : Subscription) (b : Bool) →
    batches.is_member members x.number ≡ b → (b ≡ true → Joins s x) →
    (if b then record (entry_of s x) { due = false; job = Some (s.jobs_made + 1) } else entry_of s x)
    ≡ entry_of (taken_state s members) x
entry_marked s members x true h j =
    let job = next_job s (map member_of members) in
    let member : machines.is_member x.number job ≡ true = member_same members x.number ∙ h in
    let due : list_any (λ m. m == x.number) (filter (λ m. not (machines.is_member m job)) s.due) ≡ false =
    due_left (λ m. machines.is_member m job) x.number s.due
    ∙ rw member (and_no (list_any (λ m. m == x.number) s.due)) in
    let jobs : job_with x.number (s.jobs ++ job ∷ []) ≡ Some (s.jobs_made + 1) =
    job_pushed x.number job s.jobs (j refl).free ∙ rw member refl in
    λ i. record (entry_of s x) { due = sym due i; job = sym jobs i }
entry_marked s members x false h j =
    let job = next_job s (map member_of members) in
    let member : machines.is_member x.number job ≡ false = member_same members x.number ∙ h in
    let due : list_any (λ m. m == x.number) (filter (λ m. not (machines.is_member m job)) s.due)
    ≡ list_any (λ m. m == x.number) s.due =
    due_left (λ m. machines.is_member m job) x.number s.due
    ∙ rw member (and_yes (list_any (λ m. m == x.number) s.due)) in
    let jobs : job_with x.number (s.jobs ++ job ∷ []) ≡ job_with x.number s.jobs =
    other_pushed x.number job s.jobs member in
    λ i. record (entry_of s x) { due = sym due i; job = sym jobs i }

taken_entries : (s : State) (members : List Member) →
    ((x : Subscription) → Among x s.subscriptions → batches.is_member members x.number ≡ true → Joins s x) →
    batches.opened (s.jobs_made + 1) members (entries_of s) ≡ entries_of (taken_state s members)
taken_entries s members j =
    map_mapped (batches.marked (s.jobs_made + 1) members) (entry_of s) (kept_of s)
    ∙ map_same _ (entry_of (taken_state s members)) (kept_of s)
    (λ x a. entry_marked s members x (batches.is_member members x.number) refl
    (λ h. j x (among_filter (is_kept s.jobs) x s.subscriptions a).0 h))
    ∙ ap (map (entry_of (taken_state s members))) (sym (kept_same s members j))

job_same : (k : Kept) (s : State) (members : List Member) → Represents k s →
    open_job (record { number = k.jobs_made + 1; version = k.version; members = members })
    ≡ next_job s (map member_of members)
job_same k s members r =
    λ i. record { number = r.jobs_made i + 1; version = r.version i; members = map member_of members }

pub takes_represents : (k : Kept) (s : State) (members : List Member) → IsRun s → JobsApart s → Represents k s →
    members ≡ batch_of k.meta.batch_size k.entries → Represents (takes members k) (taken_state s members)
takes_represents k s members w v r is =
    let j = joins s w v k.meta.batch_size members (is ∙ ap (batch_of k.meta.batch_size) r.entries) in
    record {
      version = r.version;
      tables = r.tables;
      connections = r.connections;
      entries =
          ap (λ (n : ℕ). batches.opened (n + 1) members k.entries) r.jobs_made
          ∙ ap (λ (es : List Entry). batches.opened (s.jobs_made + 1) members es) r.entries
          ∙ taken_entries s members j;
      held = subst (λ (subs : List Subscription). AllZip (Holds k.meta) subs k.held)
          (sym (kept_same s members j)) r.held;
      jobs =
          map-append open_job k.jobs (record { number = k.jobs_made + 1; version = k.version; members = members } ∷ [])
          ∙ ap
          (λ (js : List machine.Job).
          js ++ open_job (record { number = k.jobs_made + 1; version = k.version; members = members }) ∷ []) r.jobs
          ∙ ap (λ (job : machine.Job). s.jobs ++ job ∷ []) (job_same k s members r);
      subscribed = r.subscribed;
      jobs_made = ap (λ (n : ℕ). n + 1) r.jobs_made;
    }

-- ---- what a take does

entries_live : (s : State) → DueLive s → AreDueLive (entries_of s)
entries_live s d e a due =
    let x = among_map (entry_of s) (kept_of s) e a in
    ap (λ (f : Entry). f.live) x.2
    ∙ d x.0 (among_filter (is_kept s.jobs) x.0 s.subscriptions x.1).0 (ap (λ (f : Entry). f.due) (sym x.2) ∙ due)

-- who is due is live, as entries have it
pub due_entries : (k : Kept) (s : State) → IsRun s → Represents k s → AreDueLive k.entries
due_entries k s w r = subst AreDueLive (sym r.entries) (entries_live s (due_live s w))

members_taken : (k : Kept) (s : State) (members : List Member) → IsRun s → Represents k s →
    members ≡ batch_of k.meta.batch_size k.entries →
    map member_of members ≡ taken_of k.meta.batch_size s (find (is_due s.due) s.subscriptions)
members_taken k s members w r is =
    ap (map member_of) (is ∙ ap (batch_of k.meta.batch_size) r.entries) ∙ batch_is k.meta.batch_size s (due_live s w)

no_members : (members : List Member) → map member_of members ≡ [] → members ≡ []
no_members [] h = refl
no_members (m ∷ ms) h = cc

take_by : (meta : Metadata) (s : State) (members : List Member) (o : Option Subscription) →
    map member_of members ≡ taken_of meta.batch_size s o → (members ≡ [] → ⊥) →
    take_from meta s o ≡ taken_with s (next_job s (map member_of members))
take_by meta s members (Some first) is some = ap (λ (ms : List machine.Member). taken_with s (next_job s ms)) (sym is)
take_by meta s members None is some = absurd (some (no_members members is))

-- a take whose batch isn't empty
pub take_step : (k : Kept) (s : State) (members : List Member) → IsRun s → Represents k s →
    members ≡ batch_of k.meta.batch_size k.entries → (members ≡ [] → ⊥) →
    happens k.meta s Take ≡ taken_with s (next_job s (map member_of members))
take_step k s members w r is some =
    take_by k.meta s members (find (is_due s.due) s.subscriptions) (members_taken k s members w r is) some

-- the job that is taken
pub does_take : (k : Kept) (members : List Member) → ((h : List Event) → IsRun (run k.meta h)) →
    ((h : List Event) → JobsApart (run k.meta h)) →
    members ≡ batch_of k.meta.batch_size k.entries → (members ≡ [] → ⊥) →
    Does k (counted (takes members k)) Take
    (Taken (record { number = k.jobs_made + 1; version = k.version; members = map member_of members })) [] []
does_take k members runs apart is some =
    does k (counted (takes members k)) Take
    (Taken (record { number = k.jobs_made + 1; version = k.version; members = map member_of members })) [] []
    refl refl
    (λ h st.
    let s = run k.meta h in
    let after = taken_state s members in
    record {
      after = after;
      step = take_step k s members (runs h) st.represents is some
          ∙ ap (λ (job : machine.Job). machine.silent after (Taken job)) (sym (job_same k s members st.represents));
      represents = counts (takes members k) after (takes_represents k s members (runs h) (apart h) st.represents is);
    })

nobody_by : (size : ℕ) (s : State) (o : Option Entry) → 1 ≤ size → DueLive s → find entries.is_due (entries_of s) ≡ o →
    batches.batch_from size (entries_of s) o ≡ [] → o ≡ None
nobody_by size s (Some first) low d found none =
    let due = found_among entries.is_due (entries_of s) first found in
    let member = first_is_member size (entries_of s) first low found (entries_live s d first due.0 due.1) in
    absurd (subst (λ (ms : List Member). Among (record { sub = first.number; id = 1 }) ms) none member)
nobody_by size s None low d found none = refl

none_mapped : {X Y : Type 0} (f : X → Y) (o : Option X) → option_map f o ≡ None → o ≡ None
none_mapped f (Some x) h = absurd (cc)
none_mapped f None h = refl

-- where the batch is empty nobody is due
pub nobody_due : (k : Kept) (s : State) → IsRun s → Represents k s → 1 ≤ k.meta.batch_size →
    batch_of k.meta.batch_size k.entries ≡ [] →
    find (is_due s.due) s.subscriptions ≡ None
nobody_due k s w r low none =
    let d = due_live s w in
    none_mapped (entry_of s) _
    (sym (first_due s d)
    ∙ nobody_by k.meta.batch_size s (find entries.is_due (entries_of s)) low d refl
    (ap (batch_of k.meta.batch_size) (sym r.entries) ∙ none))

pub does_nobody : (k : Kept) → ((h : List Event) → IsRun (run k.meta h)) → 1 ≤ k.meta.batch_size →
    batch_of k.meta.batch_size k.entries ≡ [] →
    Does k (counted k) Take Nobody [] []
does_nobody k runs low none =
    does k (counted k) Take Nobody [] [] refl refl
    (λ h st.
    let s = run k.meta h in
    record {
      after = s;
      step = ap (take_from k.meta s) (nobody_due k s (runs h) st.represents low none);
      represents = counts k s st.represents;
    })

-- a take leaves fewer due, so that a poll ends
pub takes_fewer : (k : Kept) (s : State) (members : List Member) → IsRun s → Represents k s → 1 ≤ k.meta.batch_size →
    members ≡ batch_of k.meta.batch_size k.entries → (members ≡ [] → ⊥) →
    entries.due_count (takes members k).entries < entries.due_count k.entries
takes_fewer k s members w r low is some =
    fewer_due k.meta.batch_size (k.jobs_made + 1) k.entries members low (due_entries k s w r) is some
