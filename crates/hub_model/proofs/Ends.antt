-- Ends of subscriptions: what is kept of them, and the machine's.
use Rattle.std.proofs.Common.{◌≡◌, inl, inr, ◌∙◌, sym, ap, refl, subst, ℕ, ◌==◌, if◌then◌else◌, Bool, true, false, not, ◌&&◌, ◌||◌, cond, Some, None, Option, List, [], ◌∷◌, length, map, filter}
use Rattle.std.specs.Prelude.{find, filter_map}
use Rattle.std.specs.List.{list_any, cons_option, AllZip}
use Rattle.std.specs.Option.{is_some, option_map}
use Rattle.std.proofs.lemmas.Bool.{eqb-true, eq-eqb}
use Rattle.std.proofs.lemmas.List.{length-map}
use Rattle.std.proofs.lemmas.Map.Views.{any-filter_same}
use Rattle.role_model.specs.declared.metadata.Metadata.{Metadata}
use Rattle.machine.specs.State as machine
use Rattle.machine.specs.State.{State, Subscription}
use Rattle.machine.specs.Connections.{end_where, ended_if}
use Rattle.machine.specs.Batches.{is_subscription, is_member}
use Rattle.machine.specs.Run.{database_now}
use Rattle.cohort_map.specs.Entries.{Entry, is_entry, has, left, ended}
use Rattle.subscription_table.specs.declared.held.Held.{Held}
use Rattle.subscription_table.specs.Kept.{without}
use Rattle.hub_model.specs.Kept.{Kept, Represents, Holds, is_kept, kept_of, entry_of, job_with, connected, open_job}
use Rattle.hub_model.specs.Steps.{ends_one}
use Rattle.hub_model.proofs.Items.{Among, and_true, and_both, filter_same, filter_yes, filter_no, filter_mapped, filter_both, map_own, any_mapped, among_any, among_filter, any_none, or_true_left, or_true_right, and_no, and_yes, not_not, not_any, not_both}
use Rattle.hub_model.proofs.Zipped.{zip_mapped, zip_filter, zip_all}

-- what is kept is enough for a state, but for its connections
pub record Mirrors (k : Kept) (s : State) : Type 0 where
  pub version : k.version ≡ length s.transactions
  pub tables : k.tables ≡ database_now k.meta s
  pub entries : k.entries ≡ map (entry_of s) (kept_of s)
  pub held : AllZip (Holds k.meta) (kept_of s) k.held
  pub jobs : map open_job k.jobs ≡ s.jobs
  pub subscribed : k.subscribed ≡ length s.subscriptions
  pub jobs_made : k.jobs_made ≡ s.jobs_made

pub mirrors : (k : Kept) (s : State) → Represents k s → Mirrors k s
mirrors k s r = record {
  version = r.version;
  tables = r.tables;
  entries = r.entries;
  held = r.held;
  jobs = r.jobs;
  subscribed = r.subscribed;
  jobs_made = r.jobs_made;
}

pub with_connections : (k : Kept) (s : State) → Mirrors k s →
    k.connections ≡ map (connected s.subscriptions) s.connections → Represents k s
with_connections k s m e = record {
  version = m.version;
  tables = m.tables;
  connections = e;
  entries = m.entries;
  held = m.held;
  jobs = m.jobs;
  subscribed = m.subscribed;
  jobs_made = m.jobs_made;
}

-- ---- one subscription ends

cond_some : {X : Type 0} (x : X) (o : Option X) (b : Bool) → is_some (cond b (Some x) o) ≡ (b || is_some o)
cond_some x o true = refl
cond_some x o false = refl

pub some_found : {X : Type 0} (p : X → Bool) (xs : List X) → is_some (find p xs) ≡ list_any p xs
some_found p [] = refl
some_found p (x ∷ xs) = cond_some x (find p xs) (p x) ∙ ap (λ (b : Bool). p x || b) (some_found p xs)

map_some : {X Y : Type 0} (f : X → Y) (o : Option X) → is_some (option_map f o) ≡ is_some o
map_some f (Some x) = refl
map_some f None = refl

-- it has an open job exactly where it is a member of one
pub some_job : (number : ℕ) (jobs : List machine.Job) → is_some (job_with number jobs) ≡ list_any (is_member number) jobs
some_job number jobs =
    map_some (λ (job : machine.Job). job.number) (find (is_member number) jobs) ∙ some_found (is_member number) jobs

not_same : (m n : ℕ) → m == n ≡ false → m ≡ n → ⊥
not_same m n e h = not_both (m == n) (eq-eqb m n h) e

-- the state after the end of the subscription of a number
abbrev one_off : ℕ → State → State
one_off n s = end_where (is_subscription n) s

-- other subscriptions stay due, and it isn't due any more
due_other : (n m : ℕ) (s : State) → m == n ≡ false →
    list_any (λ d. d == m) (one_off n s).due ≡ list_any (λ d. d == m) s.due
due_other n m s e =
    any-filter_same (λ d. d == m) (λ d. not (list_any (λ sub. sub.number == d && sub.number == n) s.subscriptions)) true
    (λ d t. ap not (not_any (λ sub. sub.number == d && sub.number == n) s.subscriptions
    (λ x a h.
    let both = and_true (x.number == d) (x.number == n) h in
    not_same m n e (sym (eqb-true d m t) ∙ sym (eqb-true x.number d both.0) ∙ eqb-true x.number n both.1)))) s.due

due_own : (n : ℕ) (s : State) (x : Subscription) → Among x s.subscriptions → x.number == n ≡ true →
    list_any (λ d. d == x.number) (one_off n s).due ≡ false
due_own n s x a e =
    any-filter_same (λ d. d == x.number)
    (λ d. not (list_any (λ sub. sub.number == d && sub.number == n) s.subscriptions)) false
    (λ d t. ap not (among_any (λ sub. sub.number == d && sub.number == n) x s.subscriptions a
    (and_both (x.number == d) (x.number == n) (eq-eqb x.number d (sym (eqb-true d x.number t))) e))) s.due

left_kept : (n : ℕ) (e : Entry) → e.number == n ≡ true → is_some e.job ≡ true →
    ended n e ≡ Some (record e { live = false; due = false })
left_kept n e h i = rw (h, i) refl

left_gone : (n : ℕ) (e : Entry) → e.number == n ≡ true → is_some e.job ≡ false → ended n e ≡ None
left_gone n e h i = rw (h, i) refl

left_other : (n : ℕ) (e : Entry) → e.number == n ≡ false → ended n e ≡ Some e
left_other n e h = rw h refl

off_own : (n : ℕ) (x : Subscription) → x.number == n ≡ true →
    ended_if (is_subscription n) x ≡ record x { live = false }
off_own n x h = rw h refl

off_other : (n : ℕ) (x : Subscription) → x.number == n ≡ false → ended_if (is_subscription n) x ≡ x
off_other n x h = rw h refl

-- it is kept exactly where it is a member of an open job
kept_member : (jobs : List machine.Job) (x : Subscription) → list_any (is_member x.number) jobs ≡ true →
    is_kept jobs x ≡ true
kept_member jobs x m = or_true_right x.live (list_any (is_member x.number) jobs) m

kept_live : (jobs : List machine.Job) (x : Subscription) → x.live ≡ true → is_kept jobs x ≡ true
kept_live jobs x l = or_true_left x.live (list_any (is_member x.number) jobs) l

not_kept : (jobs : List machine.Job) (x : Subscription) → x.live ≡ false →
    list_any (is_member x.number) jobs ≡ false → is_kept jobs x ≡ false
not_kept jobs x l m = ap (λ (b : Bool). b || list_any (is_member x.number) jobs) l ∙ m

module _ (n : ℕ) (s : State) where
  abbrev off : Subscription → Subscription
  off = ended_if (is_subscription n)

  abbrev entries_before : List Subscription → List Entry
  entries_before xs = map (entry_of s) (filter (is_kept s.jobs) xs)

  abbrev entries_after : List Subscription → List Entry
  entries_after xs = map (entry_of (one_off n s)) (filter (is_kept s.jobs) xs)

  -- an entry that is kept
  before_yes : (x : Subscription) (xs : List Subscription) → is_kept s.jobs x ≡ true →
      left n (entries_before (x ∷ xs)) ≡ filter_map (ended n) (entry_of s x ∷ entries_before xs)
  before_yes x xs e = ap (λ (l : List Subscription). left n (map (entry_of s) l)) (filter_yes (is_kept s.jobs) x xs e)

  before_no : (x : Subscription) (xs : List Subscription) → is_kept s.jobs x ≡ false →
      left n (entries_before (x ∷ xs)) ≡ left n (entries_before xs)
  before_no x xs e = ap (λ (l : List Subscription). left n (map (entry_of s) l)) (filter_no (is_kept s.jobs) x xs e)

  after_yes : (x : Subscription) (xs : List Subscription) → is_kept s.jobs x ≡ true →
      entries_after (x ∷ xs) ≡ entry_of (one_off n s) x ∷ entries_after xs
  after_yes x xs e = ap (λ (l : List Subscription). map (entry_of (one_off n s)) l) (filter_yes (is_kept s.jobs) x xs e)

  after_no : (x : Subscription) (xs : List Subscription) → is_kept s.jobs x ≡ false →
      entries_after (x ∷ xs) ≡ entries_after xs
  after_no x xs e = ap (λ (l : List Subscription). map (entry_of (one_off n s)) l) (filter_no (is_kept s.jobs) x xs e)

  abbrev Agree : List Subscription → Type 0
  Agree xs = left n (entries_before xs) ≡ entries_after (map off xs)

  agree_own : (x : Subscription) (xs : List Subscription) (m l : Bool) → Among x s.subscriptions →
      x.number == n ≡ true → list_any (is_member x.number) s.jobs ≡ m → x.live ≡ l → Agree xs → Agree (x ∷ xs)
  agree_own x xs true l a e m live h =
      let due : list_any (λ d. d == x.number) (one_off n s).due ≡ false = due_own n s x a e in
      let kept = kept_member s.jobs x m in
      let first = before_yes x xs kept in
      let stays = left_kept n (entry_of s x) e (some_job x.number s.jobs ∙ m) in
      let is = off_own n x e in
      let last = after_yes (record x { live = false }) (map off xs) (kept_member s.jobs (record x { live = false }) m) in
      first
      ∙ ap (λ (o : Option Entry). cons_option o (left n (entries_before xs))) stays
      ∙ ap (λ (es : List Entry). record (entry_of s x) { live = false; due = false } ∷ es) h
      ∙ ap (λ (b : Bool). record (entry_of s x) { live = false; due = b } ∷ entries_after (map off xs)) (sym due)
      ∙ sym last
      ∙ ap (λ (y : Subscription). entries_after (y ∷ map off xs)) (sym is)
  agree_own x xs false true a e m live h =
      let first = before_yes x xs (kept_live s.jobs x live) in
      let goes = left_gone n (entry_of s x) e (some_job x.number s.jobs ∙ m) in
      let is = off_own n x e in
      let last = after_no (record x { live = false }) (map off xs) (not_kept s.jobs (record x { live = false }) refl m) in
      first
      ∙ ap (λ (o : Option Entry). cons_option o (left n (entries_before xs))) goes
      ∙ h
      ∙ sym last
      ∙ ap (λ (y : Subscription). entries_after (y ∷ map off xs)) (sym is)
  agree_own x xs false false a e m live h =
      let first = before_no x xs (not_kept s.jobs x live m) in
      let is = off_own n x e in
      let last = after_no (record x { live = false }) (map off xs) (not_kept s.jobs (record x { live = false }) refl m) in
      first
      ∙ h
      ∙ sym last
      ∙ ap (λ (y : Subscription). entries_after (y ∷ map off xs)) (sym is)

  agree_other : (x : Subscription) (xs : List Subscription) (kept : Bool) →
      x.number == n ≡ false → is_kept s.jobs x ≡ kept → Agree xs → Agree (x ∷ xs)
  agree_other x xs true e k h =
      let due = due_other n x.number s e in
      let stays = left_other n (entry_of s x) e in
      before_yes x xs k
      ∙ ap (λ (o : Option Entry). cons_option o (left n (entries_before xs))) stays
      ∙ ap (λ (es : List Entry). entry_of s x ∷ es) h
      ∙ ap (λ (b : Bool). record (entry_of s x) { due = b } ∷ entries_after (map off xs)) (sym due)
      ∙ sym (after_yes x (map off xs) k)
      ∙ ap (λ (y : Subscription). entries_after (y ∷ map off xs)) (sym (off_other n x e))
  agree_other x xs false e k h =
      before_no x xs k
      ∙ h
      ∙ sym (after_no x (map off xs) k)
      ∙ ap (λ (y : Subscription). entries_after (y ∷ map off xs)) (sym (off_other n x e))

  agree_next : (x : Subscription) (xs : List Subscription) (own : Bool) → Among x s.subscriptions →
      x.number == n ≡ own → Agree xs → Agree (x ∷ xs)
  agree_next x xs true a e h = agree_own x xs (list_any (is_member x.number) s.jobs) x.live a e refl refl h
  agree_next x xs false a e h = agree_other x xs (is_kept s.jobs x) e refl h

  agree : (xs : List Subscription) → ((x : Subscription) → Among x xs → Among x s.subscriptions) → Agree xs
  agree [] h = refl
  agree (x ∷ xs) h =
      agree_next x xs (x.number == n) (h x (inl refl)) refl (agree xs (λ y a. h y (inr a)))

  pub entries_end : (es : List Entry) → es ≡ map (entry_of s) (kept_of s) →
      left n es ≡ map (entry_of (one_off n s)) (kept_of (one_off n s))
  entries_end es e = ap (left n) e ∙ agree s.subscriptions (λ x a. a)

-- ---- what is held of it

module _ (n : ℕ) (s : State) where
  abbrev is_other : Subscription → Bool
  is_other x = not (x.number == n)

  -- a member of an open job is kept
  same_kept : (x : Subscription) (own : Bool) → x.number == n ≡ own → list_any (is_member n) s.jobs ≡ true →
      is_kept s.jobs (ended_if (is_subscription n) x) ≡ is_kept s.jobs x
  same_kept x true e m =
      let its : list_any (is_member x.number) s.jobs ≡ true =
      ap (λ (i : ℕ). list_any (is_member i) s.jobs) (eqb-true x.number n e) ∙ m in
      ap (is_kept s.jobs) (off_own n x e)
      ∙ kept_member s.jobs (record x { live = false }) its
      ∙ sym (kept_member s.jobs x its)
  same_kept x false e m = ap (is_kept s.jobs) (off_other n x e)

  kept_with : list_any (is_member n) s.jobs ≡ true →
      kept_of (one_off n s) ≡ map (ended_if (is_subscription n)) (kept_of s)
  kept_with m =
      filter_mapped (is_kept s.jobs) (ended_if (is_subscription n)) s.subscriptions
      ∙ ap (λ (l : List Subscription). map (ended_if (is_subscription n)) l)
      (filter_same (λ x. is_kept s.jobs (ended_if (is_subscription n) x)) (is_kept s.jobs) s.subscriptions
      (λ x a. same_kept x (x.number == n) refl m))

  -- any other isn't
  less_kept : (x : Subscription) (own : Bool) → x.number == n ≡ own → list_any (is_member n) s.jobs ≡ false →
      is_kept s.jobs (ended_if (is_subscription n) x) ≡ (is_kept s.jobs x && is_other x)
  less_kept x true e m =
      let its : list_any (is_member x.number) s.jobs ≡ false =
      ap (λ (i : ℕ). list_any (is_member i) s.jobs) (eqb-true x.number n e) ∙ m in
      ap (is_kept s.jobs) (off_own n x e)
      ∙ not_kept s.jobs (record x { live = false }) refl its
      ∙ sym (and_no (is_kept s.jobs x))
      ∙ ap (λ (b : Bool). is_kept s.jobs x && not b) (sym e)
  less_kept x false e m =
      ap (is_kept s.jobs) (off_other n x e)
      ∙ sym (and_yes (is_kept s.jobs x))
      ∙ ap (λ (b : Bool). is_kept s.jobs x && not b) (sym e)

  kept_without : list_any (is_member n) s.jobs ≡ false → kept_of (one_off n s) ≡ filter is_other (kept_of s)
  kept_without m =
      filter_mapped (is_kept s.jobs) (ended_if (is_subscription n)) s.subscriptions
      ∙ ap (λ (l : List Subscription). map (ended_if (is_subscription n)) l)
      (filter_same (λ x. is_kept s.jobs (ended_if (is_subscription n) x)) (λ x. is_kept s.jobs x && is_other x)
      s.subscriptions (λ x a. less_kept x (x.number == n) refl m)
      ∙ sym (filter_both is_other (is_kept s.jobs) s.subscriptions))
      ∙ map_own (ended_if (is_subscription n)) (filter is_other (kept_of s))
      (λ x a. off_other n x (not_not (x.number == n) (among_filter is_other x (kept_of s) a).1))

  abbrev held_by : Bool → List Held → List Held
  held_by b held = if b then held else without n held

  member_held : (meta : Metadata) (held : List Held) (b : Bool) → AllZip (Holds meta) (kept_of s) held →
      list_any (is_member n) s.jobs ≡ true → list_any (is_subscription n) (kept_of (one_off n s)) ≡ b →
      AllZip (Holds meta) (kept_of (one_off n s)) (held_by b held)
  member_held meta held b z m e =
      let all : AllZip (Holds meta) (kept_of (one_off n s)) held =
      subst (λ (l : List Subscription). AllZip (Holds meta) l held) (sym (kept_with m))
      (zip_mapped (Holds meta) (ended_if (is_subscription n)) (λ x h r. off_holds meta x h (x.number == n) refl r) (kept_of s) held z) in
      either all b e
    where
      off_holds : (meta : Metadata) (x : Subscription) (h : Held) (own : Bool) → x.number == n ≡ own → Holds meta x h →
          Holds meta (ended_if (is_subscription n) x) h
      off_holds meta x h true e r = subst (λ (y : Subscription). Holds meta y h) (sym (off_own n x e)) (record {
        number = r.number;
        connection = r.connection;
        id = r.id;
        kind = r.kind;
        last = r.last;
        plan = r.plan;
        initial = r.initial;
        admitted = r.admitted;
        cursor = r.cursor;
      })
      off_holds meta x h false e r = subst (λ (y : Subscription). Holds meta y h) (sym (off_other n x e)) r

      either : AllZip (Holds meta) (kept_of (one_off n s)) held → (b : Bool) →
          list_any (is_subscription n) (kept_of (one_off n s)) ≡ b →
          AllZip (Holds meta) (kept_of (one_off n s)) (held_by b held)
      either all true e = all
      either all false e =
          subst (AllZip (Holds meta) (kept_of (one_off n s)))
          (sym (zip_all (Holds meta) (λ (h : Held). not (h.number == n)) (kept_of (one_off n s)) held
          (λ x h a r. ap not (ap (λ (i : ℕ). i == n) r.number
          ∙ any_none (is_subscription n) (kept_of (one_off n s)) e x a)) all)) all

  alone_held : (meta : Metadata) (held : List Held) → AllZip (Holds meta) (kept_of s) held →
      list_any (is_member n) s.jobs ≡ false →
      AllZip (Holds meta) (kept_of (one_off n s)) (held_by (list_any (is_subscription n) (kept_of (one_off n s))) held)
  alone_held meta held z m =
      let none : list_any (is_subscription n) (kept_of (one_off n s)) ≡ false =
      ap (list_any (is_subscription n)) (kept_without m)
      ∙ not_any (is_subscription n) (filter is_other (kept_of s))
      (λ x a h. not_both (x.number == n) h (not_not (x.number == n) (among_filter is_other x (kept_of s) a).1)) in
      subst (λ (b : Bool). AllZip (Holds meta) (kept_of (one_off n s)) (held_by b held)) (sym none)
      (subst (λ (l : List Subscription). AllZip (Holds meta) l (without n held)) (sym (kept_without m))
      (zip_filter (Holds meta) is_other (λ (h : Held). not (h.number == n))
      (λ x h r. ap (λ (i : ℕ). not (i == n)) (sym r.number)) (kept_of s) held z))

  held_off : (meta : Metadata) (held : List Held) (m : Bool) → list_any (is_member n) s.jobs ≡ m →
      AllZip (Holds meta) (kept_of s) held →
      AllZip (Holds meta) (kept_of (one_off n s)) (held_by (list_any (is_subscription n) (kept_of (one_off n s))) held)
  held_off meta held true m z = member_held meta held (list_any (is_subscription n) (kept_of (one_off n s))) z m refl
  held_off meta held false m z = alone_held meta held z m

-- one subscription ends, but for the connections
pub one_ends : (n : ℕ) (k : Kept) (s : State) → Mirrors k s → Mirrors (ends_one n k) (end_where (is_subscription n) s)
one_ends n k s m =
    let entries = entries_end n s k.entries m.entries in
    let there : list_any (is_subscription n) (kept_of (one_off n s)) ≡ has n (left n k.entries) =
    sym (any_mapped (is_entry n) (entry_of (one_off n s)) (kept_of (one_off n s))) ∙ ap (has n) (sym entries) in
    record {
      version = m.version;
      tables = m.tables;
      entries = entries;
      held = subst (λ (b : Bool). AllZip (Holds k.meta) (kept_of (one_off n s)) (if b then k.held else without n k.held))
          there (held_off n s k.meta k.held (list_any (is_member n) s.jobs) refl m.held);
      jobs = m.jobs;
      subscribed = m.subscribed ∙ sym (length-map s.subscriptions (ended_if (is_subscription n)));
      jobs_made = m.jobs_made;
    }
