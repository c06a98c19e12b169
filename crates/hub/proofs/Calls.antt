-- What the hub's calls do to what is kept, by what its parts promise.
use Rattle.std.proofs.Common.{
  ◌≡◌,
  ◌∙◌,
  sym,
  ap,
  refl,
  subst,
  ℕ,
  ◌==◌,
  if◌then◌else◌,
  Bool,
  true,
  false,
  Some,
  None,
  Option,
  List,
  [],
  ◌∷◌,
  length,
  map,
  drop,
  slice_get,
}
use Rattle.std.specs.Option.{option_map, unwrap_or, is_some}
use Rattle.std.proofs.lemmas.Bool.{eqb-true}
use Rattle.wire_model.specs.declared.close.CloseReason.TheVariants as close
use Rattle.machine.specs.declared.phase.Phase.{Phase}
use Rattle.machine.specs.declared.phase.Phase.TheVariants.{Fresh, Acknowledged, Closed}
use Rattle.machine.specs.declared.queued.Queued.{Queued}
use Rattle.machine.specs.State.{
  Event,
  Connect,
  Timeout,
  Gone,
  Drain,
  Tick,
  Abandon,
  Reply,
  ConnectionKnown,
  ConnectionUnknown,
  Did,
  Sent,
  Empty,
  Done,
  Ticked,
  Abandoned,
  NotOpen,
  Close,
}
use Rattle.machine.specs.Run.{run}
use Rattle.cohort_map.specs.Entries.{Entry, ticked, live_count, due_count}
use Rattle.connection_table.specs.Connected as table
use Rattle.connection_table.specs.Connected.{
  Connected,
  connected_at,
  is_number,
  phase_of,
  first_text,
  at,
  changed,
  without,
  without_first,
}
use Rattle.subscription_table.specs.declared.held.Held.{Held}
use Rattle.hub_model.specs.declared.job.OpenJob.{OpenJob}
use Rattle.hub_model.specs.Kept.{Kept, connected}
use Rattle.hub_model.specs.Stands.{StandsFor, Does}
use Rattle.hub_model.specs.Steps.{
  counted,
  known,
  knows,
  drained,
  closed,
  gone,
  live_on,
  ends_all,
  ticks,
  closes_job,
  job_at,
}
use Rattle.hub_model.specs.Replies.{DrainAnswers}
use Rattle.hub_model.proofs.Abandons.{does_abandon, does_not_open}
use Rattle.hub_model.proofs.Counting.{counts_of}
use Rattle.hub_model.proofs.Conversations.{
  connects_not,
  timeout_closing,
  timeout_ignored,
  goes,
  drain_sent,
  drain_done,
  drain_fresh,
  drain_acknowledged,
  drain_unknown,
}
use Rattle.hub_model.proofs.Items.{
  Among,
  Ascend,
  ascend_apart,
  found_among,
  found_none,
  map_mapped,
  map_own,
  not_both,
  none_of,
  some_of,
}
use Rattle.hub_model.proofs.Ticks.{does_tick}
use Rattle.hub.specs.Parts.{emptied, is_fresh, with_entries, with_jobs}
use Rattle.hub.proofs.Runs.{is_run, jobs_apart}

-- the same event, where what is kept afterwards is the same
pub does_as : (k j l : Kept) (e : Event) (reply : Reply) (queued : List Queued) (closed : List Close) → l ≡ j →
    Does k j e reply queued closed → Does k l e reply queued closed
does_as k j l e reply queued closed is does = subst (λ (m : Kept). Does k m e reply queued closed) (sym is) does

-- ---- connections

pub connects_known : (c : ℕ) (k : Kept) → knows c k ≡ true → Does k (counted k) (Connect c) ConnectionKnown [] []
connects_known c k h = let x = some_of (known c k) h in connects_not c k x.0 x.1

live_found : (o : Option Connected) → table.live_of o ≡ unwrap_or (option_map (λ (c : Connected). c.live) o) []
live_found (Some c) = refl
live_found None = refl

-- a connection goes: its subscriptions end, and it is taken out
pub goes_by : (c : ℕ) (k : Kept) (live : List ℕ) (es : List Entry) (hs : List Held) (cs : List Connected) →
    knows c k ≡ true → live ≡ table.live_of (known c k) →
    ((l : Kept) → ends_all live (with_entries k.entries k.held l) ≡ with_entries es hs l) →
    cs ≡ without c k.connections →
    Does k (counted (record k { entries = es; held = hs; connections = cs })) (Gone c) Did [] []
goes_by c k live es hs cs h is ends left =
    let x = some_of (known c k) h in
    let after : ends_all (live_on c k) k ≡ with_entries es hs k =
    ap (λ (ns : List ℕ). ends_all ns k) (sym (is ∙ live_found (known c k))) ∙ ends k in
    does_as k (counted (gone c k)) _ (Gone c) Did [] []
    (ap (λ (l : List Connected). counted (record k { entries = es; held = hs; connections = l })) left
    ∙ ap (λ (l : Kept). counted (record l { connections = without c l.connections })) (sym after))
    (goes c k x.0 x.1 (is_run k.meta))

-- ---- timeouts

phase_found : (o : Option Connected) (p : Phase) → option_map phase_of o ≡ Some p →
    (x : Connected) × (o ≡ Some x) × (x.phase ≡ p)
phase_found (Some x) p e = (x, refl, cc)
phase_found None p e = absurd (cc)

pub timeout_closes : (c : ℕ) (k : Kept) (p : Phase) → option_map phase_of (known c k) ≡ Some p → is_fresh p ≡ true →
    Does k (counted (closed c close.InitTimeout k)) (Timeout c) Did []
    (record { connection = c; reason = close.InitTimeout } ∷ [])
timeout_closes c k Fresh e h =
    let x = phase_found (known c k) Fresh e in
    timeout_closing c k x.0 x.1 (is_run k.meta) close.InitTimeout (rw x.2 refl)
timeout_closes c k (Acknowledged session) e h = absurd (cc)
timeout_closes c k (Closed reason) e h = absurd (cc)

pub timeout_stays : (c : ℕ) (k : Kept) (p : Phase) → option_map phase_of (known c k) ≡ Some p → is_fresh p ≡ false →
    Does k (counted k) (Timeout c) Did [] []
timeout_stays c k Fresh e h = absurd (cc)
timeout_stays c k (Acknowledged session) e h =
    let x = phase_found (known c k) (Acknowledged session) e in
    timeout_ignored c k x.0 x.1 (is_run k.meta) (rw x.2 refl)
timeout_stays c k (Closed reason) e h =
    let x = phase_found (known c k) (Closed reason) e in
    timeout_ignored c k x.0 x.1 (is_run k.meta) (rw x.2 refl)

-- ---- queues

first_found : (o : Option Connected) (text : List ℕ) → first_text o ≡ Some text →
    (x : Connected) × (rest : List (List ℕ)) × (o ≡ Some x) × (x.queue ≡ text ∷ rest)
first_found (Some x) text e = let q = first_is x.queue e in (x, q.0, refl, q.1)
  where
    first_is : (queue : List (List ℕ)) → slice_get queue 0 ≡ Some text → (rest : List (List ℕ)) × (queue ≡ text ∷ rest)
    first_is [] e = absurd (cc)
    first_is (t ∷ ts) e = (ts, cc)
first_found None text e = absurd (cc)

pub drains : (c : ℕ) (k : Kept) (text : List ℕ) → first_text (known c k) ≡ Some text →
    Does k (counted (drained c k)) (Drain c) (Sent text) [] []
drains c k text e =
    let x = first_found (known c k) text e in drain_sent c k x.0 x.2 (is_run k.meta) text x.1 x.3

queue_empty : (x : Connected) → slice_get x.queue 0 ≡ None → x.queue ≡ []
queue_empty x e = none_first x.queue e
  where
    none_first : (queue : List (List ℕ)) → slice_get queue 0 ≡ None → queue ≡ []
    none_first [] e = refl
    none_first (t ∷ ts) e = absurd (cc)

empty_at : (o : Option Connected) (x : Connected) → o ≡ Some x → first_text o ≡ None → x.queue ≡ []
empty_at o x e none = queue_empty x (ap first_text (sym e) ∙ none)

-- connections stand in order
kept_ascend : (k : Kept) (h : List Event) → StandsFor k h → Ascend (map (λ (c : Connected). c.number) k.connections)
kept_ascend k h st =
    let s = run k.meta h in
    subst Ascend (sym (ap (map (λ (c : Connected). c.number)) st.represents.connections
    ∙ map_mapped (λ (c : Connected). c.number) (connected s.subscriptions) s.connections))
    (is_run k.meta h).connections_ascend

at_empty : (c : ℕ) (d : Connected) (b : Bool) → d.number == c ≡ b → (d.number == c ≡ true → d.queue ≡ []) →
    (if b then without_first d else d) ≡ d
at_empty c d true e h =
    ap (λ (queue : List (List ℕ)). record d { queue = drop 1 queue }) (h e)
    ∙ ap (λ (queue : List (List ℕ)). record d { queue = queue }) (sym (h e))
at_empty c d false e h = refl

-- where a queue is empty, or the connection isn't known, nothing leaves
pub nothing_leaves : (c : ℕ) (k : Kept) (h : List Event) → StandsFor k h → first_text (known c k) ≡ None →
    changed c without_first k.connections ≡ k.connections
nothing_leaves c k h st none =
    map_own (at c without_first) k.connections (λ d a.
    at_empty c d (d.number == c) refl (λ is. its_queue d a (known c k) refl none is))
  where
    its_queue : (d : Connected) → Among d k.connections → (o : Option Connected) → known c k ≡ o → first_text o ≡ None →
        d.number == c ≡ true → d.queue ≡ []
    its_queue d a (Some x) e n is =
        let found = found_among (is_number c) k.connections x e in
        let same = ascend_apart (λ (c : Connected). c.number) k.connections (kept_ascend k h st) d x a found.0
        (eqb-true d.number c is ∙ sym (eqb-true x.number c found.1)) in
        ap (λ (y : Connected). y.queue) same ∙ queue_empty x n
    its_queue d a None e n is = absurd (not_both (d.number == c) is (found_none (is_number c) k.connections e d a))

pub unknown_by : (c : ℕ) (k : Kept) → option_map phase_of (known c k) ≡ None → knows c k ≡ false
unknown_by c k e = none_found (known c k) e
  where
    none_found : (o : Option Connected) → option_map phase_of o ≡ None → is_some o ≡ false
    none_found (Some x) e = absurd (cc)
    none_found None e = refl

-- what the draining of an empty queue is answered
abbrev pub answer_by : Phase → Reply
answer_by Fresh = Empty
answer_by (Acknowledged session) = Empty
answer_by (Closed reason) = Done reason

drains_none : (c : ℕ) (k : Kept) (p : Phase) → option_map phase_of (known c k) ≡ Some p →
    first_text (known c k) ≡ None → Does k (counted k) (Drain c) (answer_by p) [] []
drains_none c k Fresh e none =
    let x = phase_found (known c k) Fresh e in
    drain_fresh c k x.0 x.1 (is_run k.meta) x.2 (empty_at (known c k) x.0 x.1 none)
drains_none c k (Acknowledged session) e none =
    let x = phase_found (known c k) (Acknowledged session) e in
    drain_acknowledged c k x.0 x.1 (is_run k.meta) session x.2 (empty_at (known c k) x.0 x.1 none)
drains_none c k (Closed reason) e none =
    let x = phase_found (known c k) (Closed reason) e in
    drain_done c k x.0 x.1 (is_run k.meta) reason x.2 (empty_at (known c k) x.0 x.1 none)

pub drain_answers : (c : ℕ) (k j : Kept) (p : Phase) → Does k j (Drain c) (answer_by p) [] [] →
    DrainAnswers k j c (emptied p)
drain_answers c k j Fresh does = does
drain_answers c k j (Acknowledged session) does = does
drain_answers c k j (Closed reason) does = does

pub drains_empty : (c : ℕ) (k : Kept) (cs : List Connected) (p : Phase) → cs ≡ k.connections →
    option_map phase_of (connected_at c cs) ≡ Some p → first_text (known c k) ≡ None →
    Does k (counted (record k { connections = cs })) (Drain c) (answer_by p) [] []
drains_empty c k cs p is e none =
    does_as k (counted k) _ (Drain c) (answer_by p) [] []
    (ap (λ (l : List Connected). counted (record k { connections = l })) is)
    (drains_none c k p (ap (λ (l : List Connected). option_map phase_of (connected_at c l)) (sym is) ∙ e) none)

pub drains_unknown : (c : ℕ) (k : Kept) (cs : List Connected) → cs ≡ k.connections →
    option_map phase_of (connected_at c cs) ≡ None →
    Does k (counted (record k { connections = cs })) (Drain c) ConnectionUnknown [] []
drains_unknown c k cs is e =
    does_as k (counted k) _ (Drain c) ConnectionUnknown [] []
    (ap (λ (l : List Connected). counted (record k { connections = l })) is)
    (drain_unknown c k
    (unknown_by c k (ap (λ (l : List Connected). option_map phase_of (connected_at c l)) (sym is) ∙ e)))

-- ---- ticks and jobs

pub ticks_by : (k : Kept) (n : ℕ) (es : List Entry) → es ≡ ticked k.entries → n ≡ due_count es →
    Does k (counted (record k { entries = es })) Tick (Ticked n) [] []
ticks_by k n es is count =
    does_as k (counted (ticks k)) _ Tick (Ticked n) [] []
    (ap (λ (l : List Entry). counted (record k { entries = l })) is)
    (does_tick k n (is_run k.meta) (count ∙ ap due_count is))

pub abandons : (k : Kept) (number : ℕ) (es : List Entry) (hs : List Held) (js : List OpenJob) →
    is_some (job_at number k) ≡ true →
    ((l : Kept) (job : OpenJob) → job_at number k ≡ Some job →
    closes_job number true job.members (with_jobs k.entries k.held k.jobs l) ≡ with_jobs es hs js l) →
    Does k (counted (with_jobs es hs js k)) (Abandon number) Abandoned [] []
abandons k number es hs js h closes =
    let job = some_of (job_at number k) h in
    does_as k (counted (closes_job number true job.0.members k)) _ (Abandon number) Abandoned [] []
    (ap counted (sym (closes k job.0 job.1))) (does_abandon k number job.0 (is_run k.meta) (jobs_apart k.meta) job.1)

pub abandons_not : (k : Kept) (number : ℕ) → is_some (job_at number k) ≡ false →
    Does k (counted k) (Abandon number) NotOpen [] []
abandons_not k number h = does_not_open k number (none_of (job_at number k) h)

-- ---- reports

pub counted_as : (k : Kept) (connections live due jobs : ℕ) → connections ≡ length k.connections →
    live ≡ live_count k.entries → due ≡ due_count k.entries → jobs ≡ length k.jobs →
    counts_of k ≡ record { connections = connections; live = live; due = due; jobs = jobs; version = k.version }
counted_as k connections live due jobs a b d e = rw (a, b, d, e) refl
