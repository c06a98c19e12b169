-- A tick of what is kept is the machine's.
use Rattle.std.proofs.Common.{◌≡◌, ◌∙◌, sym, ap, refl, ℕ, Bool, ◌&&◌, not, List, [], length, map}
use Rattle.std.specs.Option.{is_some}
use Rattle.std.specs.List.{list_any, filter}
use Rattle.std.proofs.lemmas.List.{length-map}
use Rattle.cohort_map.specs.Entries as entries
use Rattle.cohort_map.specs.Entries.{Entry, with_due, ticked, due_count}
use Rattle.machine.specs.State.{State, Subscription, Event, Tick, Ticked, silent}
use Rattle.machine.specs.Batches.{are_of_one_cohort, is_member, is_busy, idle, tick}
use Rattle.machine.specs.Run.{run}
use Rattle.hub_model.specs.Kept.{Kept, is_kept, kept_of, job_with, entry_of, Represents}
use Rattle.hub_model.specs.Stands.{Does}
use Rattle.hub_model.specs.Steps.{counted, ticks}
use Rattle.hub_model.proofs.Items.{among_filter, or_true_right, and_true, or_true_left, map_mapped, map_same}
use Rattle.hub_model.proofs.Items.{any_mapped, any_same, filter_mapped, filter_same}
use Rattle.hub_model.proofs.Filtered.{any_kept, filter_kept}
use Rattle.hub_model.proofs.Cohorts.{of_one_cohort}
use Rattle.hub_model.proofs.Ends.{some_job}
use Rattle.hub_model.proofs.JobFacts.{AreNumbered, number_left}
use Rattle.hub_model.proofs.Reached.{IsRun}
use Rattle.hub_model.proofs.Standing.{does, counts}

abbrev pub entries_of : State → List Entry
entries_of s = map (entry_of s) (kept_of s)

pub busy_is : (s : State) (x : Subscription) →
    entries.is_busy (entries_of s) (entry_of s x) ≡ is_busy s.subscriptions s.jobs x
busy_is s x =
    let busy : Subscription → Bool = λ y. are_of_one_cohort x y && list_any (is_member y.number) s.jobs in
    any_mapped (λ (e : Entry). entries.are_of_one_cohort (entry_of s x) e && entries.is_marked e) (entry_of s)
    (kept_of s)
    ∙ any_same
    (λ (y : Subscription).
    entries.are_of_one_cohort (entry_of s x) (entry_of s y) && is_some (job_with y.number s.jobs)) busy (kept_of s)
    (λ y a. rw (of_one_cohort s s x y, some_job y.number s.jobs) refl)
    ∙ any_kept busy (is_kept s.jobs) s.subscriptions
    (λ y a h. or_true_right y.live (list_any (is_member y.number) s.jobs) (and_true _ _ h).1)

abbrev is_idle : State → Subscription → Bool
is_idle s sub = sub.live && not (is_busy s.subscriptions s.jobs sub)

ticked_is : (s : State) → AreNumbered s.subscriptions → ticked (entries_of s) ≡ entries_of (tick s).state
ticked_is s n =
    map_mapped (λ (e : Entry). with_due (e.live && not (entries.is_busy (entries_of s) e)) e) (entry_of s) (kept_of s)
    ∙ map_same _ (entry_of (tick s).state) (kept_of s)
    (λ x a.
    ap (λ (b : Bool). with_due (x.live && not b) (entry_of s x)) (busy_is s x)
    ∙ ap (λ (b : Bool). with_due b (entry_of s x))
    (sym (number_left s.subscriptions n (is_idle s) x (among_filter (is_kept s.jobs) x s.subscriptions a).0)))

-- as many are due as are idle
ticked_count : (s : State) → AreNumbered s.subscriptions →
    due_count (ticked (entries_of s)) ≡ length (idle s.subscriptions s.jobs)
ticked_count s n =
    let t = (tick s).state in
    ap due_count (ticked_is s n)
    ∙ ap (λ (es : List Entry). length es) (filter_mapped entries.is_due (entry_of t) (kept_of s))
    ∙ length-map (filter (λ (x : Subscription). (entry_of t x).due) (kept_of s)) (entry_of t)
    ∙ ap (λ (subs : List Subscription). length subs)
    (filter_same _ (is_idle s) (kept_of s)
    (λ x a. number_left s.subscriptions n (is_idle s) x (among_filter (is_kept s.jobs) x s.subscriptions a).0)
    ∙ filter_kept (is_idle s) (is_kept s.jobs) s.subscriptions
    (λ x a h. or_true_left x.live (list_any (is_member x.number) s.jobs) (and_true _ _ h).0))
    ∙ sym (length-map (filter (is_idle s) s.subscriptions) (λ (sub : Subscription). sub.number))

pub ticks_represents : (k : Kept) (s : State) → AreNumbered s.subscriptions → Represents k s →
    Represents (ticks k) (tick s).state
ticks_represents k s n r = record {
  version = r.version;
  tables = r.tables;
  connections = r.connections;
  entries = ap ticked r.entries ∙ ticked_is s n;
  held = r.held;
  jobs = r.jobs;
  subscribed = r.subscribed;
  jobs_made = r.jobs_made;
}

pub ticks_count : (k : Kept) (s : State) → AreNumbered s.subscriptions → Represents k s →
    due_count (ticked k.entries) ≡ length (idle s.subscriptions s.jobs)
ticks_count k s n r = ap (λ (es : List Entry). due_count (ticked es)) r.entries ∙ ticked_count s n

-- a tick, whose reply is how many are due then
pub does_tick : (k : Kept) (n : ℕ) → ((h : List Event) → IsRun (run k.meta h)) → n ≡ due_count (ticked k.entries) →
    Does k (counted (ticks k)) Tick (Ticked n) [] []
does_tick k n runs e =
    does k (counted (ticks k)) Tick (Ticked n) [] [] refl refl
    (λ h st.
    let s = run k.meta h in
    record {
      after = (tick s).state;
      step = ap (λ (count : ℕ). silent (tick s).state (Ticked count))
          (sym (e ∙ ticks_count k s (runs h).numbered st.represents));
      represents = counts (ticks k) (tick s).state (ticks_represents k s (runs h).numbered st.represents);
    })
