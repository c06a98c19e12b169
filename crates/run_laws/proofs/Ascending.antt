-- Due numbers and the members of jobs stand in order.
use Rattle.std.proofs.Common.{◌≡◌, inl, inr, sym, ap, refl, subst, ℕ, ◌+◌, ◌≤◌, ◌<◌, ◌==◌, Bool, true, false, ◌&&◌, ◌||◌, not, if◌then◌else◌, Some, None, Option, List, [], ◌∷◌, filter, arith}
use Rattle.std.specs.Option.{is_some}
use Rattle.std.specs.List.{list_any, position_from, cons_option, AllByRecursion}
use Rattle.role_model.specs.declared.metadata.Metadata.{Metadata}
use Rattle.machine.specs.State.{State, Subscription, Member, Job, Event}
use Rattle.machine.specs.Connections.{is_of, is_live_id}
use Rattle.machine.specs.Batches.{subscription_at, is_subscription, are_of_one_cohort, is_member, is_busy, numbers, is_due, next_job, batch, member_at, member_of, members_of}
use Rattle.machine.specs.Publication.{publish, database_of}
use Rattle.machine.specs.Run.{happens, run}
use Rattle.run_laws.specs.Laws.{EachPair}
use Rattle.run_laws.specs.Takings.{IsOfLive, DueAscend, IsBelow, MembersStand, MembersAscend}
use Rattle.run_laws.proofs.Among.{Among, pairs_filter, pairs_mapped, all_from_among}
use Rattle.run_laws.proofs.Cases.{IsOther, by_event, members_keep}
use Rattle.run_laws.proofs.Following.{event_proceeds}
use Rattle.run_laws.proofs.Apart.{Sound}
use Rattle.run_laws.proofs.Moves.{due_without}
use Rattle.run_laws.proofs.Numbers.{AreInOrder, in_order_after, IsEarlier, in_order_ascends}
use Rattle.run_laws.proofs.SoundRuns.{run_sound, idle_due}
use Rattle.run_laws.proofs.Histories.{every_run}
use Rattle.run_laws.proofs.OpenJobs.{event_hires, known_found, member_among}

-- Due numbers

abbrev DueRise : State → Type 0
DueRise s = EachPair ◌<◌ s.due

-- the numbers of some subscriptions
numbers_rise : (p : Subscription → Bool) (subs : List Subscription) → EachPair IsEarlier subs → EachPair ◌<◌ (numbers (filter p subs))
numbers_rise p subs h = pairs_mapped IsEarlier ◌<◌ (λ (x : Subscription). x.number) (λ x y r. r) (filter p subs) (pairs_filter IsEarlier p subs h)

without_rise : (p : Subscription → Bool) (s : State) → DueRise s → EachPair ◌<◌ (due_without p s.subscriptions s.due)
without_rise p s h = pairs_filter ◌<◌ (λ n. not (list_any (λ sub. sub.number == n && p sub) s.subscriptions)) s.due h

publish_rises : (meta : Metadata) (number : ℕ) (s : State) (job : Job) → DueRise s → DueRise (publish meta number s (Some job)).state
publish_rises meta number s job h =
    members_keep meta (database_of meta s job) DueRise (λ t number sub at r k. record { live = k; once = without_rise (is_subscription sub.number) t k; stream = λ kind. k }) job.members s h

due_rises : (meta : Metadata) (s : State) (e : Event) → AreInOrder s.subscriptions → DueRise s → DueRise (happens meta s e).state
due_rises meta s e w h =
    let earlier = in_order_ascends s.subscriptions w in
    by_event meta s e (λ t. DueRise t.state)
    (record {
      still = λ reply none. h;
      opens = λ number new. h;
      closes = λ number reason. without_rise (is_of number) s h;
      acknowledges = λ number session. h;
      pongs = λ number. h;
      refuses = λ number id fault. h;
      joins = λ number id a j. h;
      completes = λ number id. without_rise (is_live_id number id) s h;
      goes = λ number. without_rise (is_of number) s h;
      commits = λ tx db e. h;
      ticks = numbers_rise (λ sub. sub.live && not (is_busy s.subscriptions s.jobs sub)) s.subscriptions earlier;
      takes = λ first e. pairs_filter ◌<◌ (λ n. not (is_member n (next_job s (members_of (batch meta.batch_size s.due s.subscriptions first) s.subscriptions)))) s.due h;
      abandons = λ number job at. numbers_rise (λ sub. is_due s.due sub || sub.live && is_member sub.number job) s.subscriptions earlier;
      drains = λ number rest text. h;
    }) (λ number job at. publish_rises meta number s job h)

pub due_ascend : (meta : Metadata) → DueAscend meta
due_ascend meta h = (
  (every_run meta (λ s. AreInOrder s.subscriptions × DueRise s) (refl, tt)
      (λ s e w k. (in_order_after (IsOther e) s.subscriptions (happens meta s e).state.subscriptions (event_proceeds meta s e) k.0, due_rises meta s e k.0 k.1)) h).1,
  all_from_among (IsOfLive (run meta h)) (run meta h).due (λ number a. let idle = idle_due (run meta h) (run_sound meta h) number a in (idle.0, idle.1, idle.2)),
)

-- Members

abbrev IsAbove : ℕ → Member → Type 0
IsAbove number m = number < m.subscription

abbrev HasPlace : Member → Type 0
HasPlace m = 1 ≤ m.cohort

-- what holds of the members of some subscriptions
all_cons : (P : Member → Type 0) (o : Option Member) (ms : List Member) → ((m : Member) → o ≡ Some m → P m) → AllByRecursion P ms → AllByRecursion P (cons_option o ms)
all_cons P None ms h a = a
all_cons P (Some m) ms h a = (h m refl, a)

-- a member is of its subscription's number, with a place
record IsOf (x : Subscription) (m : Member) : Type 0 where
  number : m.subscription ≡ x.number
  place : HasPlace m

placed : (x : Subscription) (o : Option ℕ) (m : Member) → member_at x o ≡ Some m → IsOf x m
placed x (Some place) m e =
    let number : x.number ≡ m.subscription = cc in
    let cohort : place + 1 ≡ m.cohort = cc in
    record { number = sym number; place = omega arith }
placed x None m e = absurd (cc)

if_member : (x : Subscription) (live : Bool) (o : Option ℕ) (m : Member) → (if live then member_at x o else None) ≡ Some m → IsOf x m
if_member x true o m e = placed x o m e
if_member x false o m e = absurd (cc)

is_of_own : (cohorts : List Subscription) (x : Subscription) (m : Member) → member_of cohorts x ≡ Some m → IsOf x m
is_of_own cohorts x m e = if_member x x.live (position_from (are_of_one_cohort x) 0 cohorts) m e

members_above : (number : ℕ) (cohorts subs : List Subscription) → AllByRecursion (λ x. number < x.number) subs → AllByRecursion (IsAbove number) (members_of cohorts subs)
members_above number cohorts [] h = tt
members_above number cohorts (x ∷ xs) h =
    all_cons (IsAbove number) (member_of cohorts x) (members_of cohorts xs)
    (λ m e. let is = (is_of_own cohorts x m e).number in let above = h.0 in omega (arith, is, above))
    (members_above number cohorts xs h.1)

pairs_cons : (o : Option Member) (ms : List Member) → ((m : Member) → o ≡ Some m → AllByRecursion (IsBelow m) ms) → EachPair IsBelow ms → EachPair IsBelow (cons_option o ms)
pairs_cons None ms h p = p
pairs_cons (Some m) ms h p = (h m refl, p)

members_order : (cohorts subs : List Subscription) → EachPair IsEarlier subs → EachPair IsBelow (members_of cohorts subs)
members_order cohorts [] h = tt
members_order cohorts (x ∷ xs) h =
    pairs_cons (member_of cohorts x) (members_of cohorts xs)
    (λ m e. subst (λ (n : ℕ). AllByRecursion (IsAbove n) (members_of cohorts xs)) (sym (is_of_own cohorts x m e).number) (members_above x.number cohorts xs h.0))
    (members_order cohorts xs h.1)

members_placed : (cohorts subs : List Subscription) → AllByRecursion HasPlace (members_of cohorts subs)
members_placed cohorts [] = tt
members_placed cohorts (x ∷ xs) = all_cons HasPlace (member_of cohorts x) (members_of cohorts xs) (λ m e. (is_of_own cohorts x m e).place) (members_placed cohorts xs)

-- of every open job
record StandsInOrder (job : Job) : Type 0 where
  order : EachPair IsBelow job.members
  cohorts : AllByRecursion HasPlace job.members

abbrev JobsStand : State → Type 0
JobsStand s = (job : Job) → Among job s.jobs → StandsInOrder job

jobs_stand : (meta : Metadata) (s : State) (e : Event) → Sound s → AreInOrder s.subscriptions → JobsStand s → JobsStand (happens meta s e).state
jobs_stand meta s e w order h job a =
    elim ((event_hires meta s e w).jobs job a) [
      | inl b ↦ h job b
      | inr n ↦ record {
        order = subst (λ (ms : List Member). EachPair IsBelow ms) (sym n.members) (members_order n.cohorts s.subscriptions (in_order_ascends s.subscriptions order));
        cohorts = subst (λ (ms : List Member). AllByRecursion HasPlace ms) (sym n.members) (members_placed n.cohorts s.subscriptions);
      }
    ]

stand_in_runs : (meta : Metadata) (h : List Event) → JobsStand (run meta h)
stand_in_runs meta h =
    (every_run meta (λ s. AreInOrder s.subscriptions × JobsStand s) (refl, λ job a. absurd a)
    (λ s e w k. (in_order_after (IsOther e) s.subscriptions (happens meta s e).state.subscriptions (event_proceeds meta s e) k.0, jobs_stand meta s e w k.0 k.1)) h).1

is_some_of : {X : Type 0} (o : Option X) (x : X) → o ≡ Some x → is_some o ≡ true
is_some_of o x e = ap is_some e

pub members_ascend : (meta : Metadata) → MembersAscend meta
members_ascend meta h =
    let s = run meta h in
    all_from_among (MembersStand s) s.jobs
    (λ job a.
    let stand = stand_in_runs meta h job a in
    record {
      order = stand.order;
      known = all_from_among _ job.members (λ m b.
          let found = known_found m.subscription s.subscriptions ((run_sound meta h).members_known job a m.subscription (member_among m job b)) in
          is_some_of (subscription_at m.subscription s.subscriptions) found.0 found.1);
      cohorts = stand.cohorts;
    })
