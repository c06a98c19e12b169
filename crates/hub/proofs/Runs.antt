-- Each state that a run comes to is as the laws of the hub's calls ask for.
use Rattle.std.proofs.Common.{
  ◌≡◌,
  ◌⊎◌,
  inl,
  inr,
  ◌∙◌,
  sym,
  ap,
  refl,
  subst,
  ℕ,
  ◌<◌,
  ◌==◌,
  nat_lt,
  Bool,
  true,
  false,
  not,
  if◌then◌else◌,
  Some,
  None,
  Option,
  List,
  [],
  ◌∷◌,
  map,
  arith,
}
use Rattle.std.specs.Option.{is_some}
use Rattle.std.specs.List.{AllByRecursion}
use Rattle.std.proofs.lemmas.Bool.{eqb-true, eq-eqb, ltb-true, ltb-false}
use Rattle.role_model.specs.declared.metadata.Metadata.{Metadata}
use Rattle.wire_model.specs.ServerMessages.{next_text, complete_text}
use Rattle.machine.specs.declared.phase.Phase.TheVariants.{Fresh}
use Rattle.machine.specs.State.{State, Connection, Subscription, Member, Job, Event}
use Rattle.machine.specs.Connections.{
  connection_at,
  with_new,
  is_connection,
  at_connection,
  queues,
  closes,
  acknowledges,
  leaves,
}
use Rattle.machine.specs.Batches.{is_subscription, subscription_at, is_member, is_busy}
use Rattle.machine.specs.Publication.{publish, database_of}
use Rattle.machine.specs.Run.{happens, run}
use Rattle.run_laws.specs.Laws.{EachPair, HaveNoCommonMember, IsIdle, is_acknowledged}
use Rattle.run_laws.specs.Takings.{ComesBefore, IsOfLive, IsBelow, MembersStand, HaveOtherIds}
use Rattle.run_laws.proofs.Cases.{by_event, members_keep}
use Rattle.run_laws.proofs.Histories.{every_run}
use Rattle.run_laws.proofs.Ascending.{due_ascend, members_ascend}
use Rattle.run_laws.proofs.LinkedRuns.{live_are_acknowledged}
use Rattle.run_laws.proofs.LiveIds.{live_ids_differ}
use Rattle.run_laws.proofs.Numbers.{are_numbered_in_order}
use Rattle.run_laws.proofs.OpenJobs.{jobs_are_numbered}
use Rattle.run_laws.proofs.SoundRuns.{keeps_batches_apart}
use Rattle.hub_model.proofs.Items.{
  Among,
  Ascend,
  all_among,
  any_among,
  found_among,
  found_none,
  not_both,
  some_of,
  map_mapped,
  map_same,
}
use Rattle.hub_model.proofs.Counting.{ascend_filter}
use Rattle.hub_model.proofs.JobFacts.{JobsApart, one_of_number}
use Rattle.hub_model.proofs.Reached.{EachIsRun}

-- ---- pairs

-- two items are one, or the relation holds of them in their order
pair_of : {X : Type 0} (R : X → X → Type 0) (xs : List X) → EachPair R xs → (x y : X) → Among x xs → Among y xs →
    (x ≡ y) ⊎ (R x y ⊎ R y x)
pair_of R [] p x y a b = absurd a
pair_of R (z ∷ xs) p x y (inl i) (inl j) = inl (i ∙ sym j)
pair_of {X} R (z ∷ xs) p x y (inl i) (inr b) =
    inr (inl (subst (λ (u : X). R u y) (sym i) (all_among (R z) xs y b p.0)))
pair_of {X} R (z ∷ xs) p x y (inr a) (inl j) =
    inr (inr (subst (λ (u : X). R u x) (sym j) (all_among (R z) xs x a p.0)))
pair_of R (z ∷ xs) p x y (inr a) (inr b) = pair_of R xs p.1 x y a b

all_lower : {X : Type 0} (R : X → X → Type 0) (f : X → ℕ) → ((x y : X) → R x y → f x < f y) → (x : X) (ys : List X) →
    AllByRecursion (R x) ys → AllByRecursion (λ m. f x < m) (map f ys)
all_lower R f h x [] p = tt
all_lower R f h x (y ∷ ys) p = (h x y p.0, all_lower R f h x ys p.1)

pairs_ascend : {X : Type 0} (R : X → X → Type 0) (f : X → ℕ) → ((x y : X) → R x y → f x < f y) → (xs : List X) →
    EachPair R xs → Ascend (map f xs)
pairs_ascend R f h [] p = tt
pairs_ascend R f h (x ∷ xs) p = (all_lower R f h x xs p.0, pairs_ascend R f h xs p.1)

numbers_ascend : (ns : List ℕ) → EachPair ◌<◌ ns → Ascend ns
numbers_ascend [] p = tt
numbers_ascend (n ∷ ns) p = (p.0, numbers_ascend ns p.1)

-- ---- connections stand in order

abbrev Rise : List Connection → Type 0
Rise cs = Ascend (map (λ c. c.number) cs)

if_number : (f : Connection → Connection) (b : Bool) (c : Connection) → (f c).number ≡ c.number →
    (if b then f c else c).number ≡ c.number
if_number f true c h = h
if_number f false c h = refl

changed_rise : (number : ℕ) (f : Connection → Connection) → ((c : Connection) → (f c).number ≡ c.number) →
    (cs : List Connection) → Rise cs → Rise (map (at_connection number f) cs)
changed_rise number f h cs w =
    subst Ascend (sym (map_mapped (λ (c : Connection). c.number) (at_connection number f) cs
    ∙ map_same _ (λ (c : Connection). c.number) cs (λ c a. if_number f (is_connection number c) c (h c)))) w

all_new : (P : ℕ → Type 0) (c : Connection) (cs : List Connection) → P c.number →
    AllByRecursion P (map (λ c. c.number) cs) → AllByRecursion P (map (λ c. c.number) (with_new c cs))
all_new P c [] p h = (p, tt)
all_new P c (d ∷ ds) p h = by_order (nat_lt c.number d.number) (all_new P c ds p h.1)
  where
    by_order : (b : Bool) → AllByRecursion P (map (λ c. c.number) (with_new c ds)) →
        AllByRecursion P (map (λ c. c.number) (if b then c ∷ d ∷ ds else d ∷ with_new c ds))
    by_order true m = (p, h)
    by_order false m = (h.0, m)

all_above : (n m : ℕ) → n < m → (ms : List ℕ) → AllByRecursion (λ k. m < k) ms → AllByRecursion (λ k. n < k) ms
all_above n m l [] h = tt
all_above n m l (k ∷ ks) h = let low = h.0 in (omega (arith, l, low), all_above n m l ks h.1)

opened_rise : (c : Connection) (cs : List Connection) →
    ((d : Connection) → Among d cs → (d.number == c.number) ≡ false) → Rise cs → Rise (with_new c cs)
opened_rise c [] h w = (tt, tt)
opened_rise c (d ∷ ds) h w =
    by_order (nat_lt c.number d.number) refl (opened_rise c ds (λ e a. h e (inr a)) w.1)
  where
    above : nat_lt c.number d.number ≡ false → d.number < c.number
    above e =
        let least = ltb-false c.number d.number e in
        let other : d.number ≡ c.number → ⊥ =
        λ same. not_both (d.number == c.number) (eq-eqb d.number c.number same) (h d (inl refl)) in
        omega (arith, least, other)

    by_order : (b : Bool) → nat_lt c.number d.number ≡ b → Rise (with_new c ds) →
        Rise (if b then c ∷ d ∷ ds else d ∷ with_new c ds)
    by_order true e m =
        let low = ltb-true c.number d.number e in
        ((low, all_above c.number d.number low (map (λ c. c.number) ds) w.0), w)
    by_order false e m = (all_new (λ k. d.number < k) c ds (above e) w.0, m)

abbrev RiseIn : State → Type 0
RiseIn s = Rise s.connections

queued_rise : (number : ℕ) (text : List ℕ) (cs : List Connection) → Rise cs →
    Rise (map (at_connection number (queues text)) cs)
queued_rise number text cs w = changed_rise number (queues text) (λ c. refl) cs w

published_rise : (meta : Metadata) (number : ℕ) (s : State) (job : Job) → RiseIn s →
    RiseIn (publish meta number s (Some job)).state
published_rise meta number s job w =
    members_keep meta (database_of meta s job) RiseIn
    (λ t number sub at r k.
    let told = queued_rise sub.connection (next_text sub.id r.text) t.connections k in
    record {
      live = told;
      once = queued_rise sub.connection (complete_text sub.id) _ told;
      stream = λ kind. told;
    }) job.members s w

event_rises : (meta : Metadata) (s : State) (e : Event) → RiseIn s → RiseIn (happens meta s e).state
event_rises meta s e w =
    by_event meta s e (λ t. RiseIn t.state)
    (record {
      still = λ reply none. w;
      opens = λ number new. opened_rise (record { number = number; phase = Fresh; queue = [] }) s.connections
          (λ d a. found_none (is_connection number) s.connections new d a) w;
      closes = λ number reason. changed_rise number (closes reason) (λ c. refl) s.connections w;
      acknowledges = λ number session. changed_rise number (acknowledges session) (λ c. refl) _
          (queued_rise number _ s.connections w);
      pongs = λ number. queued_rise number _ s.connections w;
      refuses = λ number id fault. queued_rise number _ s.connections w;
      joins = λ number id a j. w;
      completes = λ number id. w;
      goes = λ number. ascend_filter (λ (c : Connection). c.number) (λ c. not (is_connection number c)) s.connections w;
      commits = λ tx db e. w;
      ticks = w;
      takes = λ first e. w;
      abandons = λ number job at. w;
      drains = λ number rest text. changed_rise number (leaves rest) (λ c. refl) s.connections w;
    }) (λ number job at. published_rise meta number s job w)

connections_rise : (meta : Metadata) (h : List Event) → RiseIn (run meta h)
connections_rise meta h = every_run meta RiseIn tt (λ s e w k. event_rises meta s e k) h

-- ---- what runs come to

acknowledged_known : (o : Option Connection) → is_acknowledged o ≡ true → is_some o ≡ true
acknowledged_known (Some c) h = refl
acknowledged_known None h = absurd (cc)

one_id : (x y : Subscription) → x.live ≡ true → y.live ≡ true → x.connection ≡ y.connection → x.id ≡ y.id →
    (x ≡ y) ⊎ (HaveOtherIds x y ⊎ HaveOtherIds y x) → x ≡ y
one_id x y v w c i (inl e) = e
one_id x y v w c i (inr (inl d)) = absurd (d v w c i)
one_id x y v w c i (inr (inr d)) = absurd (d w v (sym c) (sym i))

pub is_run : (meta : Metadata) → EachIsRun meta
is_run meta h =
    let s = run meta h in
    let due = due_ascend meta h in
    let jobs = jobs_are_numbered meta h in
    record {
      numbered = are_numbered_in_order meta h;
      ids = λ x y a b v w c i. one_id x y v w c i
          (pair_of HaveOtherIds s.subscriptions (live_ids_differ meta h) x y a b);
      known = λ x a live. acknowledged_known (connection_at x.connection s)
          (all_among _ s.subscriptions x a (live_are_acknowledged meta h) live);
      due = λ number a.
          let is : IsOfLive s number = all_among (IsOfLive s) s.due number a due.1 in
          let found = found_among (is_subscription number) s.subscriptions is.0 is.1 in
          record { sub = is.0; among = found.0; number = eqb-true is.0.number number found.1; live = is.2 };
      due_ascend = numbers_ascend s.due due.0;
      members = λ job a number is.
          let stand : MembersStand s job = all_among (MembersStand s) s.jobs job a (members_ascend meta h) in
          let m = any_among (λ (m : Member). m.subscription == number) job.members is in
          let known = some_of (subscription_at m.0.subscription s.subscriptions)
          (all_among (λ (m : Member). is_some (subscription_at m.subscription s.subscriptions) ≡ true) job.members
          m.0 m.1 stand.known) in
          let found = found_among (is_subscription m.0.subscription) s.subscriptions known.0 known.1 in
          (known.0, found.0, eqb-true known.0.number m.0.subscription found.1 ∙ eqb-true m.0.subscription number m.2);
      members_ascend = λ job a.
          let stand : MembersStand s job = all_among (MembersStand s) s.jobs job a (members_ascend meta h) in
          pairs_ascend IsBelow (λ (m : Member). m.subscription) (λ x y r. r) job.members stand.order;
      jobs_ascend = pairs_ascend ComesBefore (λ (job : Job). job.number) (λ x y r. r) s.jobs jobs.order;
      jobs_made = λ job a. (all_among _ s.jobs job a jobs.numbers).1;
      connections_ascend = connections_rise meta h;
    }

one_job : (i j : Job) (number : ℕ) → is_member number i ≡ true → is_member number j ≡ true →
    (i ≡ j) ⊎ (HaveNoCommonMember i j ⊎ HaveNoCommonMember j i) → i.number ≡ j.number
one_job i j number v w (inl e) = ap (λ (job : Job). job.number) e
one_job i j number v w (inr (inl d)) = absurd (not_both (is_member number j) w (d number v))
one_job i j number v w (inr (inr d)) = absurd (not_both (is_member number i) v (d number w))

pub jobs_apart : (meta : Metadata) (h : List Event) → JobsApart (run meta h)
jobs_apart meta h =
    let s = run meta h in
    let apart = keeps_batches_apart meta h in
    record {
      members = λ i j a b number v w. one_job i j number v w (pair_of HaveNoCommonMember s.jobs apart.members i j a b);
      idle = λ x a is.
          let n = any_among (λ n. n == x.number) s.due is in
          let idle : IsIdle s n.0 = all_among (IsIdle s) s.due n.0 n.1 apart.due in
          let found = found_among (is_subscription n.0) s.subscriptions idle.0 idle.1 in
          let same = one_of_number s.subscriptions (are_numbered_in_order meta h) idle.0 x found.0 a
          (eqb-true idle.0.number n.0 found.1 ∙ eqb-true n.0 x.number n.2) in
          ap (λ (y : Subscription). is_busy s.subscriptions s.jobs y) (sym same) ∙ idle.3;
    }
