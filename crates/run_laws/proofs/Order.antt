-- No subscription returns to an older snapshot.
use Rattle.std.proofs.Common.{◌≡◌, ◌⊎◌, inl, inr, ◌∙◌, sym, ap, refl, subst, ℕ, ◌≤◌, ◌<◌, ◌==◌, Bool, true, false, if◌then◌else◌, Some, None, Option, List, [], ◌∷◌, ◌++◌, append-nil, length, length-append, map, filter, arith}
use Rattle.std.specs.List.{AllByRecursion}
use Rattle.std.proofs.lemmas.Bool.{eqb-true, eq-eqb, true≢false}
use Rattle.std.proofs.lemmas.List.{map-append}
use Rattle.std.proofs.lemmas.List.Elements.{filter-append}
use Rattle.data_model.specs.Rows.{Database}
use Rattle.data_model.specs.declared.transaction.TxChange.{TxChange}
use Rattle.role_model.specs.declared.metadata.Metadata.{Metadata}
use Rattle.machine.specs.State.{State, Subscription, Member, Job, Event, Publish, opening}
use Rattle.machine.specs.Batches.{is_subscription, subscription_at, is_member, is_job, take_from, job_at, without_job, abandon}
use Rattle.machine.specs.Publication.{publish_member, publish, database_of}
use Rattle.machine.specs.Run.{happens, after_all, run}
use Rattle.run_laws.specs.Laws.{Turn, turn_of, turns_in, turns_of_job, turns_at, turns_from, turns, is_turn_of, versions, version_of, EachPair, NeverReturns, BeginsAtItsSubscribe}
use Rattle.run_laws.proofs.Among.{Among, among_append, among_map, among_filter, among_any, found_among, all_among, all_from_among}
use Rattle.run_laws.proofs.Runs.{turns-append}
use Rattle.run_laws.proofs.Following.{event_proceeds}
use Rattle.run_laws.proofs.Cases.{IsOther, by_event}
use Rattle.run_laws.proofs.EndedSubscriptions.{proceeds_longer}
use Rattle.run_laws.proofs.Apart.{HaveOtherNumbers, Sound, cohort_own}
use Rattle.run_laws.proofs.Publishing.{members_publishing, left_job, others_free}
use Rattle.run_laws.proofs.SoundRuns.{event_sound, run_sound}

-- How jobs and transactions go on: each job is an earlier one or of the version now, and transactions are added alone.
pub record GoesOn (s t : State) : Type 0 where
  pub jobs : (job : Job) → Among job t.jobs → Among job s.jobs ⊎ (version_of s ≤ job.version)
  pub more : List (List TxChange)
  pub grows : t.transactions ≡ s.transactions ++ more

pub later_of : (s t : State) → GoesOn s t → version_of s ≤ version_of t
later_of s t g =
    let whole = ap (λ (l : List (List TxChange)). length l) g.grows in
    let both = length-append s.transactions g.more in
    omega (arith, whole, both)

goes_on_same : (s t : State) (more : List (List TxChange)) → t.jobs ≡ s.jobs → t.transactions ≡ s.transactions ++ more → GoesOn s t
goes_on_same s t more e v = record { jobs = λ job a. inl (subst (λ (l : List Job). Among job l) e a); more = more; grows = v }

unchanged : (s t : State) → t.jobs ≡ s.jobs → t.transactions ≡ s.transactions → GoesOn s t
unchanged s t e v = goes_on_same s t [] e (v ∙ sym (append-nil s.transactions))

new_job : (s : State) (new job : Job) → new.version ≡ version_of s → Among job (s.jobs ++ new ∷ []) → Among job s.jobs ⊎ (version_of s ≤ job.version)
new_job s new job e a = elim (among_append job s.jobs (new ∷ []) a) [ inl b ↦ inl b | inr b ↦ inr (at_now b) ]
  where
    at_now : Among job (new ∷ []) → version_of s ≤ job.version
    at_now (inl is) = let same = ap (λ (j : Job). j.version) is in omega (arith, same, e)
    at_now (inr b) = absurd b

take_on : (meta : Metadata) (s : State) (o : Option Subscription) → GoesOn s (take_from meta s o).state
take_on meta s (Some first) = record { jobs = λ job a. new_job s _ job refl a; more = []; grows = sym (append-nil s.transactions) }
take_on meta s None = unchanged _ _ refl refl

abandon_on : (number : ℕ) (s : State) (o : Option Job) → GoesOn s (abandon number s o).state
abandon_on number s (Some job) = record { jobs = λ other a. inl (left_job number s.jobs other a).0; more = []; grows = sym (append-nil s.transactions) }
abandon_on number s None = unchanged _ _ refl refl

-- the jobs that a publication leaves
pub published_jobs : (meta : Metadata) (number : ℕ) (s : State) (job : Job) → (publish meta number s (Some job)).state.jobs ≡ without_job number s.jobs
published_jobs meta number s job = ap (λ (l : List Job). without_job number l) (members_publishing meta (database_of meta s job) job job.members s (λ m b. b)).jobs

pub published_left : (meta : Metadata) (number : ℕ) (s : State) (job other : Job) → Among other (publish meta number s (Some job)).state.jobs → Among other (without_job number s.jobs)
published_left meta number s job other a =
    subst (λ (l : List Job). Among other (without_job number l)) (members_publishing meta (database_of meta s job) job job.members s (λ m b. b)).jobs a

pub published_transactions : (meta : Metadata) (number : ℕ) (s : State) (job : Job) → (publish meta number s (Some job)).state.transactions ≡ s.transactions
published_transactions meta number s job = (members_publishing meta (database_of meta s job) job job.members s (λ m b. b)).transactions

publish_on : (meta : Metadata) (number : ℕ) (s : State) (o : Option Job) → GoesOn s (publish meta number s o).state
publish_on meta number s (Some job) = record {
  jobs = λ other a. inl (left_job number s.jobs other (published_left meta number s job other a)).0;
  more = [];
  grows = published_transactions meta number s job ∙ sym (append-nil s.transactions);
}
publish_on meta number s None = unchanged _ _ refl refl

pub event_on : (meta : Metadata) (s : State) (e : Event) → GoesOn s (happens meta s e).state
event_on meta s e =
    by_event meta s e (λ t. GoesOn s t.state)
    (record {
      still = λ reply none. unchanged _ _ refl refl;
      opens = λ number new. unchanged _ _ refl refl;
      closes = λ number reason. unchanged _ _ refl refl;
      acknowledges = λ number session. unchanged _ _ refl refl;
      pongs = λ number. unchanged _ _ refl refl;
      refuses = λ number id fault. unchanged _ _ refl refl;
      joins = λ number id a j. unchanged _ _ refl refl;
      completes = λ number id. unchanged _ _ refl refl;
      goes = λ number. unchanged _ _ refl refl;
      commits = λ tx db e. goes_on_same _ _ (tx ∷ []) refl refl;
      ticks = unchanged _ _ refl refl;
      takes = λ first e. take_on meta s (Some first);
      abandons = λ number job at. abandon_on number s (Some job);
      drains = λ number rest text. unchanged _ _ refl refl;
    }) (λ number job at. publish_on meta number s (Some job))

-- No further result of a subscription is of a version below this one.
record IsLow (s : State) (number low : ℕ) : Type 0 where
  now : low ≤ version_of s
  jobs : (job : Job) → Among job s.jobs → is_member number job ≡ true → low ≤ job.version

low_after : (s t : State) (number low : ℕ) → GoesOn s t → IsLow s number low → IsLow t number low
low_after s t number low g w = record {
  now = let now = w.now in let later = later_of s t g in omega (arith, now, later);
  jobs = λ job a m. elim (g.jobs job a) [ inl b ↦ w.jobs job b m | inr v ↦ (let now = w.now in omega (arith, now, v)) ];
}

-- the versions at the turns of one event, and from a state on
abbrev pub versions_at : Metadata → State → Event → ℕ → List ℕ
versions_at meta s e number = map (λ (t : Turn). t.version) (filter (is_turn_of number) (turns_at meta s e))

abbrev pub versions_from : Metadata → State → List Event → ℕ → List ℕ
versions_from meta s h number = map (λ (t : Turn). t.version) (filter (is_turn_of number) (turns_from meta s h))

versions_append : (number : ℕ) (ts us : List Turn) →
    map (λ (t : Turn). t.version) (filter (is_turn_of number) (ts ++ us)) ≡ map (λ (t : Turn). t.version) (filter (is_turn_of number) ts) ++ map (λ (t : Turn). t.version) (filter (is_turn_of number) us)
versions_append number ts us =
    ap (λ (l : List Turn). map (λ (t : Turn). t.version) l) (filter-append (is_turn_of number) ts us)
    ∙ map-append (λ (t : Turn). t.version) (filter (is_turn_of number) ts) (filter (is_turn_of number) us)

-- a turn is that of a member, at the job's version
abbrev pub IsOfJob : Job → Turn → Type 0
IsOfJob job t = (t.version ≡ job.version) × (is_member t.subscription.number job ≡ true)

turn_when : (job : Job) (t u : Turn) (live : Bool) → IsOfJob job u → Among t (if live then u ∷ [] else []) → IsOfJob job t
turn_when job t u true h (inl e) = subst (λ (x : Turn). IsOfJob job x) (sym e) h
turn_when job t u true h (inr a) = absurd a
turn_when job t u false h a = absurd a

turn_is : (meta : Metadata) (db : Database) (job : Job) (m : Member) (s : State) (o : Option Subscription) → subscription_at m.subscription s.subscriptions ≡ o → Among m job.members →
    (t : Turn) → Among t (turn_of meta db job.version s o) → IsOfJob job t
turn_is meta db job m s None at a t b = absurd b
turn_is meta db job m s (Some sub) at a t b =
    let number = eqb-true sub.number m.subscription (found_among (is_subscription m.subscription) s.subscriptions sub at).1 in
    let member : is_member sub.number job ≡ true = among_any (λ (k : Member). k.subscription == sub.number) m job.members a (eq-eqb m.subscription sub.number (sym number)) in
    turn_when job t (record { version = job.version; subscription = sub; queued = (publish_member meta db s (Some sub)).queued }) sub.live (refl, member) b

pub turns_are : (meta : Metadata) (db : Database) (job : Job) (ms : List Member) (s : State) → ((m : Member) → Among m ms → Among m job.members) → (t : Turn) → Among t (turns_in meta db job.version ms s) → IsOfJob job t
turns_are meta db job [] s h t a = absurd a
turns_are meta db job (m ∷ ms) s h t a =
    let sub = subscription_at m.subscription s.subscriptions in
    elim (among_append t (turn_of meta db job.version s sub) (turns_in meta db job.version ms (publish_member meta db s sub).state) a) [
      | inl b ↦ turn_is meta db job m s sub refl (h m (inl refl)) t b
      | inr b ↦ turns_are meta db job ms (publish_member meta db s sub).state (λ k c. h k (inr c)) t b
    ]

-- the job that an event publishes, if a subscription has a turn in it
pub record Turned (s : State) (t : State) (number version : ℕ) : Type 0 where
  pub job : Job
  pub within : Among job s.jobs
  pub is : version ≡ job.version
  pub member : is_member number job ≡ true
  pub left : (other : Job) → Among other t.jobs → is_member number other ≡ false

turned_by : (meta : Metadata) (j : ℕ) (s : State) (number version : ℕ) (o : Option Job) → Sound s → job_at j s.jobs ≡ o →
    Among version (map (λ (t : Turn). t.version) (filter (is_turn_of number) (turns_of_job meta s o))) → Turned s (publish meta j s o).state number version
turned_by meta j s number version None w at a = absurd a
turned_by meta j s number version (Some job) w at a =
    let r = among_map (λ (t : Turn). t.version) (filter (is_turn_of number) (turns_of_job meta s (Some job))) version a in
    let f = among_filter (is_turn_of number) r.0 (turns_of_job meta s (Some job)) r.1 in
    let t = turns_are meta (database_of meta s job) job job.members s (λ m b. b) r.0 f.0 in
    let same = eqb-true r.0.subscription.number number f.1 in
    let member : is_member number job ≡ true = ap (λ (n : ℕ). is_member n job) (sym same) ∙ t.1 in
    let found = found_among (is_job j) s.jobs job at in
    let known = w.members_known job found.0 number member in
    let free = others_free s w j job at known.0 known.1 (ap (λ (n : ℕ). is_member n job) known.2 ∙ member) in
    record {
      job = job;
      within = found.0;
      is = r.2 ∙ t.0;
      member = member;
      left = λ other b. ap (λ (n : ℕ). is_member n other) (sym known.2) ∙ free.0 other (published_left meta j s job other b);
    }

pub turned : (meta : Metadata) (s : State) (e : Event) (number version : ℕ) → Sound s → Among version (versions_at meta s e number) → Turned s (happens meta s e).state number version
turned meta s (Publish j) number version w a = turned_by meta j s number version (job_at j s.jobs) w refl a
turned meta s _ number version w a = absurd a

-- a version at a turn is low from then on
turned_low : (meta : Metadata) (s : State) (e : Event) (number version : ℕ) → Sound s → Turned s (happens meta s e).state number version → IsLow (happens meta s e).state number version
turned_low meta s e number version w t = record {
  now =
      let is = t.is in
      let low = w.versions t.job t.within in
      let later = later_of s (happens meta s e).state (event_on meta s e) in
      omega (arith, is, low, later);
  jobs = λ job a m. absurd (true≢false (sym m ∙ t.left job a));
}

low_from : (meta : Metadata) (h : List Event) (s : State) (number low : ℕ) → Sound s → IsLow s number low → (version : ℕ) → Among version (versions_from meta s h number) → low ≤ version
low_from meta [] s number low w b version a = absurd a
low_from meta (e ∷ h) s number low w b version a =
    let after = (happens meta s e).state in
    elim (among_append version (versions_at meta s e number) (versions_from meta after h number) (subst (λ (l : List ℕ). Among version l) (versions_append number (turns_at meta s e) (turns_from meta after h)) a)) [
      | inl c ↦ (let t = turned meta s e number version w c in let low_of = b.jobs t.job t.within t.member in let is = t.is in omega (arith, low_of, is))
      | inr c ↦ low_from meta h after number low (event_sound meta s e w) (low_after s after number low (event_on meta s e) b) version c
    ]

-- pairs

all_both : {X : Type 0} (P : X → Type 0) (xs ys : List X) → AllByRecursion P xs → ((y : X) → Among y ys → P y) → AllByRecursion P (xs ++ ys)
all_both P [] ys h i = all_from_among P ys i
all_both P (x ∷ xs) ys h i = (h.0, all_both P xs ys h.1 i)

pairs_append : {X : Type 0} (R : X → X → Type 0) (xs ys : List X) → EachPair R xs → EachPair R ys → ((x y : X) → Among x xs → Among y ys → R x y) → EachPair R (xs ++ ys)
pairs_append R [] ys p q h = q
pairs_append R (x ∷ xs) ys p q h = (all_both (R x) xs ys p.0 (λ y a. h x y (inl refl) a), pairs_append R xs ys p.1 q (λ z y a b. h z y (inr a) b))

pairs_from_among : {X : Type 0} (R : X → X → Type 0) (xs : List X) → ((x y : X) → Among x xs → Among y xs → R x y) → EachPair R xs
pairs_from_among R [] h = tt
pairs_from_among R (x ∷ xs) h = (all_from_among (R x) xs (λ y a. h x y (inl refl) (inr a)), pairs_from_among R xs (λ y z a b. h y z (inr a) (inr b)))

-- open jobs of one number are one
one_job : (jobs : List Job) → EachPair HaveOtherNumbers jobs → (i j : Job) → Among i jobs → Among j jobs → i.number ≡ j.number → i ≡ j
one_job [] p i j a b e = absurd a
one_job (k ∷ ks) p i j (inl c) (inl d) e = c ∙ sym d
one_job (k ∷ ks) p i j (inl c) (inr d) e = absurd (all_among (HaveOtherNumbers k) ks j d p.0 (sym (ap (λ (job : Job). job.number) c) ∙ e))
one_job (k ∷ ks) p i j (inr c) (inl d) e = absurd (all_among (HaveOtherNumbers k) ks i c p.0 (sym (ap (λ (job : Job). job.number) d) ∙ sym e))
one_job (k ∷ ks) p i j (inr c) (inr d) e = one_job ks p.1 i j c d e

-- all turns of one subscription in one event are of one version
same_job : (meta : Metadata) (s : State) (e : Event) (number : ℕ) → Sound s → (v u : ℕ) → Among v (versions_at meta s e number) → Among u (versions_at meta s e number) → v ≤ u
same_job meta s e number w v u a b =
    let p = turned meta s e number v w a in
    let q = turned meta s e number u w b in
    let known = w.members_known p.job p.within number p.member in
    let mine : (job : Job) → is_member number job ≡ true → is_member known.0.number job ≡ true = (λ job m. ap (λ (n : ℕ). is_member n job) known.2 ∙ m) in
    let numbers = w.apart p.job q.job p.within q.within known.0 known.0 known.1 known.1 (cohort_own known.0) (mine p.job p.member) (mine q.job q.member) in
    let version = ap (λ (job : Job). job.version) (one_job s.jobs w.distinct p.job q.job p.within q.within numbers) in
    let first = p.is in
    let second = q.is in
    omega (arith, version, first, second)

rising : (meta : Metadata) (h : List Event) (s : State) (number : ℕ) → Sound s → EachPair ◌≤◌ (versions_from meta s h number)
rising meta [] s number w = tt
rising meta (e ∷ h) s number w =
    let after = (happens meta s e).state in
    subst (λ (l : List ℕ). EachPair ◌≤◌ l) (sym (versions_append number (turns_at meta s e) (turns_from meta after h)))
    (pairs_append ◌≤◌ (versions_at meta s e number) (versions_from meta after h number)
    (pairs_from_among ◌≤◌ (versions_at meta s e number) (λ v u a b. same_job meta s e number w v u a b))
    (rising meta h after number (event_sound meta s e w))
    (λ v u a b. low_from meta h after number v (event_sound meta s e w) (turned_low meta s e number v w (turned meta s e number v w a)) u b))

pub never_returns : (meta : Metadata) → NeverReturns meta
never_returns meta h number = rising meta h opening number (run_sound meta [])

-- From the subscribe on

after_longer : (meta : Metadata) (h : List Event) (s : State) → length s.subscriptions ≤ length (after_all meta s h).subscriptions
after_longer meta [] s = omega arith
after_longer meta (e ∷ h) s =
    let after = (happens meta s e).state in
    let first = proceeds_longer (IsOther e) s.subscriptions after.subscriptions (event_proceeds meta s e) in
    let more = after_longer meta h after in
    omega (arith, first, more)

-- who has a turn is known at the end
pub turned_known : (meta : Metadata) (h : List Event) (s : State) (number version : ℕ) → Sound s → Among version (versions_from meta s h number) → number ≤ length (after_all meta s h).subscriptions
turned_known meta [] s number version w a = absurd a
turned_known meta (e ∷ h) s number version w a =
    let after = (happens meta s e).state in
    elim (among_append version (versions_at meta s e number) (versions_from meta after h number) (subst (λ (l : List ℕ). Among version l) (versions_append number (turns_at meta s e) (turns_from meta after h)) a)) [
      | inl c ↦
          (let t = turned meta s e number version w c in
          let known = w.members_known t.job t.within number t.member in
          let low = w.numbered.bounded known.0 known.1 in
          let is = known.2 in
          let longer = after_longer meta (e ∷ h) s in
          omega (arith, low, is, longer))
      | inr c ↦ turned_known meta h after number version (event_sound meta s e w) c
    ]

low_before : (s : State) → Sound s → (number : ℕ) → length s.subscriptions < number → IsLow s number (version_of s)
low_before s w number new = record {
  now = omega arith;
  jobs = λ job a m. (let known = w.members_known job a number m in let low = w.numbered.bounded known.0 known.1 in let is = known.2 in absurd (omega (arith, low, is, new)));
}

pub begins_at_its_subscribe : (meta : Metadata) → BeginsAtItsSubscribe meta
begins_at_its_subscribe meta before after number new =
    all_from_among (λ (version : ℕ). version_of (run meta before) ≤ version) (versions meta (before ++ after) number)
    (λ version a.
    elim (among_append version (versions meta before number) (versions_from meta (run meta before) after number)
    (subst (λ (l : List ℕ). Among version l)
    (ap (λ (ts : List Turn). map (λ (t : Turn). t.version) (filter (is_turn_of number) ts)) (turns-append meta before after) ∙ versions_append number (turns meta before) (turns_from meta (run meta before) after)) a)) [
      | inl b ↦ (let known = turned_known meta before opening number version (run_sound meta []) b in absurd (omega (arith, known, new)))
      | inr b ↦ low_from meta after (run meta before) number (version_of (run meta before)) (run_sound meta before) (low_before (run meta before) (run_sound meta before) number new) version b
    ])
