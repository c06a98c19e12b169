-- The jobs that a script took: taken, published and abandoned.
use Rattle.std.proofs.Common.{◌≡◌, ◌≢◌, ◌∙◌, ◌≤◌, ◌<◌, ◌+◌, ◌-◌, ◌*◌, ◌==◌, ◌||◌, arith, sym, ap, subst, refl, inl, inr, ◌⊎◌, ℕ, suc, Bool, true, false, not, Option, Some, None, List, [], ◌∷◌, ◌++◌, length, length-append, map, filter}
use Rattle.std.specs.Prelude.{find, slice_get, get_or, take, drop}
use Rattle.std.specs.List.{list_any, position, AllByRecursion}
use Rattle.std.specs.Option.{option_map}
use Rattle.std.proofs.lemmas.List.{map-append}
use Rattle.std.proofs.lemmas.Grind.{common_steps}
use Rattle.std.proofs.lemmas.Bool.{eq-eqb, eqb-true, cases_Bool}
use Rattle.role_model.specs.declared.metadata.Metadata.{Metadata}
use Rattle.plan_model.specs.Outcomes.{Outcome}
use Rattle.machine.specs.State as machine
use Rattle.machine.specs.State.{State, Event, Take, Publish, Abandon, Reply, Taken, Nobody, NotOpen, Published, Abandoned, Step}
use Rattle.machine.specs.Batches.{is_job, job_at, without_job}
use Rattle.machine.specs.Publication.{publish, database_of}
use Rattle.machine.specs.Run.{happens, run}
use Rattle.machine.specs.Transcript.{transcript, goes}
use Rattle.machine.specs.Script.{Running, serves}
use Rattle.machine.specs.declared.queued.Queued.{Queued}
use Rattle.hub_model.specs.declared.job.Job.{Job}
use Rattle.hub_model.specs.declared.job.Answers.{Answers}
use Rattle.hub_model.specs.declared.reply.PublishReply.TheVariants as publish_reply
use Rattle.hub_model.specs.Kept.{Kept}
use Rattle.hub_model.specs.Jobs.{job_of, AreResults, evaluated, JobOf, AnswersOf}
use Rattle.hub_model.specs.Stands.{StandsFor, Happened, Does}
use Rattle.hub_model.specs.Replies.{TookJob, PublishAnswers}
use Rattle.hub_model.proofs.Items.{filter_yes, filter_no}
use Rattle.query_model.proofs.Positions.{position_here, position_past}
use Rattle.run_laws.specs.Takings.{takings}
use Rattle.run_laws.proofs.Among.{Among, among_append, found_among, all_among, any_among, among_any, or_true_left, or_true_right, not_true}
use Rattle.run_laws.proofs.Tests.{all_append, all_then}
use Rattle.script_text.specs.Told.{Tells}
use Rattle.subs_run.specs.declared.line_result.LineResult.TheVariants as line_result
use Rattle.subs_run.specs.Events.{IsTaken, has_job, open_numbers, HaveOpen, HaveOthers, AreWithout, Removes, RunsOn, Reaches, HasClosed, IsBounded, LineRan}
use Rattle.subs_run.proofs.Machine.{subs-same, AddsNone, jobs-published, jobs-abandoned, published-none, Opens, taken}
use Rattle.subs_run.proofs.Events.{numbers, open_are, state_after, reply_after, told_by, open_after, few_after, taken_later}

-- ---- a job is taken out

all_without : {X : Type 0} (P : X → Type 0) (front back : List X) (x : X) → AllByRecursion P (front ++ x ∷ back) →
    P x × AllByRecursion P (front ++ back)
all_without P [] back x all = (all.0, all.1)
all_without P (y ∷ front) back x all = let more = all_without P front back x all.1 in (more.0, (all.0, more.1))

pub removes_all : (P : Job → Type 0) (jobs others : List Job) (number : ℕ) (o : Option Job) →
    Removes jobs others number o → AllByRecursion P jobs → AllByRecursion P others
removes_all P jobs others number (Some job) r all =
    subst (AllByRecursion P) (sym r.0.rest)
    (all_without P r.0.front r.0.back job (subst (AllByRecursion P) r.0.whole all)).1
removes_all P jobs others number None r all = subst (AllByRecursion P) (sym r.0) all

pub removed_one : (P : Job → Type 0) (jobs others : List Job) (job : Job) → AreWithout jobs job others →
    AllByRecursion P jobs → P job
removed_one P jobs others job r all =
    (all_without P r.front r.back job (subst (AllByRecursion P) r.whole all)).0

among_without : (front back : List Job) (x job : Job) → Among x (front ++ job ∷ back) →
    (x ≡ job) ⊎ Among x (front ++ back)
among_without [] back x job (inl e) = inl e
among_without [] back x job (inr a) = inr a
among_without (y ∷ front) back x job (inl e) = inr (inl e)
among_without (y ∷ front) back x job (inr a) =
    elim (among_without front back x job a) [ inl e ↦ inl e | inr b ↦ inr (inr b) ]

has_other : (jobs others : List Job) (number n : ℕ) (o : Option Job) → Removes jobs others number o →
    has_job jobs n ≡ true → ((n == number) || has_job others n) ≡ true
has_other jobs others number n (Some job) r has =
    let found = any_among (λ (x : Job). x.number == n) jobs has in
    elim (among_without r.0.front r.0.back found.0 job (subst (Among found.0) r.0.whole found.1)) [
      | inl e ↦ or_true_left (n == number) (has_job others n)
          (eq-eqb n number (sym (eqb-true found.0.number n found.2) ∙ ap (λ (x : Job). x.number) e ∙ r.1))
      | inr a ↦ or_true_right (n == number) (has_job others n)
          (among_any (λ (x : Job). x.number == n) found.0 others (subst (Among found.0) (sym r.0.rest) a) found.2)
    ]
has_other jobs others number n None r has =
    or_true_right (n == number) (has_job others n) (ap (λ (js : List Job). has_job js n) r.0 ∙ has)

pub others_open : (jobs others : List Job) (number : ℕ) (o : Option Job) (k : Kept) → Removes jobs others number o →
    HaveOpen jobs k → HaveOthers number others k
others_open jobs others number o k r have =
    all_then (λ n. has_job jobs n ≡ true) (λ n. ((n == number) || has_job others n) ≡ true)
    (λ n has. has_other jobs others number n o r has) (open_numbers k) have

pub open_others : (jobs : List Job) (number : ℕ) (k : Kept) → HaveOpen jobs k → HaveOthers number jobs k
open_others jobs number k have =
    all_then (λ n. has_job jobs n ≡ true) (λ n. ((n == number) || has_job jobs n) ≡ true)
    (λ n has. or_true_right (n == number) (has_job jobs n) has) (open_numbers k) have

number_among : (jobs : List machine.Job) (job : machine.Job) → Among job jobs → Among job.number (numbers jobs)
number_among [] job a = absurd a
number_among (x ∷ jobs) job (inl e) = inl (ap (λ (j : machine.Job). j.number) e)
number_among (x ∷ jobs) job (inr a) = inr (number_among jobs job a)

-- a job that isn't kept isn't open
pub not_kept : (jobs : List Job) (number : ℕ) (k : Kept) (h : List Event) → RunsOn k jobs h →
    has_job jobs number ≡ false → job_at number (run k.meta h).jobs ≡ None
not_kept jobs number k h r none =
    let js : List machine.Job = (run k.meta h).jobs in
    let have : AllByRecursion (λ n. has_job jobs n ≡ true) (numbers js) =
    subst (AllByRecursion (λ n. has_job jobs n ≡ true)) (open_are k (run k.meta h) r.stands.represents) r.has_open in
    by (job_at number js) refl have
  where
    by : (o : Option machine.Job) → job_at number (run k.meta h).jobs ≡ o →
        AllByRecursion (λ n. has_job jobs n ≡ true) (numbers (run k.meta h).jobs) → o ≡ None
    by None e have = refl
    by (Some job) e have =
        let found = found_among (is_job number) (run k.meta h).jobs job e in
        let has : has_job jobs job.number ≡ true =
        all_among (λ n. has_job jobs n ≡ true) (numbers (run k.meta h).jobs) job.number
        (number_among (run k.meta h).jobs job found.0) have in
        let own : has_job jobs number ≡ true =
        ap (has_job jobs) (sym (eqb-true job.number number found.1)) ∙ has in
        absurd (let clash : true ≡ false = sym own ∙ none in cc)

-- the first item that passes a test, at its place
pub record SplitAt {X : Type 0} (p : X → Bool) (xs : List X) (i : ℕ) : Type 0 where
  pub front : List X
  pub item : X
  pub back : List X
  pub whole : xs ≡ front ++ item ∷ back
  pub place : length front ≡ i
  pub passes : p item ≡ true

one_more : {X : Type 0} (p : X → Bool) (x : X) (xs : List X) (o : Option ℕ) (i : ℕ) →
    ((j : ℕ) → o ≡ Some j → SplitAt p xs j) → option_map suc o ≡ Some i → SplitAt p (x ∷ xs) i
one_more {X} p x xs (Some j) i f e =
    let s = f j refl in
    let place : suc j ≡ i = cc in
    record {
      front = x ∷ s.front;
      item = s.item;
      back = s.back;
      whole = ap (λ (l : List X). x ∷ l) s.whole;
      place = omega (arith, s.place, place);
      passes = s.passes;
    }
one_more p x xs None i f e = absurd (cc)

split_by : {X : Type 0} (p : X → Bool) (x : X) (xs : List X) (i : ℕ) (b : Bool) → p x ≡ b →
    ((j : ℕ) → position p xs ≡ Some j → SplitAt p xs j) → position p (x ∷ xs) ≡ Some i → SplitAt p (x ∷ xs) i
split_by p x xs i true e f is =
    let first = position_here p x xs e in
    let place : 0 ≡ i = cc in
    record { front = []; item = x; back = xs; whole = refl; place = place; passes = e }
split_by p x xs i false e f is = one_more p x xs (position p xs) i f (sym (position_past p x xs e) ∙ is)

pub found_split : {X : Type 0} (p : X → Bool) (xs : List X) (i : ℕ) → position p xs ≡ Some i → SplitAt p xs i
found_split p [] i e = absurd (cc)
found_split p (x ∷ xs) i e = split_by p x xs i (p x) refl (found_split p xs) e

none_past : (o : Option ℕ) → option_map suc o ≡ None → o ≡ None
none_past (Some j) e = absurd (cc)
none_past None e = refl

none_by : {X : Type 0} (p : X → Bool) (x : X) (xs : List X) (b : Bool) → p x ≡ b →
    (position p xs ≡ None → list_any p xs ≡ false) → position p (x ∷ xs) ≡ None → list_any p (x ∷ xs) ≡ false
none_by p x xs true e f is = absurd (let first = position_here p x xs e in cc)
none_by p x xs false e f is =
    let rest = f (none_past (position p xs) (sym (position_past p x xs e) ∙ is)) in
    ap (λ (b : Bool). b || list_any p xs) e ∙ rest

pub none_found : {X : Type 0} (p : X → Bool) (xs : List X) → position p xs ≡ None → list_any p xs ≡ false
none_found p [] e = refl
none_found p (x ∷ xs) e = none_by p x xs (p x) refl (none_found p xs) e

at_place : {X : Type 0} (front back : List X) (x d : X) → get_or (front ++ x ∷ back) (length front) d ≡ x
at_place front back x d = grind (arith, common_steps)

before_place : {X : Type 0} (front back : List X) (x : X) → take (length front) (front ++ x ∷ back) ≡ front
before_place front back x = grind (arith, common_steps)

behind_place : {X : Type 0} (front back : List X) (x : X) → drop (length front + 1) (front ++ x ∷ back) ≡ back
behind_place [] back x = refl
behind_place {X} (y ∷ front) back x =
    let next : length (y ∷ front) + 1 ≡ suc (length front + 1) = omega arith in
    ap (λ (n : ℕ). drop n (y ∷ front ++ x ∷ back)) next ∙ behind_place front back x

pub split_within : {X : Type 0} (p : X → Bool) (xs : List X) (i : ℕ) → SplitAt p xs i → i < length xs
split_within p xs i s =
    omega (arith, s.place, ap (λ (l : List _). length l) s.whole, length-append s.front (s.item ∷ s.back))

-- the item of a place is taken out
pub without_at : (jobs others : List Job) (job : Job) (number i : ℕ) →
    SplitAt (λ (x : Job). x.number == number) jobs i → job ≡ get_or jobs i job →
    others ≡ take i jobs ++ drop (i + 1) jobs → AreWithout jobs job others × (job.number ≡ number)
without_at jobs others job number i s is left =
    let own : job ≡ s.item =
    is ∙ (ap (λ (xs : List Job). get_or xs i job) s.whole
    ∙ (ap (λ (n : ℕ). get_or (s.front ++ s.item ∷ s.back) n job) (sym s.place)
    ∙ at_place s.front s.back s.item job)) in
    let rest : take i jobs ++ drop (i + 1) jobs ≡ s.front ++ s.back =
    ap (λ (xs : List Job). take i xs ++ drop (i + 1) xs) s.whole
    ∙ (ap (λ (n : ℕ). take n (s.front ++ s.item ∷ s.back) ++ drop (n + 1) (s.front ++ s.item ∷ s.back)) (sym s.place)
    ∙ (ap (λ (xs : List Job). xs ++ drop (length s.front + 1) (s.front ++ s.item ∷ s.back))
    (before_place s.front s.back s.item)
    ∙ ap (λ (xs : List Job). s.front ++ xs) (behind_place s.front s.back s.item))) in (
      record {
        front = s.front;
        back = s.back;
        whole = s.whole ∙ ap (λ (x : Job). s.front ++ x ∷ s.back) (sym own);
        rest = left ∙ rest;
      },
      ap (λ (x : Job). x.number) own ∙ eqb-true s.item.number number s.passes,
    )

-- ---- an event that closes a job

left_one : (number : ℕ) (p : ℕ → Bool) (job : machine.Job) (jobs : List machine.Job) (b : Bool) →
    (job.number == number) ≡ b → ((job.number == number) || p job.number) ≡ true →
    AllByRecursion (λ n. p n ≡ true) (numbers (without_job number jobs)) →
    AllByRecursion (λ n. p n ≡ true) (numbers (without_job number (job ∷ jobs)))
left_one number p job jobs true e one all =
    subst (λ (js : List machine.Job). AllByRecursion (λ n. p n ≡ true) (numbers js))
    (sym (filter_no (λ (j : machine.Job). not (is_job number j)) job jobs (ap not e))) all
left_one number p job jobs false e one all =
    subst (λ (js : List machine.Job). AllByRecursion (λ n. p n ≡ true) (numbers js))
    (sym (filter_yes (λ (j : machine.Job). not (is_job number j)) job jobs (ap not e)))
    (ap (λ (b : Bool). b || p job.number) (sym e) ∙ one, all)

left_all : (number : ℕ) (p : ℕ → Bool) (jobs : List machine.Job) →
    AllByRecursion (λ n. ((n == number) || p n) ≡ true) (numbers jobs) →
    AllByRecursion (λ n. p n ≡ true) (numbers (without_job number jobs))
left_all number p [] all = tt
left_all number p (job ∷ jobs) all =
    left_one number p job jobs (job.number == number) refl all.0 (left_all number p jobs all.1)

pub closes_on : (k k' : Kept) (h : List Event) (e : Event) (number : ℕ) (reply : Reply) (queued : List Queued)
    (before after : List ℕ) → k'.meta ≡ k.meta → StandsFor k h → Happened k k' h e reply queued [] → AddsNone reply →
    (happens k.meta (run k.meta h) e).state.jobs ≡ without_job number (run k.meta h).jobs →
    Tells e reply queued [] before after → HasClosed k k' h e number before after
closes_on k k' h e number reply queued before after m st hp adds without tells =
    let s : State = run k.meta h in
    let closes : (jobs : List Job) → HaveOthers number jobs k → HaveOpen jobs k' = λ jobs others.
    subst (AllByRecursion (λ n. has_job jobs n ≡ true))
    (sym (open_after k k' h e reply queued [] m hp ∙ ap numbers without))
    (left_all number (has_job jobs) s.jobs
    (subst (AllByRecursion (λ n. ((n == number) || has_job jobs n) ≡ true)) (open_are k s st.represents) others)) in
    let same = subs-same k.meta s e (subst AddsNone (sym (reply_after k k' h e reply queued [] hp)) adds) in
    record {
      reaches = record {
        history = h ++ e ∷ [];
        later = record {
          meta = m;
          stands = hp.stands;
          more = e ∷ [];
          longer = refl;
          was_open = λ jobs have. closes jobs (open_others jobs number k have);
        };
        subscribed = hp.stands.represents.subscribed
            ∙ (ap (λ (t : State). length t.subscriptions) (sym (state_after k k' h e reply queued [] m hp))
            ∙ (same ∙ sym st.represents.subscribed));
        state = ap (λ (t : Step). t.state) (sym hp.step);
        text = told_by k k' h e reply queued [] before after hp tells;
      };
      closes = closes;
    }

-- the line of such an event
pub closed_ran : (k k' : Kept) (jobs others : List Job) (number : ℕ) (o : Option Job) (h : List Event) (e : Event)
    (before after : List ℕ) → RunsOn k jobs h → Removes jobs others number o →
    HasClosed k k' h e number before after → k'.events ≤ k.events + 1 →
    LineRan line_result.Went (serves k.meta (run k.meta h) e) k k' others before after
closed_ran k k' jobs others number o h e before after r removes c events =
    let q = c.reaches in
    record {
      history = q.history;
      runs = record {
        stands = q.later.stands;
        taken = taken_later k k' h q.history others q.later.meta q.later.more q.later.longer
            (removes_all (IsTaken k.meta h) jobs others number o removes r.taken);
        has_open = c.closes others (others_open jobs others number o k removes r.has_open);
      };
      is = ap (λ (m : Metadata). Running m (happens k.meta (run k.meta h) e).state) (sym q.later.meta)
          ∙ ap (λ (s : State). Running k'.meta s)
          (sym q.state ∙ ap (λ (m : Metadata). run m q.history) (sym q.later.meta));
      appended = q.text;
      bounds = record { few = omega (arith, q.subscribed); bounded = omega (arith, events) };
    }

pub abandoned : (k k' : Kept) (h : List Event) (number : ℕ) (reply : Reply) (before after : List ℕ) →
    StandsFor k h → Does k k' (Abandon number) reply [] [] → AddsNone reply →
    Tells (Abandon number) reply [] [] before after → HasClosed k k' h (Abandon number) number before after
abandoned k k' h number reply before after st does adds tells =
    closes_on k k' h (Abandon number) number reply [] before after does.meta st (does.happened h st) adds
    (jobs-abandoned k.meta (run k.meta h) number) tells

-- ---- publications

-- the answers of an evaluated job, with the taking of the job
pub record AreOf (meta : Metadata) (job : Job) (answers : Answers) (h : List Event) : Type 0 where
  pub answers_of : AnswersOf meta answers h
  pub job_is : job_of job ≡ answers_of.taking.job

pub are_of : (meta : Metadata) (job : Job) (answers : Answers) (h : List Event) → JobOf meta job h →
    answers.number ≡ job.number → answers.outcomes ≡ evaluated job → AreOf meta job answers h
are_of meta job answers h j n o = record {
  answers_of = record {
    taking = j.taking;
    taken = ap (λ (x : ℕ). slice_get (takings meta h) (x - 1)) n ∙ j.taken;
    number = sym (ap (λ (x : machine.Job). x.number) j.job_is) ∙ sym n;
    results = subst
        (λ (x : List Outcome). AreResults meta (database_of meta j.taking.state j.taking.job)
        j.taking.state.subscriptions x j.taking.job.members)
        (sym o) j.results;
  };
  job_is = j.job_is;
}

pub published : (k k' : Kept) (h : List Event) (job : Job) (answers : Answers) (queued : List Queued)
    (before after : List ℕ) → StandsFor k h → JobOf k.meta job h → answers.number ≡ job.number →
    answers.outcomes ≡ evaluated job → PublishAnswers k k' answers (publish_reply.Published queued) →
    Tells (Publish job.number) (Published job.version) queued [] before after →
    HasClosed k k' h (Publish job.number) job.number before after
published k k' h job answers queued before after st j n o p tells =
    let a = are_of k.meta job answers h j n o in
    let own : ℕ = a.answers_of.taking.job.version in
    let version : own ≡ job.version = sym (ap (λ (x : machine.Job). x.version) a.job_is) in
    let by_number : Happened k k' h (Publish job.number) (Published own) queued [] =
    subst (λ (x : ℕ). Happened k k' h (Publish x) (Published own) queued []) n (p.2 h st a.answers_of) in
    let hp : Happened k k' h (Publish job.number) (Published job.version) queued [] =
    subst (λ (v : ℕ). Happened k k' h (Publish job.number) (Published v) queued []) version by_number in
    closes_on k k' h (Publish job.number) job.number (Published job.version) queued before after p.0 st hp tt
    (jobs-published k.meta (run k.meta h) job.number) tells

pub not_published : (k k' : Kept) (h : List Event) (job : Job) (answers : Answers) (before after : List ℕ) →
    StandsFor k h → answers.number ≡ job.number → PublishAnswers k k' answers publish_reply.NotOpen →
    Tells (Publish job.number) NotOpen [] [] before after →
    HasClosed k k' h (Publish job.number) job.number before after
not_published k k' h job answers before after st n p tells =
    let does : Does k k' (Publish job.number) NotOpen [] [] =
    subst (λ (x : ℕ). Does k k' (Publish x) NotOpen [] []) n p in
    closes_on k k' h (Publish job.number) job.number NotOpen [] before after does.meta st (does.happened h st) tt
    (jobs-published k.meta (run k.meta h) job.number) tells

-- a job that the script has not is published by no event
pub none_published : (k : Kept) (jobs others : List Job) (number : ℕ) (h : List Event) (before after : List ℕ) →
    RunsOn k jobs h → Removes jobs others number None → Tells (Publish number) NotOpen [] [] before after →
    LineRan line_result.Went (serves k.meta (run k.meta h) (Publish number)) k k others before after
none_published k jobs others number h before after r removes tells =
    let s : State = run k.meta h in
    let none : happens k.meta s (Publish number) ≡ publish k.meta number s None =
    published-none k.meta s number (not_kept jobs number k h r removes.1) in
    record {
      history = h;
      runs = subst (λ (js : List Job). RunsOn k js h) (sym removes.0) r;
      is = ap (λ (t : Step). Running k.meta t.state) none;
      appended = tells (happens k.meta s (Publish number)) (ap (λ (t : Step). t.reply) none)
          (ap (λ (t : Step). t.queued) none) (ap (λ (t : Step). t.closed) none);
      bounds = record { few = omega arith; bounded = omega arith };
    }

-- ---- takes

more_open : (jobs : List Job) (job : Job) (n : ℕ) → has_job jobs n ≡ true → has_job (jobs ++ job ∷ []) n ≡ true
more_open [] job n has = absurd (cc)
more_open (x ∷ jobs) job n has = more_by (x.number == n) (has_job jobs n) (has_job (jobs ++ job ∷ []) n) has
    (λ e. more_open jobs job n e)
  where
    more_by : (a b c : Bool) → (a || b) ≡ true → (b ≡ true → c ≡ true) → (a || c) ≡ true
    more_by true b c e f = refl
    more_by false b c e f = f e

last_open : (jobs : List Job) (job : Job) → has_job (jobs ++ job ∷ []) job.number ≡ true
last_open [] job = or_true_left (job.number == job.number) false (eq-eqb job.number job.number refl)
last_open (x ∷ jobs) job =
    or_true_right (x.number == job.number) (has_job (jobs ++ job ∷ []) job.number) (last_open jobs job)

-- the open jobs after a take
opens_one : (k k' : Kept) (h : List Event) (job : Job) → TookJob k k' job → StandsFor k h →
    open_numbers k' ≡ numbers (run k.meta h).jobs ++ job.number ∷ []
opens_one k k' h job t st =
    let s : State = run k.meta h in
    let hp : Happened k k' h Take (Taken (job_of job)) [] [] = t.does.happened h st in
    let opens : Opens s (happens k.meta s Take).state (job_of job) =
    taken k.meta s (job_of job) (reply_after k k' h Take (Taken (job_of job)) [] [] hp) in
    open_after k k' h Take (Taken (job_of job)) [] [] t.does.meta hp
    ∙ (ap numbers opens.jobs ∙ map-append (λ (x : machine.Job). x.number) s.jobs (job_of job ∷ []))

-- where each job that was open is one of these, each other than the one that was taken is
pub take_others : (k k' : Kept) (h : List Event) (job : Job) (jobs : List Job) → TookJob k k' job → StandsFor k h →
    HaveOpen jobs k → HaveOthers job.number jobs k'
take_others k k' h job jobs t st have =
    let s : State = run k.meta h in
    subst (AllByRecursion (λ n. ((n == job.number) || has_job jobs n) ≡ true)) (sym (opens_one k k' h job t st))
    (all_append (λ n. ((n == job.number) || has_job jobs n) ≡ true) (numbers s.jobs) (job.number ∷ [])
    (subst (AllByRecursion (λ n. ((n == job.number) || has_job jobs n) ≡ true)) (open_are k s st.represents)
    (open_others jobs job.number k have))
    (or_true_left (job.number == job.number) (has_job jobs job.number) (eq-eqb job.number job.number refl), tt))

pub took : (k k' : Kept) (jobs others : List Job) (job : Job) (h : List Event) (before after : List ℕ) →
    RunsOn k jobs h → TookJob k k' job → others ≡ jobs ++ job ∷ [] →
    Tells Take (Taken (job_of job)) [] [] before after →
    LineRan line_result.Went (serves k.meta (run k.meta h) Take) k k' others before after
took k k' jobs others job h before after r t whole tells =
    let s : State = run k.meta h in
    let h' : List Event = h ++ Take ∷ [] in
    let hp : Happened k k' h Take (Taken (job_of job)) [] [] = t.does.happened h r.stands in
    let all : List Job = jobs ++ job ∷ [] in
    let new : AllByRecursion (IsTaken k'.meta h') (job ∷ []) = (
      record {
        is_job = subst (λ (m : Metadata). JobOf m job h') (sym t.does.meta) (t.is_job h r.stands);
        fits = t.fits;
      },
      tt,
    ) in
    let old_open : AllByRecursion (λ n. has_job all n ≡ true) (numbers s.jobs) =
    all_then (λ n. has_job jobs n ≡ true) (λ n. has_job all n ≡ true) (λ n has. more_open jobs job n has)
    (numbers s.jobs)
    (subst (AllByRecursion (λ n. has_job jobs n ≡ true)) (open_are k s r.stands.represents) r.has_open) in
    let runs : RunsOn k' all h' = record {
      stands = hp.stands;
      taken = all_append (IsTaken k'.meta h') jobs (job ∷ [])
          (taken_later k k' h h' jobs t.does.meta (Take ∷ []) refl r.taken) new;
      has_open = subst (AllByRecursion (λ n. has_job all n ≡ true))
          (sym (opens_one k k' h job t r.stands))
          (all_append (λ n. has_job all n ≡ true) (numbers s.jobs) (job.number ∷ []) old_open
          (last_open jobs job, tt));
    } in
    record {
      history = h';
      runs = subst (λ (js : List Job). RunsOn k' js h') (sym whole) runs;
      is = ap (λ (m : Metadata). Running m (happens k.meta s Take).state) (sym t.does.meta)
          ∙ ap (λ (x : State). Running k'.meta x)
          (state_after k k' h Take (Taken (job_of job)) [] [] t.does.meta hp);
      appended = told_by k k' h Take (Taken (job_of job)) [] [] before after hp tells;
      bounds = record {
        few = few_after k k' h Take (Taken (job_of job)) [] [] t.does.meta r.stands hp;
        bounded = omega (arith, t.does.events);
      };
    }
