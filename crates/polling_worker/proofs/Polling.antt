-- Polls, one after the other.
use Rattle.std.proofs.Common.{◌≡◌, ℕ, ◌+◌, ◌≤◌, ◌⊎◌, inl, inr, Bool, false, Result, Ok, Err, List, [], ◌∷◌, ◌++◌}
use Rattle.std.proofs.Common.{length, map, sum_by, refl, sym, ap, ◌∙◌, subst, arith}
use Rattle.std.specs.List.{AllByRecursion}
use Rattle.std.proofs.lemmas.List.{append-nil, map-append}
use Rattle.std.proofs.lemmas.List.Elements.{filter_map-append}
use Rattle.std.proofs.lemmas.List.Sums.{sum_by-append}
use Rattle.std.proofs.lemmas.Grind.{flat_map-append}
use Rattle.role_model.specs.declared.metadata.Metadata.{Metadata}
use Rattle.machine.specs.State as machine
use Rattle.machine.specs.State.{State, Event, Take, Publish, Abandon, Skip, Nobody, Taken, Published, NotOpen}
use Rattle.machine.specs.State.{Abandoned, Skipped}
use Rattle.history_lock.specs.PassViews.{PassView}
use Rattle.history_lock.specs.History.{events}
use Rattle.hub_model.specs.declared.job.Job.{Job}
use Rattle.hub_model.specs.Jobs.{job_of}
use Rattle.subs_engine.specs.Calls.{Answer, answer, plain, Call, call, Did}
use Rattle.subs_engine.specs.Jobs.{IsJob}
use Rattle.subs_engine.specs.Polls.{IsOne, PollsOnce, TakesNone, TakesOne, Finishes, GivesUp, Abandons}
use Rattle.subs_engine.specs.declared.engine.TakeFault.{TakeFault}
use Rattle.subs_engine.specs.declared.engine.TakeFault.TheVariants as fault
use Rattle.subs_engine.specs.declared.poll.Polled.{Polled as Answered}
use Rattle.subs_engine.specs.declared.poll.Polled.TheVariants as polled
use Rattle.subs_engine.proofs.Owns.{did_nothing, did_then}
use Rattle.subs_engine.proofs.Jobs.{job_later}
use Rattle.polling_worker.specs.Ticks.{ticks_in, nobodies, taken, taken_by, InTurn, ticked_after}
use Rattle.polling_worker.specs.Works.{AreWorks, reads_of, EndsNobody}
use Rattle.polling_worker.specs.Parts.{Takes, Polls, PollsOut, PollsAll, IsCaused}
use Rattle.polling_worker.proofs.Lists.{all_append, all_then, ticks-append, nobodies-append, turn-append}

-- ---- the calls of one poll

-- calls of a poll, among which so many takes found nobody, and takes gave these jobs
record Chunk (found : ℕ) (jobs : List machine.Job) (made : List Call) : Type 0 where
  order : (ticked : Bool) → InTurn ticked made
  none : ticks_in made ≡ 0
  nobody : nobodies made ≡ found
  took : taken made ≡ jobs

-- what may come after a take of a job
record After (more : List Call) : Type 0 where
  order : InTurn false more
  none : ticks_in more ≡ 0
  nobody : nobodies more ≡ 0
  took : taken more ≡ []

after_nothing : After []
after_nothing = record { order = tt; none = refl; nobody = refl; took = refl }

after_skip : (s : State) → After (call s Skip (plain Skipped) ∷ [])
after_skip s = record { order = ((λ h. absurd (cc)), tt); none = refl; nobody = refl; took = refl }

after_abandon : (s : State) (j : ℕ) (a : Answer) → After (call s (Abandon j) a ∷ [])
after_abandon s j a = record { order = ((λ h. absurd (cc)), tt); none = refl; nobody = refl; took = refl }

after_both : (s t : State) (j : ℕ) (a : Answer) → After (call s Skip (plain Skipped) ∷ call t (Abandon j) a ∷ [])
after_both s t j a =
    record { order = ((λ h. absurd (cc)), ((λ h. absurd (cc)), tt)); none = refl; nobody = refl; took = refl }

after_publish : (s : State) (j : ℕ) (a : Answer) → After (call s (Publish j) a ∷ [])
after_publish s j a = record { order = ((λ h. absurd (cc)), tt); none = refl; nobody = refl; took = refl }

-- an abandon, whatever it was answered
abandons_one : (len j : ℕ) (made : List Call) → Abandons len j made →
    (made ≡ []) ⊎ ((a : Answer) × IsOne made (Abandon j) a)
abandons_one len j made (inl e) = inl e.0
abandons_one len j made (inr (inl e)) = inr (plain Abandoned, e)
abandons_one len j made (inr (inr e)) = inr (plain NotOpen, e)

given_up : (len j : ℕ) (more : List Call) → GivesUp len j more → After more
given_up len j more g = cases g.skips g.ends g.whole g.skipped (abandons_one len j g.ends g.abandons)
  where
    cases : (skips ends : List Call) → more ≡ skips ++ ends → (skips ≡ []) ⊎ IsOne skips Skip (plain Skipped) →
        (ends ≡ []) ⊎ ((a : Answer) × IsOne ends (Abandon j) a) → After more
    cases skips ends is (inl s) (inl e) = subst After (sym (is ∙ (λ i. s i ++ e i))) after_nothing
    cases skips ends is (inl s) (inr e) = subst After (sym (is ∙ (λ i. s i ++ e.1.1 i))) (after_abandon e.1.0 j e.0)
    cases skips ends is (inr s) (inl e) = subst After (sym (is ∙ (λ i. s.1 i ++ e i))) (after_skip s.0)
    cases skips ends is (inr s) (inr e) = subst After (sym (is ∙ (λ i. s.1 i ++ e.1.1 i))) (after_both s.0 e.1.0 j e.0)

finished : (len j : ℕ) (r : Result Answered TakeFault) (more : List Call) → Finishes len j r more → After more
finished len j (Ok polled.Nothing) more f = absurd f
finished len j (Ok (polled.Published k)) more f =
    subst After (sym f.1.is.1) (after_publish f.1.is.0 j (answer (Published f.1.version) f.1.queued []))
finished len j (Ok (polled.NotOpen k)) more f = subst After (sym f.1.1) (after_publish f.1.0 j (plain NotOpen))
finished len j (Err fault.Spent) more f = subst After (sym f.0) after_nothing
finished len j (Err fault.NoMemory) more f = given_up len j more f

job_chunk : (s : State) (job : machine.Job) (made more : List Call) → made ≡ call s Take (plain (Taken job)) ∷ more →
    After more → Chunk 0 (job ∷ []) made
job_chunk s job made more is after = subst (Chunk 0 (job ∷ [])) (sym is) (record {
  order = λ ticked. (λ h. tt, after.order);
  none = omega (arith, after.none);
  nobody = omega (arith, after.nobody);
  took = ap (λ (l : List machine.Job). job ∷ l) after.took;
})

none_chunk : (s : State) (made : List Call) → made ≡ call s Take (plain Nobody) ∷ [] → Chunk 1 [] made
none_chunk s made is =
    subst (Chunk 1 []) (sym is) (record { order = λ ticked. (λ h. tt, tt); none = refl; nobody = refl; took = refl })

skip_chunk : (s : State) (made : List Call) → made ≡ call s Skip (plain Skipped) ∷ [] → Chunk 0 [] made
skip_chunk s made is =
    subst (Chunk 0 []) (sym is) (record { order = λ ticked. (λ h. tt, tt); none = refl; nobody = refl; took = refl })

empty_chunk : (made : List Call) → made ≡ [] → Chunk 0 [] made
empty_chunk made is =
    subst (Chunk 0 []) (sym is) (record { order = λ ticked. tt; none = refl; nobody = refl; took = refl })

-- how many takes of a poll find nobody
abbrev found : Result Answered TakeFault → ℕ
found (Ok polled.Nothing) = 1
found (Ok (polled.Published k)) = 0
found (Ok (polled.NotOpen k)) = 0
found (Err e) = 0

none_of : (len : ℕ) (r : Result Answered TakeFault) (made : List Call) → TakesNone len r made → Chunk (found r) [] made
none_of len (Ok polled.Nothing) made t = none_chunk t.0 made t.1
none_of len (Ok (polled.Published k)) made t = absurd t
none_of len (Ok (polled.NotOpen k)) made t = absurd t
none_of len (Err fault.Spent) made t = empty_chunk made t.0
none_of len (Err fault.NoMemory) made t = skip_chunk t.0 made t.1

found_job : (len j : ℕ) (r : Result Answered TakeFault) (more : List Call) → Finishes len j r more → found r ≡ 0
found_job len j (Ok polled.Nothing) more f = absurd f
found_job len j (Ok (polled.Published k)) more f = refl
found_job len j (Ok (polled.NotOpen k)) more f = refl
found_job len j (Err e) more f = refl

-- one poll, as polls
once : (p q : PassView Event Metadata) (r : Result Answered TakeFault) (steps steps' : ℕ)
    (poll : PollsOnce p q r steps steps') → (polls : Polls p q steps steps' (found r)) × (polls.made ≡ poll.made)
once p q r steps steps' poll = cases poll.polls
  where
    built : (jobs : List Job) → Chunk (found r) (map job_of jobs) poll.made →
        AllByRecursion (λ (job : Job). IsJob p.basis job (events q.seen)) jobs → steps' ≤ steps + sum_by reads_of jobs →
        (polls : Polls p q steps steps' (found r)) × (polls.made ≡ poll.made)
    built jobs chunk are less = (
      record {
        made = poll.made;
        did = poll.did;
        parts = poll.made ∷ [];
        whole = sym (append-nil poll.made);
        each = λ ticks.
            (q, inr (record { result = r; steps = steps; steps' = steps'; poll = poll; whole = refl }), refl);
        order = chunk.order;
        no_tick = chunk.none;
        nobody = chunk.nobody;
        takes = record { jobs = jobs; are_jobs = are; taken = sym chunk.took; reads = less };
      },
      refl,
    )

    cases : (TakesNone (length q.seen) r poll.made × (steps' ≤ steps)) ⊎ TakesOne p q r poll.made steps steps' →
        (polls : Polls p q steps steps' (found r)) × (polls.made ≡ poll.made)
    cases (inl t) = built [] (none_of (length q.seen) r poll.made t.0) tt (omega (arith, t.1))
    cases (inr t) = built (t.job ∷ [])
        (subst (λ (n : ℕ). Chunk n (job_of t.job ∷ []) poll.made)
        (sym (found_job (length q.seen) t.job.number r t.more t.finishes))
        (job_chunk t.state (job_of t.job) poll.made t.more t.whole
        (finished (length q.seen) t.job.number r t.more t.finishes)))
        (t.is_job, tt) (omega (arith, t.reads))

-- ---- polls, one after the other

pub works_then : (ticks : Bool) (p q r : PassView Event Metadata) (xs ys : List (List Call)) → AreWorks ticks p q xs →
    AreWorks ticks q r ys → AreWorks ticks p r (xs ++ ys)
works_then ticks p q r [] ys a b = subst (λ (z : PassView Event Metadata). AreWorks ticks z r ys) a b
works_then ticks p q r (x ∷ xs) ys a b = (a.0, a.1, works_then ticks a.0 q r xs ys a.2 b)

pub takes_then : (p q r : PassView Event Metadata) (xs ys : List Call) (a b c : ℕ) → Did p q xs → Did q r ys →
    Takes p q xs a b → Takes q r ys b c → Takes p r (xs ++ ys) a c
takes_then p q r xs ys a b c did then one two = record {
  jobs = one.jobs ++ two.jobs;
  are_jobs = all_append (λ (job : Job). IsJob p.basis job (events r.seen)) one.jobs two.jobs
      (all_then (λ (job : Job). IsJob p.basis job (events q.seen)) (λ (job : Job). IsJob p.basis job (events r.seen))
      (λ job is. job_later p.basis job q.seen r.seen then.rest then.whole is) one.jobs one.are_jobs)
      (subst (λ (meta : Metadata). AllByRecursion (λ (job : Job). IsJob meta job (events r.seen)) two.jobs) did.basis
      two.are_jobs);
  taken =
      map-append job_of one.jobs two.jobs ∙ (λ i. one.taken i ++ two.taken i) ∙ sym (filter_map-append taken_by xs ys);
  reads = omega (arith, sum_by-append reads_of one.jobs two.jobs, one.reads, two.reads);
}

polls_then : (p q r : PassView Event Metadata) (a b c n m all : ℕ) → all ≡ n + m →
    (one : Polls p q a b n) (two : Polls q r b c m) → (polls : Polls p r a c all) × (polls.made ≡ one.made ++ two.made)
polls_then p q r a b c n m all sum one two = (
  record {
    made = one.made ++ two.made;
    did = did_then p q r one.made two.made one.did two.did;
    parts = one.parts ++ two.parts;
    whole = (λ i. one.whole i ++ two.whole i) ∙ sym (flat_map-append (λ (part : List Call). part) one.parts two.parts);
    each = λ ticks. works_then ticks p q r one.parts two.parts (one.each ticks) (two.each ticks);
    order =
        λ ticked. turn-append ticked one.made two.made (one.order ticked) (two.order (ticked_after ticked one.made));
    no_tick = omega (arith, ticks-append one.made two.made, one.no_tick, two.no_tick);
    nobody = omega (arith, nobodies-append one.made two.made, one.nobody, two.nobody, sum);
    takes = takes_then p q r one.made two.made a b c one.did two.did one.takes two.takes;
  },
  refl,
)

pub takes_nothing : (p : PassView Event Metadata) (steps : ℕ) → Takes p p [] steps steps
takes_nothing p steps = record { jobs = []; are_jobs = tt; taken = refl; reads = omega arith }

pub polls_nothing : (p : PassView Event Metadata) (steps : ℕ) → Polls p p steps steps 0
polls_nothing p steps =
    record {
      made = [];
      did = did_nothing p;
      parts = [];
      whole = refl;
      each = λ ticks. refl;
      order = λ ticked. tt;
      no_tick = refl;
      nobody = refl;
      takes = takes_nothing p steps;
    }

-- the answer of a poll is known by an equation
module _ (p q r : PassView Event Metadata) (a b c : ℕ) where
  pub polls_published : (z : Answered) (k : ℕ) → z ≡ polled.Published k → Polls p q a b 0 → PollsOnce q r (Ok z) b c →
      Polls p r a c 0
  polls_published z k e some poll =
      (polls_then p q r a b c 0 0 0 (omega arith) some
      (once q r (Ok (polled.Published k)) b c (subst (λ (y : Answered). PollsOnce q r (Ok y) b c) e poll)).0).0

  pub polls_not_open : (z : Answered) (k : ℕ) → z ≡ polled.NotOpen k → Polls p q a b 0 → PollsOnce q r (Ok z) b c →
      Polls p r a c 0
  polls_not_open z k e some poll =
      (polls_then p q r a b c 0 0 0 (omega arith) some
      (once q r (Ok (polled.NotOpen k)) b c (subst (λ (y : Answered). PollsOnce q r (Ok y) b c) e poll)).0).0

  -- the last poll found nobody
  polls_out : Polls p q a b 0 → PollsOnce q r (Ok polled.Nothing) b c → PollsOut p r a c
  polls_out some poll =
      let one = once q r (Ok polled.Nothing) b c poll in
      let both = polls_then p q r a b c 0 1 1 (omega arith) some one.0 in
      record {
        polls = both.0;
        nobody = subst EndsNobody (sym (both.1 ∙ ap (λ (l : List Call). some.made ++ l) one.1))
            (last poll.polls);
      }
    where
      last : (TakesNone (length r.seen) (Ok polled.Nothing) poll.made × (c ≤ b))
          ⊎ TakesOne q r (Ok polled.Nothing) poll.made b c → EndsNobody (some.made ++ poll.made)
      last (inl t) = record { front = some.made; last = poll.made; whole = refl; nobody = t.0 }
      last (inr t) = absurd t.finishes

  pub polls_last : (z : Answered) → z ≡ polled.Nothing → Polls p q a b 0 → PollsOnce q r (Ok z) b c →
      PollsAll p r a c (Ok tt)
  polls_last z e some poll = polls_out some (subst (λ (y : Answered). PollsOnce q r (Ok y) b c) e poll)

  caused : (f : TakeFault) (made : List Call) →
      (TakesNone (length r.seen) (Err f) made × (c ≤ b)) ⊎ TakesOne q r (Err f) made b c → IsCaused (length r.seen) f
  caused fault.Spent made (inl t) = t.0.1
  caused fault.Spent made (inr t) = t.finishes.1
  caused fault.NoMemory made t = tt

  pub polls_fault : (f : TakeFault) → Polls p q a b 0 → PollsOnce q r (Err f) b c → PollsAll p r a c (Err f)
  polls_fault f some poll =
      record {
        polls = (polls_then p q r a b c 0 0 0 (omega arith) some (once q r (Err f) b c poll).0).0;
        caused = caused f poll.made poll.polls;
      }
