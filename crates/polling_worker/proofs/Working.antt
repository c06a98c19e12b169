-- Rounds, one after the other, and how a worker ends.
use Rattle.std.proofs.Common.{◌≡◌, ℕ, ◌+◌, ◌^◌, inl, inr, Bool, true, false, Option, Some, None, Ok, Err, List, [], ◌∷◌}
use Rattle.std.proofs.Common.{◌++◌, length, refl, sym, ap, ◌∙◌, subst, arith, append_assoc, length-append}
use Rattle.std.proofs.lemmas.List.{append-nil}
use Rattle.std.proofs.lemmas.Grind.{flat_map-append}
use Rattle.role_model.specs.declared.metadata.Metadata.{Metadata}
use Rattle.machine.specs.State.{Event, Take, Nobody}
use Rattle.history_lock.specs.PassViews.{PassView}
use Rattle.subs_engine.specs.Calls.{plain, Call, call, Did}
use Rattle.subs_engine.specs.declared.engine.TakeFault.{TakeFault}
use Rattle.subs_engine.specs.declared.engine.TakeFault.TheVariants as fault
use Rattle.subs_engine.proofs.Owns.{did_nothing, did_then}
use Rattle.polling_worker.specs.Ticks.{ticks_in, nobodies, InTurn, ticked_after, TicksFirst, counts_at, last_at}
use Rattle.polling_worker.specs.Ticks.{last_by, counted, last_after, bit}
use Rattle.polling_worker.specs.Works.{Tells, AreWorks, parts_of, EndsNobody, EndsBy, Works}
use Rattle.polling_worker.specs.Parts.{Takes, PollsOut, PollsToFault, IsCaused, IsBegun, Begins, BeginsToFault, Rounds}
use Rattle.polling_worker.proofs.Lists.{ticks-append, nobodies-append, turn-append, ticked-append, counted-append}
use Rattle.polling_worker.proofs.Lists.{last-append}
use Rattle.polling_worker.proofs.Polling.{takes_then, takes_nothing, works_then}
use Rattle.polling_worker.proofs.Beginning.{tells_nothing, begun_then}

tells_then : (s t u : List ℕ → Type 0) (xs ys : List ℕ) → Tells s t xs → Tells t u ys → Tells s u (xs ++ ys)
tells_then s t u xs ys a b = λ before told. subst u (append_assoc before xs ys) (b (before ++ xs) (a before told))

-- a rest tells nothing new
tells_rest : (s t u : List ℕ → Type 0) (xs : List ℕ) → Tells s t xs → ((before : List ℕ) → t before → u before) →
    Tells s u xs
tells_rest s t u xs a rest = λ before told. rest (before ++ xs) (a before told)

pub rounds_nothing : (ticks : Bool) (refetch : ℕ) (p : PassView Event Metadata) (t : List ℕ → Type 0) (steps : ℕ) →
    Rounds ticks refetch p p t t None steps steps
rounds_nothing ticks refetch p t steps = record {
  made = [];
  times = [];
  did = did_nothing p;
  tells = tells_nothing t;
  parts = [];
  whole = refl;
  each = refl;
  order = tt;
  after = refl;
  takes = takes_nothing p steps;
  begun = λ is. refl;
  timely = λ is. (record { rounds = refl; ticks = refl }, refl);
}

-- the last call is no tick
nobody_last : (made : List Call) (ticked : Bool) → EndsNobody made → ticked_after ticked made ≡ false
nobody_last made ticked e =
    ap (ticked_after ticked) (e.whole ∙ ap (λ (l : List Call). e.front ++ l) e.nobody.1)
    ∙ ticked-append ticked e.front (call e.nobody.0 Take (plain Nobody) ∷ [])

nobody_then : (xs ys : List Call) → EndsNobody ys → EndsNobody (xs ++ ys)
nobody_then xs ys e =
    record {
      front = xs ++ e.front;
      last = e.last;
      whole = ap (λ (l : List Call). xs ++ l) e.whole
          ∙ sym (append_assoc xs e.front e.last);
      nobody = e.nobody;
    }

-- there is a last time that counted, once one was asked for
last_some : (refetch : ℕ) (last : Option ℕ) (time : ℕ) → (n : ℕ) × (last_by refetch last time ≡ Some n)
last_some refetch None time = (time, refl)
last_some refetch (Some last) time = cases (counts_at refetch (Some last) time)
  where
    cases : (counts : Bool) → (n : ℕ) × (last_at counts (Some last) time ≡ Some n)
    cases true = (time, refl)
    cases false = (last, refl)

begun_some : (last : Option ℕ) (n : ℕ) (made more : List Call) → last ≡ Some n → IsBegun last made →
    IsBegun last (made ++ more)
begun_some last n made more e b =
    subst (λ (o : Option ℕ). IsBegun o (made ++ more)) (sym e)
    (begun_then n made more (subst (λ (o : Option ℕ). IsBegun o made) e b))

ends_fault : (S : Type 0) (ticks : Bool) (refetch turns : ℕ) (f : TakeFault) (made : List Call) (times : List ℕ) →
    IsCaused turns f → EndsBy {S = S} ticks refetch turns made times (Err f)
ends_fault S ticks refetch turns fault.Spent made times c = c
ends_fault S ticks refetch turns fault.NoMemory made times c = tt

caused_by : (f : TakeFault) (turns : ℕ) → turns ≡ 2 ^ 62 → IsCaused turns f
caused_by fault.Spent turns e = e
caused_by fault.NoMemory turns e = tt

ticks_first : (last : Option ℕ) (made : List Call) → IsBegun last made → TicksFirst made
ticks_first None made b = subst TicksFirst (sym b) tt
ticks_first (Some last) made b = subst TicksFirst (sym b.whole) b.is_tick

-- The beginning of a round is one more part, and the times that counted are those of the ticks.
module _ (ticks : Bool) (refetch : ℕ) (p q r w : PassView Event Metadata) (s t u : List ℕ → Type 0)
    (last last' : Option ℕ) (a b c : ℕ) where
  -- whole rounds, and the beginning of one more
  record Front (made : List Call) (times : List ℕ) : Type 0 where
    did : Did p r made
    tells : Tells s u times
    parts : List (List Call)
    whole : made ≡ parts_of parts
    each : AreWorks ticks p r parts
    order : InTurn false made
    takes : Takes p r made a b
    begun : ticks ≡ true → IsBegun last' made
    rounds : ticks ≡ true → length times ≡ nobodies made + 1
    ticked : ticks ≡ true → ticks_in made ≡ counted refetch None times
    later : ticks ≡ true → last' ≡ last_after refetch None times
    some : ticks ≡ true → (n : ℕ) × (last' ≡ Some n)

  fronts : (one : Rounds ticks refetch p q s t last a b) (two : Begins ticks refetch q r t u last last') →
      Front (one.made ++ two.made) (one.times ++ two.times)
  fronts one two = record {
    did = did_then p q r one.made two.made one.did two.did;
    tells = tells_then s t u one.times two.times one.tells two.tells;
    parts = one.parts ++ two.parts;
    whole = (λ i. one.whole i ++ two.whole i) ∙ sym (flat_map-append (λ (part : List Call). part) one.parts two.parts);
    each = works_then ticks p q r one.parts two.parts one.each two.each;
    order =
        turn-append false one.made two.made one.order
        (subst (λ (x : Bool). InTurn x two.made) (sym one.after) two.order);
    takes =
        takes_then p q r one.made two.made a b b one.did two.did one.takes
        (record { jobs = []; are_jobs = tt; taken = sym two.none; reads = omega arith });
    begun = λ is. (two.asks is).begun one.made (one.begun is);
    rounds = λ is. omega (
      arith,
      length-append one.times two.times,
      nobodies-append one.made two.made,
      two.nobody,
      ap length (two.asks is).once,
      (one.timely is).0.rounds,
    );
    ticked = λ is. let asks = two.asks is in let timely = one.timely is in
        ticks-append one.made two.made ∙ (λ i. timely.0.ticks i + asks.ticked i)
        ∙ sym (ap (counted refetch None) (ap (λ (l : List ℕ). one.times ++ l) asks.once)
        ∙ counted-append refetch None one.times (asks.time ∷ [])
        ∙ ap (λ (o : Option ℕ). counted refetch None one.times + counted refetch o (asks.time ∷ [])) (sym timely.1)
        ∙ ap (λ (n : ℕ). counted refetch None one.times + n) (one_counted last asks.time));
    later = λ is. let asks = two.asks is in let timely = one.timely is in
        asks.later ∙ ap (λ (o : Option ℕ). last_by refetch o asks.time) timely.1
        ∙ sym (ap (last_after refetch None) (ap (λ (l : List ℕ). one.times ++ l) asks.once)
        ∙ last-append refetch None one.times (asks.time ∷ []));
    some = λ is. (
      (last_some refetch last (two.asks is).time).0,
      (two.asks is).later ∙ (last_some refetch last (two.asks is).time).1,
    );
  }
    where
      one_counted : (o : Option ℕ) (time : ℕ) → counted refetch o (time ∷ []) ≡ bit (counts_at refetch o time)
      one_counted o time = omega arith

  -- the polls of the round too
  rounds_by : (made : List Call) (times : List ℕ) → Front made times → (three : PollsOut r w b c) →
      Rounds ticks refetch p w s u last' a c
  rounds_by made times f three = record {
    made = made ++ three.polls.made;
    times = times;
    did = did_then p r w made three.polls.made f.did three.polls.did;
    tells = f.tells;
    parts = f.parts ++ three.polls.parts;
    whole =
        (λ i. f.whole i ++ three.polls.whole i)
        ∙ sym (flat_map-append (λ (part : List Call). part) f.parts three.polls.parts);
    each = works_then ticks p r w f.parts three.polls.parts f.each (three.polls.each ticks);
    order = turn-append false made three.polls.made f.order (three.polls.order (ticked_after false made));
    after =
        ticked-append false made three.polls.made ∙ nobody_last three.polls.made (ticked_after false made) three.nobody;
    takes = takes_then p r w made three.polls.made a b c f.did three.polls.did f.takes three.polls.takes;
    begun = λ is. let some = f.some is in begun_some last' some.0 made three.polls.made some.1 (f.begun is);
    timely = λ is. (
      record {
        rounds = omega (arith, nobodies-append made three.polls.made, three.polls.nobody, f.rounds is);
        ticks = omega (arith, ticks-append made three.polls.made, three.polls.no_tick, f.ticked is);
      },
      f.later is,
    );
  }

  -- polls that end with a fault
  works_by : {S : Type 0} (fault : TakeFault) (made : List Call) (times : List ℕ) → Front made times →
      PollsToFault r w b c fault → Works {S = S} ticks refetch p w s u a c (Err fault)
  works_by {S} fault made times f three = record {
    made = made ++ three.polls.made;
    times = times;
    jobs = takes.jobs;
    did = did_then p r w made three.polls.made f.did three.polls.did;
    tells = f.tells;
    parts = f.parts ++ three.polls.parts;
    whole =
        (λ i. f.whole i ++ three.polls.whole i)
        ∙ sym (flat_map-append (λ (part : List Call). part) f.parts three.polls.parts);
    each = works_then ticks p r w f.parts three.polls.parts f.each (three.polls.each ticks);
    first = λ is. ticks_first last' (made ++ three.polls.made)
        (begun_some last' (f.some is).0 made three.polls.made (f.some is).1 (f.begun is));
    order = turn-append false made three.polls.made f.order (three.polls.order (ticked_after false made));
    are_jobs = takes.are_jobs;
    taken = takes.taken;
    reads = takes.reads;
    ends = ends_fault S ticks refetch (length w.seen) fault (made ++ three.polls.made) times three.caused;
  }
    where
      takes : Takes p w (made ++ three.polls.made) a c
      takes = takes_then p r w made three.polls.made a b c f.did three.polls.did f.takes three.polls.takes

-- ---- what the worker's loop comes to

module _ (ticks : Bool) (refetch : ℕ) (p q r w : PassView Event Metadata) (s t u v : List ℕ → Type 0)
    (last last' : Option ℕ) (a b c : ℕ) where
  pub rounds_more : Rounds ticks refetch p q s t last a b → Begins ticks refetch q r t u last last' → PollsOut r w b c →
      ((before : List ℕ) → u before → v before) → Rounds ticks refetch p w s v last' a c
  rounds_more one two three rest =
      let f =
      rounds_by ticks refetch p q r w s t u last last' a b c (one.made ++ two.made) (one.times ++ two.times)
      (fronts ticks refetch p q r w s t u last last' a b c one two) three in
      record {
        made = f.made;
        times = f.times;
        did = f.did;
        tells = tells_rest s u v f.times f.tells rest;
        parts = f.parts;
        whole = f.whole;
        each = f.each;
        order = f.order;
        after = f.after;
        takes = f.takes;
        begun = f.begun;
        timely = f.timely;
      }

module _ (ticks : Bool) (refetch : ℕ) (p q r w : PassView Event Metadata) (s t u : List ℕ → Type 0)
    (last last' : Option ℕ) (a b c : ℕ) where
  pub works_stop : {S : Type 0} (stop : S) → Rounds ticks refetch p q s t last a b →
      Begins ticks refetch q r t u last last' → PollsOut r w b c → Works {S = S} ticks refetch p w s u a c (Ok stop)
  unfolding rounds_by
  works_stop stop one two three =
      let f =
      rounds_by ticks refetch p q r w s t u last last' a b c (one.made ++ two.made) (one.times ++ two.times)
      (fronts ticks refetch p q r w s t u last last' a b c one two) three in
      record {
        made = f.made;
        times = f.times;
        jobs = f.takes.jobs;
        did = f.did;
        tells = f.tells;
        parts = f.parts;
        whole = f.whole;
        each = f.each;
        first = λ is. ticks_first last' f.made (f.begun is);
        order = f.order;
        are_jobs = f.takes.are_jobs;
        taken = f.takes.taken;
        reads = f.takes.reads;
        ends = (nobody_then (one.made ++ two.made) three.polls.made three.nobody, λ is. (f.timely is).0);
      }

  pub works_poll_fault : {S : Type 0} (fault : TakeFault) → Rounds ticks refetch p q s t last a b →
      Begins ticks refetch q r t u last last' → PollsToFault r w b c fault →
      Works {S = S} ticks refetch p w s u a c (Err fault)
  works_poll_fault {S} fault one two three =
      works_by ticks refetch p q r w s t u last last' a b c {S = S} fault (one.made ++ two.made)
      (one.times ++ two.times) (fronts ticks refetch p q r w s t u last last' a b c one two) three

pub works_begin_fault : {S : Type 0} (ticks : Bool) (refetch : ℕ) (p q r : PassView Event Metadata)
    (s t u : List ℕ → Type 0) (last : Option ℕ) (a b : ℕ) (fault : TakeFault)
    → Rounds ticks refetch p q s t last a b → BeginsToFault ticks q r t u fault →
    Works {S = S} ticks refetch p r s u a b (Err fault)
works_begin_fault {S} ticks refetch p q r s t u last a b fault one two = record {
  made = one.made ++ [];
  times = one.times ++ two.times;
  jobs = takes.jobs;
  did = did_then p q r one.made [] one.did two.did;
  tells = tells_then s t u one.times two.times one.tells two.tells;
  parts = one.parts ++ [] ∷ [];
  whole = (λ i. one.whole i ++ []) ∙ sym (flat_map-append (λ (part : List Call). part) one.parts ([] ∷ []));
  each = works_then ticks p q r one.parts ([] ∷ []) one.each
      (r, inl (two.ticking, record { did = two.did; is = inr (refl, two.turns) }), refl);
  first = λ is. ticks_first last (one.made ++ []) (subst (IsBegun last) (sym (append-nil one.made)) (one.begun is));
  order = subst (InTurn false) (sym (append-nil one.made)) one.order;
  are_jobs = takes.are_jobs;
  taken = takes.taken;
  reads = takes.reads;
  ends = ends_fault S ticks refetch (length r.seen) fault (one.made ++ []) (one.times ++ two.times)
      (caused_by fault (length r.seen) two.turns);
}
  where
    takes : Takes p r (one.made ++ []) a b
    takes =
        takes_then p q r one.made [] a b b one.did two.did one.takes
        (record { jobs = []; are_jobs = tt; taken = refl; reads = omega arith })
