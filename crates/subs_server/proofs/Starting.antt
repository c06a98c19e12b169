-- Works that are started, one after the other.
use Rattle.std.proofs.Common.{◌≡◌, ◌∙◌, sym, ap, subst, refl, ℕ, zero, suc, ◌+◌, ◌-◌, ◌≤◌, ◌==◌, inl, inr, Bool, true, false, Option, Some, None, Result, Ok, Err, List, [], ◌∷◌, ◌++◌, length, arith, append_assoc, append-nil}
use Rattle.std.specs.Prelude.{replicate}
use Rattle.std.specs.List.{AllZip}
use Rattle.std.proofs.lemmas.Bool.Decides.{nat_tests}
use Rattle.std.proofs.lemmas.List.{length-append}
use Rattle.outside.specs.declared.listener.Accepted.TheVariants as accepted
use Rattle.outside.specs.Ends.{Rose}
use Rattle.outside.specs.Listeners.{Accepts}
use Rattle.outside.specs.Works as works
use Rattle.role_model.specs.declared.metadata.Metadata.{Metadata}
use Rattle.machine.specs.State.{Event}
use Rattle.history_lock.specs.PassViews.{PassView}
use Rattle.subs_server.specs.declared.task.Task.{Task}
use Rattle.subs_server.specs.declared.task.Task.TheVariants as task
use Rattle.subs_server.specs.declared.task.ServeWork.{ServeWork}
use Rattle.subs_server.specs.declared.start.StartEnd.{StartEnd}
use Rattle.subs_server.specs.declared.start.StartEnd.TheVariants as end
use Rattle.subs_server.specs.Mains.{Planned, Polls, TakesCommits, Connects, polls, connections, planned, ListenerView, Fits, task_of, Told, most_connections}
use Rattle.subs_server.specs.Starting.{StartsOne, StartsNone, Begins, BeginsPart, BeginsPolls, Gave, IsCaused, ServesCounted, ServesConns, WorksFrom}
use Rattle.subs_server.proofs.Porting.{accepted_one, accepted_end, accepted_same}

zip_append : {A B : Type 0} (R : A → B → Type 0) (xs xs' : List A) (ys ys' : List B) →
    AllZip R xs ys → AllZip R xs' ys' → AllZip R (xs ++ xs') (ys ++ ys')
zip_append R [] xs' [] ys' a b = b
zip_append R [] xs' (y ∷ ys) ys' a b = absurd a
zip_append R (x ∷ xs) xs' [] ys' a b = absurd a
zip_append R (x ∷ xs) xs' (y ∷ ys) ys' a b = (a.0, zip_append R xs xs' ys ys' a.1 b)

-- ---- what a spawner tells

pub told_nothing : {W : Type 0} (s : Option (List W)) → Told s s []
told_nothing s = λ before told. told ∙ ap Some (sym (append-nil before))

pub told_then : {W : Type 0} (s t u : Option (List W)) (xs ys : List W) → Told s t xs → Told t u ys → Told s u (xs ++ ys)
told_then s t u xs ys a b = λ before told. b (before ++ xs) (a before told) ∙ ap Some (append_assoc before xs ys)

told_same : {W : Type 0} (s t u : Option (List W)) (xs : List W) → Told s t xs → Told t u [] → Told s u xs
told_same s t u xs a b = subst (Told s u) (append-nil xs) (told_then s t u xs [] a b)

told_one : {W : Type 0} (s t : Option (List W)) (w : W) → works.Starts s t true w → Told s t (w ∷ [])
told_one {W} s t w starts = λ before told. subst (λ (o : Option (List W)). works.Starts o t true w) told starts

told_none : {W : Type 0} (s t : Option (List W)) (w : W) → works.Starts s t false w → Told s t []
told_none {W} s t w starts = λ before told. subst (λ (o : Option (List W)). works.Starts o t false w) told starts ∙ ap Some (sym (append-nil before))

module _ {N Q C G : Type 0} (s t : Option (List (ServeWork N Q C G))) (w : ServeWork N Q C G) (r : Bool) where
  -- a work with a pass that was split off
  pub one_started : (p o : PassView Event Metadata) (z : Task N Q C G) → o ≡ record p { number = o.number } → w.pass ≡ o → w.task ≡ z → r ≡ true → works.Starts s t r w → StartsOne s t p z
  one_started p o z split own task_is is starts = record {
    work = w;
    is_work = record {
      lock_is = ap (λ (z : PassView Event Metadata). z.lock) (own ∙ split);
      meta_is = ap (λ (z : PassView Event Metadata). z.basis) (own ∙ split);
      task_is = task_is;
    };
    told = told_one s t w (subst (λ (b : Bool). works.Starts s t b w) is starts);
  }

  pub one_failed : r ≡ false → works.Starts s t r w → Told s t []
  one_failed is starts = told_none s t w (subst (λ (b : Bool). works.Starts s t b w) is starts)

-- ---- works as they are planned

module _ {N Q C G : Type 0} (p : PassView Event Metadata) (clock : C) (gate : G) where
  pub begins_nothing : (s : Option (List (ServeWork N Q C G))) → Begins p clock gate s s []
  begins_nothing s = record { works = []; told = told_nothing s; fit = tt }

  module _ (s t u : Option (List (ServeWork N Q C G))) where
    pub begins_then : (xs ys : List (Planned N Q)) → Begins p clock gate s t xs → Begins p clock gate t u ys → Begins p clock gate s u (xs ++ ys)
    begins_then xs ys a b = record {
      works = a.works ++ b.works;
      told = told_then s t u a.works b.works a.told b.told;
      fit = zip_append (Fits p.lock p.basis clock gate) a.works b.works xs ys a.fit b.fit;
    }

    begins_one : (plan : Planned N Q) → StartsOne t u p (task_of p.lock p.basis clock gate plan) → Begins p clock gate t u (plan ∷ [])
    begins_one plan one = record {
      works = one.work ∷ [];
      told = one.told;
      fit = (record { lock_is = one.is_work.lock_is; meta_is = one.is_work.meta_is; task_is = one.is_work.task_is }, tt);
    }

    pub begins_more : (xs : List (Planned N Q)) (plan : Planned N Q) → Begins p clock gate s t xs → StartsOne t u p (task_of p.lock p.basis clock gate plan) → Begins p clock gate s u (xs ++ plan ∷ [])
    begins_more xs plan a one = begins_then xs (plan ∷ []) a (begins_one plan one)

    -- nothing more was started
    pub begins_part : (xs rest plans : List (Planned N Q)) → xs ++ rest ≡ plans → Begins p clock gate s t xs → Told t u [] → BeginsPart p clock gate s u plans
    begins_part xs rest plans whole a none = record {
      begun = xs;
      rest = rest;
      whole = whole;
      begins = record { works = a.works; told = told_same s t u a.works a.told none; fit = a.fit };
    }

-- ---- polls

replicate_next : {X : Type 0} (n : ℕ) (x : X) → replicate n x ++ x ∷ [] ≡ x ∷ replicate n x
replicate_next zero x = refl
replicate_next (suc n) x = ap (λ l. x ∷ l) (replicate_next n x)

suc_not_zero : (n : ℕ) → (suc n == 0) ≡ false
suc_not_zero n = grind (arith, nat_tests)

polls_next : {N Q : Type 0} (n : ℕ) (ticks : Bool) → ticks ≡ (n == 0) → polls {N = N} {Q = Q} n ++ Polls ticks ∷ [] ≡ polls (suc n)
polls_next {N} {Q} zero ticks is = ap (λ (b : Bool). polls {N = N} {Q = Q} 0 ++ Polls b ∷ []) is
polls_next {N} {Q} (suc n) ticks is =
    ap (λ (b : Bool). polls {N = N} {Q = Q} (suc n) ++ Polls b ∷ []) (is ∙ suc_not_zero n)
    ∙ ap (λ (l : List (Planned N Q)). Polls true ∷ l) (replicate_next n (Polls false))

replicate_both : {X : Type 0} (n m : ℕ) (x : X) → replicate n x ++ replicate m x ≡ replicate (n + m) x
replicate_both zero m x = let e : m ≡ 0 + m = omega arith in ap (λ (k : ℕ). replicate k x) e
replicate_both (suc n) m x = let e : suc (n + m) ≡ suc n + m = omega arith in ap (λ l. x ∷ l) (replicate_both n m x) ∙ ap (λ (k : ℕ). replicate k x) e

-- fewer polls are the first of more
polls_front : {N Q : Type 0} (n m : ℕ) → n ≤ m → (rest : List (Planned N Q)) × (polls n ++ rest ≡ polls m)
polls_front zero m le = (polls m, refl)
polls_front (suc n) zero le = absurd (omega arith)
polls_front {N} {Q} (suc n) (suc m) le = (replicate (m - n) (Polls false), ap (λ (l : List (Planned N Q)). Polls true ∷ l) (replicate_both n (m - n) (Polls false) ∙ ap (λ (k : ℕ). replicate k (Polls false)) (omega arith)))

module _ {N Q C G : Type 0} (p : PassView Event Metadata) (clock : C) (gate : G) (s t u : Option (List (ServeWork N Q C G))) where
  pub polls_more : (n refetch : ℕ) (ticks : Bool) → refetch ≡ p.basis.refetch_ms → ticks ≡ (n == 0) → Begins p clock gate s t (polls n) → StartsOne t u p (task.Poll ticks refetch clock gate) → Begins p clock gate s u (polls (n + 1))
  polls_more n refetch ticks same is a one =
      let e : suc n ≡ n + 1 = omega arith in
      subst (λ (l : List (Planned N Q)). Begins p clock gate s u l) (polls_next n ticks is ∙ ap (λ (k : ℕ). polls k) e)
      (begins_more p clock gate s t u (polls n) (Polls ticks) a
      (subst (λ (r : ℕ). StartsOne t u p (task.Poll ticks r clock gate)) same one))

  pub polls_part : (n m : ℕ) → n ≤ m → Begins p clock gate s t (polls n) → Told t u [] → BeginsPart p clock gate s u (polls m)
  polls_part n m le a none = let front = polls_front n m le in begins_part p clock gate s t u (polls n) front.0 (polls m) front.1 a none

  pub polls_stop : (n m faults faults' faults'' : ℕ) (e : StartEnd) → n ≤ m → faults ≤ faults' → Begins p clock gate s t (polls n) → StartsNone t u faults' faults'' e → BeginsPolls p clock gate s u m faults faults'' (Err e)
  polls_stop n m faults faults' faults'' end.NoMemory le later a none = polls_part n m le a none
  polls_stop n m faults faults' faults'' end.ListenFault le later a none = absurd none
  polls_stop n m faults faults' faults'' end.SpawnFault le later a none = (polls_part n m le a none.0, omega (arith, none.1))

-- ---- connections

connections_next : {N Q : Type 0} (n : ℕ) (xs : List N) (c : N) → connections {N = N} {Q = Q} n (xs ++ c ∷ []) ≡ connections n xs ++ Connects (n + length xs) c ∷ []
connections_next {N} {Q} n [] c = let e : n ≡ n + 0 = omega arith in ap (λ (k : ℕ). connections {N = N} {Q = Q} k (c ∷ [])) e
connections_next {N} {Q} n (x ∷ xs) c =
    let e : n + 1 + length xs ≡ n + length (x ∷ xs) = omega arith in
    ap (λ (l : List (Planned N Q)). Connects n x ∷ l) (connections_next (n + 1) xs c
    ∙ ap (λ (k : ℕ). connections (n + 1) xs ++ Connects k c ∷ []) e)

module _ {N : Type 0} where
  pub gave_nothing : (l : ListenerView N) → Gave l l []
  gave_nothing l = record { told = λ all told. (all, told, refl); port = refl; later = omega arith }

  pub gave_then : (k l m : ListenerView N) (xs ys : List N) → Gave k l xs → Gave l m ys → Gave k m (xs ++ ys)
  gave_then k l m xs ys a b = record {
    told = λ all told. let one = a.told all told in let two = b.told one.0 one.1 in
        (two.0, two.1, one.2 ∙ ap (λ (r : List N). xs ++ r) two.2 ∙ sym (append_assoc xs ys two.0));
    port = b.port ∙ a.port;
    later = omega (arith, a.later, b.later);
  }

  module _ (l l' : ListenerView N) (port : l'.last_port ≡ l.last_port) (later : l.faults ≤ l'.faults) where
    gave_one : (c : N) → Accepts l.coming l'.coming (accepted.Conn c) → Gave l l' (c ∷ [])
    gave_one c a = record { told = λ all told. accepted_one l.coming l'.coming c a all told; port = port; later = later }

    gave_end : Accepts l.coming l'.coming accepted.End → Gave l l' []
    gave_end a = record { told = λ all told. ([], accepted_end l.coming l'.coming a all told, none l.coming a all told); port = port; later = later }
      where
        none : (coming : Option (List N)) → Accepts coming l'.coming accepted.End → (all : List N) → coming ≡ Some all → all ≡ []
        none None a all told = absurd (cc)
        none (Some conns) a all told = let same : conns ≡ all = cc in sym same ∙ a.0

    gave_same : Accepts l.coming l'.coming accepted.Failed → Gave l l' []
    gave_same a = record { told = λ all told. (all, accepted_same l.coming l'.coming a all told, refl); port = port; later = later }

module _ {N Q C G : Type 0} (p : PassView Event Metadata) (clock : C) (gate : G) where
  pub counts_nothing : (l : ListenerView N) (s : Option (List (ServeWork N Q C G))) → ServesCounted p clock gate l l s s 0
  counts_nothing l s = record { conns = []; serves = record { gave = gave_nothing l; begins = begins_nothing p clock gate s }; counted = refl }

  module _ (k l m : ListenerView N) (s t u : Option (List (ServeWork N Q C G))) (n : ℕ) (some : ServesCounted p clock gate k l s t n)
      (port : m.last_port ≡ l.last_port) (later : l.faults ≤ m.faults) where
    -- one more connection came, and its work was started
    pub counts_more : (c : N) (number : ℕ) → number ≡ n + 1 → Accepts l.coming m.coming (accepted.Conn c) → StartsOne t u p (task.Conn number c clock) → ServesCounted p clock gate k m s u (n + 1)
    counts_more c number is a one = record {
      conns = some.conns ++ c ∷ [];
      serves = record {
        gave = gave_then k l m some.conns (c ∷ []) some.serves.gave (gave_one l m port later c a);
        begins = subst (λ (x : List (Planned N Q)). Begins p clock gate s u x) (sym (connections_next 1 some.conns c))
            (begins_more p clock gate s t u (connections 1 some.conns) (Connects (1 + length some.conns) c) some.serves.begins
            (subst (λ (x : ℕ). StartsOne t u p (task.Conn x c clock)) (omega (arith, is, some.counted)) one));
      };
      counted = omega (arith, length-append some.conns (c ∷ []), some.counted);
    }

    -- its work was not started
    pub counts_stop : (c : N) (faults faults' faults'' : ℕ) (e : StartEnd) → faults ≤ faults' → Accepts l.coming m.coming (accepted.Conn c) → StartsNone t u faults' faults'' e → ServesConns p clock gate k m s u faults faults'' (Err e)
    counts_stop c faults faults' faults'' e later' a none = record {
      conns = some.conns ++ c ∷ [];
      gave = gave_then k l m some.conns (c ∷ []) some.serves.gave (gave_one l m port later c a);
      part = begins_part p clock gate s t u (connections 1 some.conns) (Connects (1 + length some.conns) c ∷ []) (connections 1 (some.conns ++ c ∷ []))
          (sym (connections_next 1 some.conns c)) some.serves.begins (untold e none);
      caused = causes e none;
    }
      where
        untold : (e : StartEnd) → StartsNone t u faults' faults'' e → Told t u []
        untold end.NoMemory none = none
        untold end.ListenFault none = absurd none
        untold end.SpawnFault none = none.0

        causes : (e : StartEnd) → StartsNone t u faults' faults'' e → IsCaused k.faults m.faults faults faults'' e
        causes end.NoMemory none = tt
        causes end.ListenFault none = absurd none
        causes end.SpawnFault none = omega (arith, none.1)

    pub counts_end : (faults faults' : ℕ) → Accepts l.coming m.coming accepted.End → ServesConns p clock gate k m s t faults faults' (Ok tt)
    counts_end faults faults' a = record {
      conns = some.conns;
      serves = record { gave = gave; begins = some.serves.begins };
      all = inr (λ all told. accepted_end l.coming m.coming a (some.serves.gave.told all told).0 (some.serves.gave.told all told).1);
    }
      where
        gave : Gave k m some.conns
        gave = subst (Gave k m) (append-nil some.conns) (gave_then k l m some.conns [] some.serves.gave (gave_end l m port later a))

    pub counts_failed : (faults faults' : ℕ) → Rose l.faults m.faults → Accepts l.coming m.coming accepted.Failed → ServesConns p clock gate k m s t faults faults' (Err end.ListenFault)
    counts_failed faults faults' rose a = record {
      conns = some.conns;
      gave = subst (Gave k m) (append-nil some.conns) (gave_then k l m some.conns [] some.serves.gave (gave_same l m port later a));
      part = begins_part p clock gate s t t (connections 1 some.conns) [] (connections 1 some.conns) (append-nil (connections 1 some.conns)) some.serves.begins (told_nothing t);
      caused = omega (arith, rose, some.serves.gave.later);
    }

  -- all numbers were used
  pub counts_all : (k l : ListenerView N) (s t : Option (List (ServeWork N Q C G))) (faults faults' : ℕ) → ServesCounted p clock gate k l s t most_connections → ServesConns p clock gate k l s t faults faults' (Ok tt)
  counts_all k l s t faults faults' some = record { conns = some.conns; serves = some.serves; all = inl some.counted }

-- ---- all works

module _ {N Q C G : Type 0} (workers : ℕ) (from : Q) (p : PassView Event Metadata) (clock : C) (gate : G) where
  -- the works of a part are the first of all
  planned_part : (sockets sockets' : ListenerView N) (s t : Option (List (ServeWork N Q C G))) (faults faults' : ℕ) (e : StartEnd) (conns : List N) → Gave sockets sockets' conns
      → IsCaused sockets.faults sockets'.faults faults faults' e → BeginsPart p clock gate s t (planned workers from conns) → WorksFrom workers from p.basis clock gate sockets sockets' s t faults faults' (Err e)
  planned_part sockets sockets' s t faults faults' e conns gave caused part = record {
    works = part.begins.works;
    told = part.begins.told;
    are = inr (record { conns = conns; gave = gave; begun = part.begun; rest = part.rest; plan = part.whole; lock = p.lock; fit = part.begins.fit; whole = tt });
    caused = caused;
  }

  -- at the polls
  pub works_polls : (sockets : ListenerView N) (s t : Option (List (ServeWork N Q C G))) (faults faults' : ℕ) (e : StartEnd) → BeginsPolls p clock gate s t workers faults faults' (Err e) → WorksFrom workers from p.basis clock gate sockets sockets s t faults faults' (Err e)
  works_polls sockets s t faults faults' e b = planned_part sockets sockets s t faults faults' e [] (gave_nothing sockets) (causes e b) (longer (part e b))
    where
      part : (e : StartEnd) → BeginsPolls p clock gate s t workers faults faults' (Err e) → BeginsPart p clock gate s t (polls workers)
      part end.NoMemory b = b
      part end.ListenFault b = absurd b
      part end.SpawnFault b = b.0

      causes : (e : StartEnd) → BeginsPolls p clock gate s t workers faults faults' (Err e) → IsCaused sockets.faults sockets.faults faults faults' e
      causes end.NoMemory b = tt
      causes end.ListenFault b = absurd b
      causes end.SpawnFault b = b.1

      longer : BeginsPart p clock gate s t (polls workers) → BeginsPart p clock gate s t (planned workers from [])
      longer a = record {
        begun = a.begun;
        rest = a.rest ++ TakesCommits from ∷ [];
        whole = sym (append_assoc a.begun a.rest (TakesCommits from ∷ [])) ∙ ap (λ (l : List (Planned N Q)). l ++ TakesCommits from ∷ []) a.whole;
        begins = a.begins;
      }

  -- at the commits
  pub works_commits : (sockets : ListenerView N) (s t u : Option (List (ServeWork N Q C G))) (faults faults' faults'' : ℕ) (e : StartEnd) → faults ≤ faults' → Begins p clock gate s t (polls workers) → StartsNone t u faults' faults'' e
      → WorksFrom workers from p.basis clock gate sockets sockets s u faults faults'' (Err e)
  works_commits sockets s t u faults faults' faults'' e later a none = planned_part sockets sockets s u faults faults'' e [] (gave_nothing sockets) (causes e none)
      (begins_part p clock gate s t u (polls workers) (TakesCommits from ∷ []) (planned workers from []) refl a (untold e none))
    where
      untold : (e : StartEnd) → StartsNone t u faults' faults'' e → Told t u []
      untold end.NoMemory none = none
      untold end.ListenFault none = absurd none
      untold end.SpawnFault none = none.0

      causes : (e : StartEnd) → StartsNone t u faults' faults'' e → IsCaused sockets.faults sockets.faults faults faults'' e
      causes end.NoMemory none = tt
      causes end.ListenFault none = absurd none
      causes end.SpawnFault none = omega (arith, none.1)

  -- at the connections
  module _ (sockets sockets' : ListenerView N) (s t u v : Option (List (ServeWork N Q C G))) (faults faults' faults'' : ℕ) (later : faults ≤ faults')
      (polling : Begins p clock gate s t (polls workers)) (one : StartsOne t u p (task.Commits from)) where
    before_conns : Begins p clock gate s u (polls workers ++ TakesCommits from ∷ [])
    before_conns = begins_more p clock gate s t u (polls workers) (TakesCommits from) polling one

    plan_is : (xs ys : List (Planned N Q)) (conns : List N) → xs ++ ys ≡ connections 1 conns → ((polls workers ++ TakesCommits from ∷ []) ++ xs) ++ ys ≡ planned workers from conns
    plan_is xs ys conns is =
        append_assoc (polls workers ++ TakesCommits from ∷ []) xs ys
        ∙ ap (λ (l : List (Planned N Q)). (polls workers ++ TakesCommits from ∷ []) ++ l) is
        ∙ append_assoc (polls workers) (TakesCommits from ∷ []) (connections 1 conns)

    causes : (e : StartEnd) → IsCaused sockets.faults sockets'.faults faults' faults'' e → IsCaused sockets.faults sockets'.faults faults faults'' e
    causes end.NoMemory c = tt
    causes end.ListenFault c = c
    causes end.SpawnFault c = omega (arith, c)

    pub works_conns : (r : Result (Unit {0}) StartEnd) → ServesConns p clock gate sockets sockets' u v faults' faults'' r → WorksFrom workers from p.basis clock gate sockets sockets' s v faults faults'' r
    works_conns (Ok done) c =
        let both = begins_then p clock gate s u v (polls workers ++ TakesCommits from ∷ []) (connections 1 c.conns) before_conns c.serves.begins in
        record {
          works = both.works;
          told = both.told;
          are = inr (record {
            conns = c.conns;
            gave = c.serves.gave;
            begun = (polls workers ++ TakesCommits from ∷ []) ++ connections 1 c.conns;
            rest = [];
            plan = plan_is (connections 1 c.conns) [] c.conns (append-nil (connections 1 c.conns));
            lock = p.lock;
            fit = both.fit;
            whole = (refl, c.all);
          });
          caused = tt;
        }
    works_conns (Err e) c =
        let both = begins_then p clock gate s u v (polls workers ++ TakesCommits from ∷ []) c.part.begun before_conns c.part.begins in
        planned_part sockets sockets' s v faults faults'' e c.conns c.gave (causes e c.caused)
        (record { begun = (polls workers ++ TakesCommits from ∷ []) ++ c.part.begun; rest = c.part.rest; whole = plan_is c.part.begun c.part.rest c.conns c.part.whole; begins = both })

-- no work was started, for want of memory
pub works_none : {N Q C G : Type 0} (workers : ℕ) (from : Q) (meta : Metadata) (clock : C) (gate : G) (sockets : ListenerView N) (s : Option (List (ServeWork N Q C G))) (faults : ℕ) → WorksFrom workers from meta clock gate sockets sockets s s faults faults (Err end.NoMemory)
works_none workers from meta clock gate sockets s faults = record { works = []; told = told_nothing s; are = inl refl; caused = tt }

-- the pass is of the engine that was made of the metadata
pub works_of : {N Q C G : Type 0} (workers : ℕ) (from : Q) (meta basis : Metadata) (clock : C) (gate : G) (sockets sockets' : ListenerView N) (s t : Option (List (ServeWork N Q C G))) (faults faults' : ℕ) (r : Result (Unit {0}) StartEnd) → basis ≡ meta
    → WorksFrom workers from basis clock gate sockets sockets' s t faults faults' r → WorksFrom workers from meta clock gate sockets sockets' s t faults faults' r
works_of workers from meta basis clock gate sockets sockets' s t faults faults' r is w = subst (λ (m : Metadata). WorksFrom workers from m clock gate sockets sockets' s t faults faults' r) is w
