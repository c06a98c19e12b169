-- How a round begins.
use Rattle.std.proofs.Common.{◌≡◌, ℕ, inl, Bool, true, false, Option, Some, None, Ok, Err, List, [], ◌∷◌, ◌++◌, refl}
use Rattle.std.proofs.Common.{sym, ap, ◌∙◌, subst}
use Rattle.std.proofs.lemmas.List.{append-nil}
use Rattle.role_model.specs.declared.metadata.Metadata.{Metadata}
use Rattle.machine.specs.State.{State, Event, Tick, Ticked}
use Rattle.history_lock.specs.PassViews.{PassView}
use Rattle.subs_engine.specs.Calls.{plain, Call, call, MakesOne}
use Rattle.subs_engine.specs.declared.engine.TakeFault.{TakeFault}
use Rattle.subs_engine.specs.declared.engine.TakeFault.TheVariants as fault
use Rattle.subs_engine.proofs.Owns.{did_nothing}
use Rattle.polling_worker.specs.Ticks.{ticks_in, nobodies, taken, InTurn, counts_at, last_at, last_by, bit}
use Rattle.polling_worker.specs.Works.{Tells}
use Rattle.polling_worker.specs.Parts.{Begins, BeginsToFault, IsBegun, StartsTick, TicksNow, TicksOnce}

pub tells_nothing : (t : List ℕ → Type 0) → Tells t t []
tells_nothing t = λ before told. subst t (sym (append-nil before)) told

-- ---- a tick

pub ticks_now : (p q : PassView Event Metadata) (n : ℕ) → MakesOne p q Tick (plain (Ticked n)) → TicksOnce p q (Ok tt)
ticks_now p q n made =
    record { made = call made.0 Tick (plain (Ticked n)) ∷ []; count = n; one = (made.0, refl); did = made.1.did }

-- ---- nothing

-- a worker that makes no ticks
pub begins_silent : (ticks : Bool) (refetch : ℕ) (p : PassView Event Metadata) (t : List ℕ → Type 0) (last : Option ℕ) →
    ticks ≡ false → Begins ticks refetch p p t t last last
begins_silent ticks refetch p t last e = record {
  made = [];
  times = [];
  did = did_nothing p;
  tells = tells_nothing t;
  parts = [];
  whole = refl;
  each = refl;
  order = tt;
  nobody = refl;
  none = refl;
  asks = λ is. absurd (cc);
}

late_none : (refetch : ℕ) (last : Option ℕ) (time : ℕ) → counts_at refetch last time ≡ false →
    last ≡ last_by refetch last time
late_none refetch last time e = ap (λ (b : Bool). last_at b last time) (sym e)

late_some : (refetch : ℕ) (last : Option ℕ) (time : ℕ) → counts_at refetch last time ≡ true →
    Some time ≡ last_by refetch last time
late_some refetch last time e = ap (λ (b : Bool). last_at b last time) (sym e)

begun_more : (last : Option ℕ) (before : List Call) → IsBegun last before → IsBegun last (before ++ [])
begun_more last before b = subst (IsBegun last) (sym (append-nil before)) b

starts_more : (before more : List Call) → StartsTick before → StartsTick (before ++ more)
starts_more before more s =
    record {
      tick = s.tick;
      rest = s.rest ++ more;
      whole = ap (λ (l : List Call). l ++ more) s.whole;
      is_tick = s.is_tick;
    }

pub begun_then : (last : ℕ) (before more : List Call) → IsBegun (Some last) before →
    IsBegun (Some last) (before ++ more)
begun_then last before more b = starts_more before more b

-- a tick is the first call, or comes after one
tick_begins : (last : Option ℕ) (time : ℕ) (s : State) (n : ℕ) (before : List Call) → IsBegun last before →
    IsBegun (Some time) (before ++ call s Tick (plain (Ticked n)) ∷ [])
tick_begins None time s n before b =
    subst (λ (l : List Call). StartsTick (l ++ call s Tick (plain (Ticked n)) ∷ [])) (sym b)
    (record { tick = call s Tick (plain (Ticked n)); rest = []; whole = refl; is_tick = refl })
tick_begins (Some last) time s n before b = starts_more before (call s Tick (plain (Ticked n)) ∷ []) b

module _ (refetch : ℕ) (p q : PassView Event Metadata) (t t' : List ℕ → Type 0) (last : Option ℕ) (time : ℕ) where
  begins_early_true : Tells t t' (time ∷ []) → counts_at refetch last time ≡ false →
      Begins true refetch p p t t' last last
  begins_early_true tells early = record {
    made = [];
    times = time ∷ [];
    did = did_nothing p;
    tells = tells;
    parts = [];
    whole = refl;
    each = refl;
    order = tt;
    nobody = refl;
    none = refl;
    asks = λ is.
        record {
          time = time;
          once = refl;
          ticked = ap bit (sym early);
          later = late_none refetch last time early;
          begun = λ before b. begun_more last before b;
        };
  }

  begins_tick_true : Tells t t' (time ∷ []) → counts_at refetch last time ≡ true → TicksNow p q →
      Begins true refetch p q t t' last (Some time)
  begins_tick_true tells due now = record {
    made = now.made;
    times = time ∷ [];
    did = now.did;
    tells = tells;
    parts = now.made ∷ [];
    whole = sym (append-nil now.made);
    each = (q, inl (refl, record { did = now.did; is = inl (now.count, now.one) }), refl);
    order = subst (InTurn false) (sym is) ((λ h. absurd (cc)), tt);
    nobody = ap nobodies is;
    none = ap taken is;
    asks = λ e. record {
      time = time;
      once = refl;
      ticked = ap ticks_in is ∙ ap bit (sym due);
      later = late_some refetch last time due;
      begun =
          λ before b. subst (λ (l : List Call). IsBegun (Some time) (before ++ l)) (sym is)
          (tick_begins last time now.one.0 now.count before b);
    };
  }
    where
      is : now.made ≡ call now.one.0 Tick (plain (Ticked now.count)) ∷ []
      is = now.one.1

pub begins_early : (ticks : Bool) (refetch : ℕ) (p : PassView Event Metadata) (t t' : List ℕ → Type 0) (last : Option ℕ)
    (time : ℕ) → ticks ≡ true → Tells t t' (time ∷ []) → counts_at refetch last time ≡ false →
    Begins ticks refetch p p t t' last last
begins_early ticks refetch p t t' last time e tells early =
    subst (λ (b : Bool). Begins b refetch p p t t' last last) (sym e)
    (begins_early_true refetch p p t t' last time tells early)

pub begins_tick : (ticks : Bool) (refetch : ℕ) (p q : PassView Event Metadata) (t t' : List ℕ → Type 0)
    (last : Option ℕ) (time : ℕ) → ticks ≡ true → Tells t t' (time ∷ []) → counts_at refetch last time ≡ true →
    TicksOnce p q (Ok tt) → Begins ticks refetch p q t t' last (Some time)
begins_tick ticks refetch p q t t' last time e tells due now =
    subst (λ (b : Bool). Begins b refetch p q t t' last (Some time)) (sym e)
    (begins_tick_true refetch p q t t' last time tells due now)

pub begins_fault : (ticks : Bool) (p q : PassView Event Metadata) (t t' : List ℕ → Type 0) (time : ℕ) (f : TakeFault) →
    ticks ≡ true → Tells t t' (time ∷ []) → TicksOnce p q (Err f) → BeginsToFault ticks p q t t' f
begins_fault ticks p q t t' time fault.Spent is tells now =
    record { times = time ∷ []; did = now.0; tells = tells; ticking = is; spent = refl; turns = now.1 }
begins_fault ticks p q t t' time fault.NoMemory is tells now = absurd now
