-- Serving, round after round, and a whole call.
use Rattle.std.proofs.Common.{◌≡◌, ◌≢◌, ℕ, ◌+◌, ◌≤◌, ◌^◌, ◌⊎◌, inl, inr, Bool, true, false, ◌||◌, nat_le, Result, Ok, Err, List, [], ◌∷◌, ◌++◌, length, refl, sym, ap, ◌∙◌, subst, arith, append_assoc, length-append}
use Rattle.std.proofs.lemmas.Bool.Decides.{nat_tests}
use Rattle.outside.specs.declared.link.LinkItem.{LinkItem}
use Rattle.outside.specs.declared.link.LinkOut.{LinkOut}
use Rattle.role_model.specs.declared.metadata.Metadata.{Metadata}
use Rattle.machine.specs.State.{State, Event, Connect, Gone, ConnectionKnown, Skip, Skipped}
use Rattle.history_lock.specs.PassViews.{PassView}
use Rattle.hub.specs.declared.event.Event.TheVariants as happening
use Rattle.subs_engine.specs.Calls.{Answer, plain, Call, call, Did, MakesOne}
use Rattle.subs_engine.proofs.Owns.{did_then}
use Rattle.connection_server.specs.declared.end.End.{End}
use Rattle.connection_server.specs.declared.end.End.TheVariants as end
use Rattle.connection_server.specs.Talks.{LinkView, Talks, Tells}
use Rattle.connection_server.specs.Steps.{said, timeouts, is_late, any_late, bit, quiet_after}
use Rattle.connection_server.specs.Sessions.{Last, EndsBy, Nothing, NoCall, NotReceived, Unheard, Unsent, IsMessage, IsTextItem, IsTimely, Served, Session, Refused, Refuses}
use Rattle.connection_server.specs.Parts.{CallEnds, Part, Stop, Timed, LateAt, Drains, DrainsToEnd, Serves, Ends, Runs, Opens, Refusal, Connects, Departs}
use Rattle.connection_server.proofs.Talking.{talks_then, talks_nothing, tells_then, tells_nothing}
use Rattle.connection_server.proofs.Composing.{part_then, part_nothing, timed_then, late_at_then}

-- ---- rounds

same_or : (late : Bool) → late ≡ (late || false)
same_or true = refl
same_or false = refl

-- drains ask no clock
serves_drains : (conn start : ℕ) (p q r : PassView Event Metadata) (k l m : LinkView) (s t : List ℕ → Type 0) (late : Bool) (steps : List Call) (taken : List LinkItem) (times : List ℕ) (ready : Bool)
    → Part conn p q k l false false steps taken → Timed start s t false late steps taken times → (d : Drains conn q r l m ready)
    → Part conn p r k m false ready (steps ++ d.steps) (taken ++ []) × Timed start s t false late (steps ++ d.steps) (taken ++ []) (times ++ [])
serves_drains conn start p q r k l m s t late steps taken times ready part timed d = (
  part_then conn p q r k l m false false ready steps d.steps taken [] part d.part,
  timed_then start s t t false late late steps d.steps taken [] times [] timed
      (record { tells = tells_nothing t; often = omega arith; once = omega (arith, d.untimed); lates = same_or late }),
)

pub serves_nothing : (conn start : ℕ) (p : PassView Event Metadata) (k : LinkView) (t : List ℕ → Type 0) → Serves conn start p p k k t t false false false
serves_nothing conn start p k t = record {
  steps = [];
  taken = [];
  times = [];
  part = part_nothing conn p k;
  timed = record { tells = tells_nothing t; often = omega arith; once = refl; lates = refl };
}

-- a whole round, after which serving goes on
pub serves_round : (conn start : ℕ) (p q r w : PassView Event Metadata) (k l m n : LinkView) (s t u : List ℕ → Type 0) (late now : Bool)
    → Serves conn start p q k l s t false late false → Drains conn q r l m true → Serves conn start r w m n t u late now true → Serves conn start p w k n s u false now false
serves_round conn start p q r w k l m n s t u late now a d b =
    let both = serves_drains conn start p q r k l m s t late a.steps a.taken a.times true a.part a.timed d in
    record {
      steps = (a.steps ++ d.steps) ++ b.steps;
      taken = (a.taken ++ []) ++ b.taken;
      times = (a.times ++ []) ++ b.times;
      part = part_then conn p r w k m n false true false (a.steps ++ d.steps) b.steps (a.taken ++ []) b.taken both.0 b.part;
      timed = timed_then start s t u false late now (a.steps ++ d.steps) b.steps (a.taken ++ []) b.taken (a.times ++ []) b.times both.1 b.timed;
    }

-- serving ends at a moment
runs_ends : (conn start : ℕ) (p q r : PassView Event Metadata) (k l m : LinkView) (s t u : List ℕ → Type 0) (late ready : Bool) (e : End) (steps : List Call) (taken : List LinkItem) (times : List ℕ)
    → Part conn p q k l false ready steps taken → Timed start s t false late steps taken times → Ends conn start q r l m t u late ready e → Runs conn start p r k m s u e
runs_ends conn start p q r k l m s t u late ready e steps taken times part timed ends = record {
  pass = q;
  link = l;
  ready = ready;
  steps = steps;
  taken = taken;
  part = part;
  stop = ends.stop;
  times = times ++ ends.times;
  tells = tells_then s t u times ends.times timed.tells ends.timed.tells;
  often = omega (arith, length-append times ends.times, timed.often, ends.timed.often);
  late = late;
  once = omega (arith, timed.once);
  lates = late_at_then e start false late times ends.times timed.lates ends.timed.lates;
}

late_same : (e : End) (late : Bool) → LateAt e late (late || false)
late_same (end.Closed c) late = same_or late
late_same end.PeerClosed late = same_or late
late_same end.LinkFault late = same_or late
late_same end.ConnKnown late = same_or late
late_same end.Spent late = λ e. sym (same_or late) ∙ e
late_same end.NoMemory late = same_or late

-- at its drains
pub runs_drains : (conn start : ℕ) (p q r : PassView Event Metadata) (k l m : LinkView) (s t : List ℕ → Type 0) (late : Bool) (e : End)
    → Serves conn start p q k l s t false late false → DrainsToEnd conn q r l m e → Runs conn start p r k m s t e
runs_drains conn start p q r k l m s t late e a d =
    let both = serves_drains conn start p q d.pass k l d.link s t late a.steps a.taken a.times false a.part a.timed d.drains in
    runs_ends conn start p d.pass r k d.link m s t t late false e (a.steps ++ d.drains.steps) (a.taken ++ []) (a.times ++ []) both.0 both.1
    (record { stop = d.stop; times = []; timed = record { tells = tells_nothing t; often = d.stop.few; lates = late_same e late } })

-- or behind them
pub runs_round : (conn start : ℕ) (p q r w : PassView Event Metadata) (k l m n : LinkView) (s t u : List ℕ → Type 0) (late : Bool) (e : End)
    → Serves conn start p q k l s t false late false → Drains conn q r l m true → Ends conn start r w m n t u late true e → Runs conn start p w k n s u e
runs_round conn start p q r w k l m n s t u late e a d b =
    let both = serves_drains conn start p q r k l m s t late a.steps a.taken a.times true a.part a.timed d in
    runs_ends conn start p r w k m n s t u late true e (a.steps ++ d.steps) (a.taken ++ []) (a.times ++ []) both.0 both.1 b

-- ---- the beginning and the end

module _ (conn : ℕ) (p q : PassView Event Metadata) where
  pub refuses_known : MakesOne p q (Connect conn) (plain ConnectionKnown) → Refusal conn p q end.ConnKnown
  refuses_known made = record { made = call made.0 (Connect conn) (plain ConnectionKnown) ∷ []; did = made.1.did; refuses = (made.0, refl) }

  pub opens_made : (a : Answer) → a.reply ≢ ConnectionKnown → MakesOne p q (Connect conn) a → Opens conn p q
  opens_made a fresh made = record { opening = call made.0 (Connect conn) a ∷ []; did = made.1.did; answer = a; connects = (made.0, refl); fresh = fresh }

  pub refuses_ends : (e : End) → CallEnds (happening.Connect conn) p q e → Refusal conn p q e
  refuses_ends (end.Closed c) s = absurd s
  refuses_ends end.PeerClosed s = absurd s
  refuses_ends end.LinkFault s = absurd s
  refuses_ends end.ConnKnown s = absurd s
  refuses_ends end.Spent s = record { made = []; did = s.did; refuses = (refl, s.whole) }
  refuses_ends end.NoMemory s = record { made = call s.0 Skip (plain Skipped) ∷ []; did = s.1.did; refuses = (s.0, refl) }

  pub departs_made : (a : Answer) → MakesOne p q (Gone conn) a → Departs conn p q
  departs_made a made = record { closing = call made.0 (Gone conn) a ∷ []; did = made.1.did; most = made.1.few; gone = inl (a, (made.0, refl)) }

  pub departs_ends : (e : End) → CallEnds (happening.Gone conn) p q e → Departs conn p q
  departs_ends (end.Closed c) s = absurd s
  departs_ends end.PeerClosed s = absurd s
  departs_ends end.LinkFault s = absurd s
  departs_ends end.ConnKnown s = absurd s
  departs_ends end.Spent s = record { closing = []; did = s.did; most = omega (arith, s.whole); gone = inr (refl, s.whole) }
  departs_ends end.NoMemory s = absurd s

-- ---- a whole call

pub served_refused : (conn : ℕ) (p q : PassView Event Metadata) (k : LinkView) (t : List ℕ → Type 0) (e : End) → Refusal conn p q e → Served conn p q k k t t e
served_refused conn p q k t e r = record {
  made = r.made;
  given = [];
  outs = [];
  times = [];
  did = r.did;
  talks = talks_nothing k;
  tells = tells_nothing t;
  session = inl (record { refuses = r.refuses; no_item = refl; no_out = refl; no_time = refl });
}

-- the start itself isn't late
late_start : (start : ℕ) (later : List ℕ) → any_late start (start ∷ later) ≡ any_late start later
late_start start later = ap (λ (b : Bool). b || any_late start later) (not_late start)
  where
    not_late : (start : ℕ) → is_late start start ≡ false
    not_late start = grind (arith, nat_tests)

timely : (e : End) (made : ℕ) (late now : Bool) → made ≡ bit late → LateAt e late now → IsTimely e made now
timely (end.Closed c) made late now is l = is ∙ ap bit l
timely end.PeerClosed made late now is l = is ∙ ap bit l
timely end.LinkFault made late now is l = is ∙ ap bit l
timely end.ConnKnown made late now is l = is ∙ ap bit l
timely end.NoMemory made late now is l = is ∙ ap bit l
timely end.Spent made true now is l = omega (arith, is, ap bit (l refl))
timely end.Spent made false now is l = omega (arith, is)

-- the same end, seen from an earlier moment and a later one
module _ (quiet quiet' : Bool) (h : quiet ≡ true → quiet' ≡ true) (last : Last) where
  unheard_too : (Such : LinkItem → Type 0) → Unheard Such quiet last → Unheard Such quiet' last
  unheard_too Such s = record { message = s.message; such = s.such; item_is = s.item_is; after_quiet = h s.after_quiet; no_out = s.no_out }

  not_received_too : (most : ℕ) → NotReceived most quiet last → NotReceived most quiet' last
  not_received_too most s = record { after_quiet = h s.after_quiet; few = s.few; no_call = s.no_call; no_out = s.no_out }

  module _ (conn turns turns' faults faults' before : ℕ) (up : turns ≤ turns') (most : turns' ≤ 2 ^ 62) (earlier : before ≤ faults) where
    ends_too : (e : End) → EndsBy conn turns faults faults' quiet e last → EndsBy conn turns' before faults' quiet' e last
    ends_too (end.Closed c) s = s
    ends_too end.PeerClosed s = record { after_quiet = h s.after_quiet; item_is = s.item_is; no_call = s.no_call; no_out = s.no_out }
    ends_too end.LinkFault s = (omega (arith, s.0, earlier), cases s.1)
      where
        cases : NotReceived 0 quiet last ⊎ Unsent conn last → NotReceived 0 quiet' last ⊎ Unsent conn last
        cases (inl a) = inl (not_received_too 0 a)
        cases (inr b) = inr b
    ends_too end.ConnKnown s = s
    ends_too end.Spent s = (omega (arith, s.0), cases s.1)
      where
        cases : Nothing last ⊎ (NoCall last × Unheard IsMessage quiet last) → Nothing last ⊎ (NoCall last × Unheard IsMessage quiet' last)
        cases (inl a) = inl a
        cases (inr b) = inr (b.0, unheard_too IsMessage b.1)
    ends_too end.NoMemory s = cases s
      where
        cases : EndsBy conn turns faults faults' quiet end.NoMemory last → EndsBy conn turns' before faults' quiet' end.NoMemory last
        cases (inl a) = inl (not_received_too 1 a)
        cases (inr (inl b)) = inr (inl (b.0, unheard_too IsTextItem b.1))
        cases (inr (inr c)) = inr (inr c)

pub served_session : (conn start : ℕ) (p q r w : PassView Event Metadata) (k l : LinkView) (s t u : List ℕ → Type 0) (e : End)
    → Opens conn p q → Tells s t (start ∷ []) → Runs conn start q r k l t u e → Departs conn r w → Served conn p w k l s u e
served_session conn start p q r w k l s t u e opens tells runs departs =
    let last = runs.stop.last in
    let order = runs.part.order false (λ h. h) in
    let made_after : List Call = runs.steps ++ (last.calls ++ departs.closing) in
    record {
      made = opens.opening ++ made_after;
      given = runs.taken ++ last.items;
      outs = said runs.steps ++ last.outs;
      times = start ∷ runs.times;
      did = did_then p q w opens.opening made_after opens.did (did_then q runs.pass w runs.steps (last.calls ++ departs.closing) runs.part.did (did_then runs.pass r w last.calls departs.closing runs.stop.did departs.did));
      talks = talks_then k runs.link l runs.taken last.items (said runs.steps) last.outs runs.part.talks runs.stop.talks;
      tells = tells_then s t u (start ∷ []) runs.times tells runs.tells;
      session = inr (record {
        opening = opens.opening;
        steps = runs.steps;
        last = last;
        closing = departs.closing;
        calls = refl;
        answer = opens.answer;
        connects = opens.connects;
        fresh = opens.fresh;
        gone = departs.gone;
        on_it = runs.part.on_it;
        taken = runs.taken;
        items = refl;
        opened = runs.part.opened;
        hears = runs.part.hears;
        order = order.0;
        drains = omega (arith, length-append runs.taken last.items, runs.part.drains, runs.stop.few);
        sends = refl;
        start = start;
        later = runs.times;
        asked = refl;
        often = omega (arith, length-append runs.taken last.items, runs.often);
        timely = timely e (timeouts runs.steps) runs.late (any_late start (start ∷ runs.times)) runs.once (subst (LateAt e runs.late) (sym (late_start start runs.times)) runs.lates);
        ends = ends_too runs.ready (quiet_after false runs.steps) order.1 last conn (length r.seen) (length w.seen) runs.link.faults l.faults k.faults (omega (arith, ap length departs.did.whole, length-append r.seen departs.did.rest)) departs.most runs.part.talks.later e runs.stop.ends;
      });
    }
