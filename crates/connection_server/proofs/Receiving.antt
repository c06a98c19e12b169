-- What receiving one item does, and the timeout.
use Rattle.std.proofs.Common.{◌≡◌, ℕ, ◌+◌, ◌≤◌, ◌⊎◌, inl, inr, Bool, true, false, ◌||◌, Result, Ok, Err, List, [], ◌∷◌, ◌++◌, length, refl, sym, ap, ◌∙◌, subst, arith}
use Rattle.outside.specs.declared.link.LinkItem.{LinkItem}
use Rattle.outside.specs.declared.link.LinkItem.TheVariants as item
use Rattle.outside.specs.Ends.{Rose}
use Rattle.role_model.specs.declared.metadata.Metadata.{Metadata}
use Rattle.machine.specs.Messages.{Message, Says}
use Rattle.machine.specs.State.{State, Event, Receive, Binary, Timeout, Skip, Skipped}
use Rattle.history_lock.specs.PassViews.{PassView}
use Rattle.hub.specs.declared.event.Event.TheVariants as happening
use Rattle.subs_engine.specs.Calls.{Answer, plain, Call, call, MakesOne, Skips, Stays}
use Rattle.subs_engine.proofs.Owns.{did_nothing}
use Rattle.connection_server.specs.declared.end.End.{End}
use Rattle.connection_server.specs.declared.end.End.TheVariants as end
use Rattle.connection_server.specs.Talks.{LinkView, Talks, Tells}
use Rattle.connection_server.specs.Steps.{is_late, any_late, bit}
use Rattle.connection_server.specs.Sessions.{IsMessage, Unheard}
use Rattle.connection_server.specs.Parts.{CallEnds, Loses, Stop, Takes, TakesOne, Serves, Ends, TakesIn, LateAt}
use Rattle.connection_server.proofs.Talking.{talks_nothing}

module _ (conn : ℕ) (p q : PassView Event Metadata) (k k' : LinkView) where
  -- a message was received, and its call was made
  pub takes_text : (text : List ℕ) (a : Answer) → Talks k k' (item.Text text ∷ []) [] → (message : Message) × Says text message × MakesOne p q (Receive conn message) a → Takes conn p q k k'
  takes_text text a talks said = record {
    steps = call said.2.0 (Receive conn said.0) a ∷ [];
    taken = item.Text text ∷ [];
    part = record { did = said.2.1.did; talks = talks; on_it = (refl, tt); opened = (tt, tt); hears = ((said.0, said.1, refl), tt); order = λ quiet h. ((λ e. h refl, tt), λ e. absurd (cc)); drains = omega arith };
    untimed = refl;
    few = omega arith;
  }

  pub takes_binary : (a : Answer) → Talks k k' (item.Binary ∷ []) [] → MakesOne p q (Binary conn) a → Takes conn p q k k'
  takes_binary a talks made = record {
    steps = call made.0 (Binary conn) a ∷ [];
    taken = item.Binary ∷ [];
    part = record { did = made.1.did; talks = talks; on_it = (refl, tt); opened = (tt, tt); hears = (refl, tt); order = λ quiet h. ((λ e. h refl, tt), λ e. absurd (cc)); drains = omega arith };
    untimed = refl;
    few = omega arith;
  }

  -- a text was received, and its call wasn't made
  pub stops_text : (text : List ℕ) (e : End) → Talks k k' (item.Text text ∷ []) [] → CallEnds (happening.Text conn text) p q e → Stop conn p q k k' true e
  stops_text text (end.Closed c) talks s = absurd s
  stops_text text end.PeerClosed talks s = absurd s
  stops_text text end.LinkFault talks s = absurd s
  stops_text text end.ConnKnown talks s = absurd s
  stops_text text end.Spent talks s = record {
    last = record { calls = []; items = item.Text text ∷ []; outs = [] };
    did = s.did;
    talks = talks;
    few = omega arith;
    ends = (s.whole, inr (refl, record { message = item.Text text; such = tt; item_is = refl; after_quiet = refl; no_out = refl }));
  }
  stops_text text end.NoMemory talks (inl s) = record {
    last = record { calls = call s.0 Skip (plain Skipped) ∷ []; items = item.Text text ∷ []; outs = [] };
    did = s.1.did;
    talks = talks;
    few = omega arith;
    ends = inr (inl (inl (s.0, refl), record { message = item.Text text; such = tt; item_is = refl; after_quiet = refl; no_out = refl }));
  }
  stops_text text end.NoMemory talks (inr s) = record {
    last = record { calls = []; items = item.Text text ∷ []; outs = [] };
    did = s.1;
    talks = talks;
    few = omega arith;
    ends = inr (inl (inr refl, record { message = item.Text text; such = tt; item_is = refl; after_quiet = refl; no_out = refl }));
  }

  pub stops_binary : (e : End) → Talks k k' (item.Binary ∷ []) [] → CallEnds (happening.Binary conn) p q e → Stop conn p q k k' true e
  stops_binary (end.Closed c) talks s = absurd s
  stops_binary end.PeerClosed talks s = absurd s
  stops_binary end.LinkFault talks s = absurd s
  stops_binary end.ConnKnown talks s = absurd s
  stops_binary end.Spent talks s = record {
    last = record { calls = []; items = item.Binary ∷ []; outs = [] };
    did = s.did;
    talks = talks;
    few = omega arith;
    ends = (s.whole, inr (refl, record { message = item.Binary; such = tt; item_is = refl; after_quiet = refl; no_out = refl }));
  }
  stops_binary end.NoMemory talks s = absurd s

module _ (conn : ℕ) (p : PassView Event Metadata) (k k' : LinkView) where
  pub takes_idle : Talks k k' (item.Idle ∷ []) [] → Takes conn p p k k'
  takes_idle talks = record {
    steps = [];
    taken = item.Idle ∷ [];
    part = record { did = did_nothing p; talks = talks; on_it = tt; opened = (tt, tt); hears = tt; order = λ quiet h. (tt, λ e. absurd (cc)); drains = omega arith };
    untimed = refl;
    few = omega arith;
  }

  pub stops_peer : Talks k k' (item.PeerClosed ∷ []) [] → Stop conn p p k k' true end.PeerClosed
  stops_peer talks = record {
    last = record { calls = []; items = item.PeerClosed ∷ []; outs = [] };
    did = did_nothing p;
    talks = talks;
    few = omega arith;
    ends = record { after_quiet = refl; item_is = refl; no_call = refl; no_out = refl };
  }

  pub stops_failed : Talks k k' [] [] × Rose k.faults k'.faults → Stop conn p p k k' true end.LinkFault
  stops_failed s = record {
    last = record { calls = []; items = []; outs = [] };
    did = did_nothing p;
    talks = s.0;
    few = omega arith;
    ends = (s.1, inl (record { after_quiet = refl; few = omega arith; no_call = refl; no_out = refl }));
  }

  pub stops_lost : Loses k k' → Stop conn p p k k' true end.NoMemory
  stops_lost s = record {
    last = record { calls = []; items = s.given; outs = [] };
    did = did_nothing p;
    talks = s.talks;
    few = omega (arith, s.few);
    ends = inl (record { after_quiet = refl; few = s.few; no_call = refl; no_out = refl });
  }

-- ---- with the clock's one answer

module _ (start now : ℕ) where
  late_kept : (late : Bool) → (late ≡ true) ⊎ (is_late start now ≡ false) → late ≡ (late || any_late start (now ∷ []))
  late_kept true h = refl
  late_kept false (inl e) = absurd (cc)
  late_kept false (inr e) = sym (ap (λ b. b || false) e)

late_at : (e : End) (late now : Bool) → late ≡ now → LateAt e late now
late_at (end.Closed c) late now is = is
late_at end.PeerClosed late now is = is
late_at end.LinkFault late now is = is
late_at end.ConnKnown late now is = is
late_at end.Spent late now is = λ e. sym is ∙ e
late_at end.NoMemory late now is = is

module _ (conn start now : ℕ) (p q : PassView Event Metadata) (k k' : LinkView) (t t' : List ℕ → Type 0) where
  -- no timeout was due, and an item was taken
  pub serves_item : (late : Bool) → Tells t t' (now ∷ []) → (late ≡ true) ⊎ (is_late start now ≡ false) → Takes conn p q k k' → Serves conn start p q k k' t t' late late true
  serves_item late tells h takes = record {
    steps = takes.steps;
    taken = takes.taken;
    times = now ∷ [];
    part = takes.part;
    timed = record { tells = tells; often = omega (arith, takes.few); once = omega (arith, takes.untimed); lates = late_kept start now late h };
  }

  ends_item : (late : Bool) (e : End) → Tells t t' (now ∷ []) → (late ≡ true) ⊎ (is_late start now ≡ false) → Stop conn p q k k' true e → Ends conn start p q k k' t t' late true e
  ends_item late e tells h stop = record {
    stop = stop;
    times = now ∷ [];
    timed = record { tells = tells; often = omega (arith, stop.few); lates = late_at e late (late || any_late start (now ∷ [])) (late_kept start now late h) };
  }

  pub takes_in_item : (late : Bool) (r : Result (Unit {0}) End) → Tells t t' (now ∷ []) → (late ≡ true) ⊎ (is_late start now ≡ false) → TakesOne conn p q k k' r → TakesIn conn start p q k k' t t' late late r
  takes_in_item late (Ok done) tells h takes = serves_item late tells h takes
  takes_in_item late (Err e) tells h stop = (refl, ends_item late e tells h stop)

module _ (conn start now : ℕ) (p q : PassView Event Metadata) (k : LinkView) (t t' : List ℕ → Type 0) where
  -- the one timeout was made
  serves_first : (a : Answer) → Tells t t' (now ∷ []) → is_late start now ≡ true → MakesOne p q (Timeout conn) a → Serves conn start p q k k t t' false true true
  serves_first a tells late made = record {
    steps = call made.0 (Timeout conn) a ∷ [];
    taken = [];
    times = now ∷ [];
    part = record { did = made.1.did; talks = talks_nothing k; on_it = (refl, tt); opened = tt; hears = tt; order = λ quiet h. ((λ e. absurd (cc), tt), λ e. absurd (cc)); drains = omega arith };
    timed = record { tells = tells; often = omega arith; once = refl; lates = sym (ap (λ b. b || false) late) };
  }

  pub serves_timeout : (late : Bool) (a : Answer) → late ≡ false → Tells t t' (now ∷ []) → is_late start now ≡ true → MakesOne p q (Timeout conn) a → Serves conn start p q k k t t' late true true
  serves_timeout late a is tells due made = subst (λ (b : Bool). Serves conn start p q k k t t' b true true) (sym is) (serves_first a tells due made)

  -- the turns were spent at the timeout
  ends_first : (e : End) → Tells t t' (now ∷ []) → CallEnds (happening.Timeout conn) p q e → Ends conn start p q k k t t' false true e
  ends_first (end.Closed c) tells s = absurd s
  ends_first end.PeerClosed tells s = absurd s
  ends_first end.LinkFault tells s = absurd s
  ends_first end.ConnKnown tells s = absurd s
  ends_first end.Spent tells s = record {
    stop = record { last = record { calls = []; items = []; outs = [] }; did = s.did; talks = talks_nothing k; few = omega arith; ends = (s.whole, inl (refl, refl, refl)) };
    times = now ∷ [];
    timed = record { tells = tells; often = omega arith; lates = λ e. absurd (cc) };
  }
  ends_first end.NoMemory tells s = absurd s

  pub ends_timeout : (late : Bool) (e : End) → late ≡ false → Tells t t' (now ∷ []) → CallEnds (happening.Timeout conn) p q e → Ends conn start p q k k t t' late true e
  ends_timeout late e is tells s = subst (λ (b : Bool). Ends conn start p q k k t t' b true e) (sym is) (ends_first e tells s)
