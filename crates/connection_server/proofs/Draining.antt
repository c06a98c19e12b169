-- What drains do.
use Rattle.std.proofs.Common.{◌≡◌, ◌≢◌, ℕ, ◌+◌, ◌≤◌, inl, inr, Bool, true, false, Result, Ok, Err, List, [], ◌∷◌, ◌++◌, length, refl, arith}
use Rattle.outside.specs.declared.link.LinkOut.{LinkOut}
use Rattle.outside.specs.declared.link.LinkOut.TheVariants as out
use Rattle.wire_model.specs.CloseReasons.{code}
use Rattle.wire_model.specs.declared.close.CloseReason.{CloseReason}
use Rattle.role_model.specs.declared.metadata.Metadata.{Metadata}
use Rattle.machine.specs.State.{State, Event, Drain, ConnectionUnknown, Sent, Empty, Done}
use Rattle.history_lock.specs.PassViews.{PassView}
use Rattle.hub.specs.declared.event.Event.TheVariants as happening
use Rattle.subs_engine.specs.Calls.{Answer, plain, Call, call, MakesOne}
use Rattle.connection_server.specs.declared.end.End.{End}
use Rattle.connection_server.specs.declared.end.End.TheVariants as end
use Rattle.connection_server.specs.Talks.{LinkView, Talks}
use Rattle.connection_server.specs.Steps.{asks, close_of}
use Rattle.connection_server.specs.Parts.{CallEnds, SendEnds, Part, Stop, Drains, DrainsToEnd}
use Rattle.connection_server.proofs.Talking.{talks_nothing}
use Rattle.connection_server.proofs.Composing.{part_then, part_nothing, timeouts-append}

module _ (conn : ℕ) (p q : PassView Event Metadata) where
  -- a text left the queue, and was sent
  pub drains_sent : (k k' : LinkView) (text : List ℕ) → MakesOne p q (Drain conn) (plain (Sent text)) → Talks k k' [] (out.Text text ∷ []) → Drains conn p q k k' false
  drains_sent k k' text made talks = record {
    steps = call made.0 (Drain conn) (plain (Sent text)) ∷ [];
    part = record { did = made.1.did; talks = talks; on_it = (refl, tt); opened = tt; hears = tt; order = λ quiet h. ((λ e. absurd (cc), tt), λ e. absurd (cc)); drains = omega arith };
    untimed = refl;
  }

  -- the queue is empty
  pub drains_empty : (k : LinkView) → MakesOne p q (Drain conn) (plain Empty) → Drains conn p q k k true
  drains_empty k made = record {
    steps = call made.0 (Drain conn) (plain Empty) ∷ [];
    part = record { did = made.1.did; talks = talks_nothing k; on_it = (refl, tt); opened = tt; hears = tt; order = λ quiet h. ((λ e. absurd (cc), tt), λ e. refl); drains = omega arith };
    untimed = refl;
  }

  -- another pass made the connection gone
  pub drains_unknown : (k : LinkView) → MakesOne p q (Drain conn) (plain ConnectionUnknown) → Drains conn p q k k true
  drains_unknown k made = record {
    steps = call made.0 (Drain conn) (plain ConnectionUnknown) ∷ [];
    part = record { did = made.1.did; talks = talks_nothing k; on_it = (refl, tt); opened = tt; hears = tt; order = λ quiet h. ((λ e. absurd (cc), tt), λ e. refl); drains = omega arith };
    untimed = refl;
  }

  -- what the drain gave was not sent
  pub stops_unsent : (k k' : LinkView) (a : Answer) (o : LinkOut) (e : End) → asks (Drain conn) a.reply ≡ o ∷ [] → MakesOne p q (Drain conn) a → SendEnds k k' o (Err e) → Stop conn p q k k' false e
  stops_unsent k k' a o (end.Closed c) asked made s = absurd s
  stops_unsent k k' a o end.PeerClosed asked made s = absurd s
  stops_unsent k k' a o end.LinkFault asked made s = record {
    last = record { calls = call made.0 (Drain conn) a ∷ []; items = []; outs = [] };
    did = made.1.did;
    talks = s.0;
    few = omega arith;
    ends = (s.1, inr (record { answer = a; drained = (made.0, refl); asked = λ none. absurd (cc); no_out = refl; no_item = refl }));
  }
  stops_unsent k k' a o end.ConnKnown asked made s = absurd s
  stops_unsent k k' a o end.Spent asked made s = absurd s
  stops_unsent k k' a o end.NoMemory asked made s = record {
    last = record { calls = call made.0 (Drain conn) a ∷ []; items = []; outs = [] };
    did = made.1.did;
    talks = s;
    few = omega arith;
    ends = inr (inr (record { answer = a; drained = (made.0, refl); asked = λ none. absurd (cc); no_out = refl; no_item = refl }));
  }

  pub stops_text : (k k' : LinkView) (text : List ℕ) (e : End) → MakesOne p q (Drain conn) (plain (Sent text)) → SendEnds k k' (out.Text text) (Err e) → Stop conn p q k k' false e
  stops_text k k' text e made s = stops_unsent k k' (plain (Sent text)) (out.Text text) e refl made s

  pub stops_close : (k k' : LinkView) (why : CloseReason) (e : End) → MakesOne p q (Drain conn) (plain (Done why)) → SendEnds k k' (close_of why) (Err e) → Stop conn p q k k' false e
  stops_close k k' why e made s = stops_unsent k k' (plain (Done why)) (close_of why) e refl made s

  -- the connection was closed, and so was the link
  pub stops_closed : (k k' : LinkView) (why : CloseReason) (c : ℕ) → c ≡ code why → MakesOne p q (Drain conn) (plain (Done why)) → Talks k k' [] (close_of why ∷ []) → Stop conn p q k k' false (end.Closed c)
  stops_closed k k' why c is made talks = record {
    last = record { calls = call made.0 (Drain conn) (plain (Done why)) ∷ []; items = []; outs = close_of why ∷ [] };
    did = made.1.did;
    talks = talks;
    few = omega arith;
    ends = record { reason = why; drained = (made.0, refl); coded = cc; sent = refl; no_item = refl };
  }

  -- the turns were spent at a drain
  pub stops_drain : (k : LinkView) (e : End) → CallEnds (happening.Drain conn) p q e → Stop conn p q k k false e
  stops_drain k (end.Closed c) s = absurd s
  stops_drain k end.PeerClosed s = absurd s
  stops_drain k end.LinkFault s = absurd s
  stops_drain k end.ConnKnown s = absurd s
  stops_drain k end.Spent s = record {
    last = record { calls = []; items = []; outs = [] };
    did = s.did;
    talks = talks_nothing k;
    few = omega arith;
    ends = (s.whole, inl (refl, refl, refl));
  }
  stops_drain k end.NoMemory s = absurd s

pub drains_then : (conn : ℕ) (p q r : PassView Event Metadata) (k l m : LinkView) (ready : Bool) → Drains conn p q k l false → Drains conn q r l m ready → Drains conn p r k m ready
drains_then conn p q r k l m ready a b = record {
  steps = a.steps ++ b.steps;
  part = part_then conn p q r k l m false false ready a.steps b.steps [] [] a.part b.part;
  untimed = omega (arith, timeouts-append a.steps b.steps, a.untimed, b.untimed);
}

pub drains_nothing : (conn : ℕ) (p : PassView Event Metadata) (k : LinkView) → Drains conn p p k k false
drains_nothing conn p k = record { steps = []; part = part_nothing conn p k; untimed = refl }

pub drains_end : (conn : ℕ) (p q r : PassView Event Metadata) (k l m : LinkView) (e : End) → Drains conn p q k l false → Stop conn q r l m false e → DrainsToEnd conn p r k m e
drains_end conn p q r k l m e a s = record { pass = q; link = l; drains = a; stop = s }
