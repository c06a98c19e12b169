-- Parts of serving, one after the other.
use Rattle.std.proofs.Common.{◌≡◌, ℕ, ◌+◌, ◌≤◌, Bool, true, false, ◌||◌, List, [], ◌∷◌, ◌++◌, length, refl, sym, ap, ◌∙◌, subst, arith, length-append}
use Rattle.std.proofs.lemmas.List.Elements.{filter-append}
use Rattle.std.proofs.lemmas.List.Folds.{list_any-append}
use Rattle.std.proofs.lemmas.Grind.{flat_map-append}
use Rattle.std.specs.List.{AllZip}
use Rattle.outside.specs.declared.link.LinkItem.{LinkItem}
use Rattle.outside.specs.declared.link.LinkOut.{LinkOut}
use Rattle.role_model.specs.declared.metadata.Metadata.{Metadata}
use Rattle.machine.specs.State.{Event}
use Rattle.history_lock.specs.PassViews.{PassView}
use Rattle.subs_engine.specs.Calls.{Call, Did}
use Rattle.subs_engine.proofs.Owns.{did_nothing, did_then}
use Rattle.connection_server.specs.declared.end.End.{End}
use Rattle.connection_server.specs.declared.end.End.TheVariants as end
use Rattle.connection_server.specs.Talks.{LinkView, Talks, Tells}
use Rattle.connection_server.specs.Steps.{messages, is_message, IsOpen, heard, is_message_call, quiets, is_quiet, timeouts, is_timeout, said, asked_by, InOrder, quiet_after, IsStep, is_late, any_late, bit}
use Rattle.connection_server.specs.Sessions.{BringsCall}
use Rattle.connection_server.specs.Parts.{Part, Timed, LateAt}
use Rattle.connection_server.proofs.Folds.{all_append, count-append, zip_append, order-append, quiet-append}
use Rattle.connection_server.proofs.Talking.{talks_then, talks_nothing, tells_then}

pub timeouts-append : (xs ys : List Call) → timeouts (xs ++ ys) ≡ timeouts xs + timeouts ys
timeouts-append xs ys = count-append is_timeout xs ys

pub quiets-append : (xs ys : List Call) → quiets (xs ++ ys) ≡ quiets xs + quiets ys
quiets-append xs ys = count-append is_quiet xs ys

pub said-append : (xs ys : List Call) → said (xs ++ ys) ≡ said xs ++ said ys
said-append xs ys = flat_map-append asked_by xs ys

late-append : (start : ℕ) (xs ys : List ℕ) → any_late start (xs ++ ys) ≡ (any_late start xs || any_late start ys)
late-append start xs ys = list_any-append (is_late start) xs ys

hears_then : (conn : ℕ) (gs hs : List LinkItem) (xs ys : List Call) → AllZip (BringsCall conn) (messages gs) (heard xs) → AllZip (BringsCall conn) (messages hs) (heard ys) → AllZip (BringsCall conn) (messages (gs ++ hs)) (heard (xs ++ ys))
hears_then conn gs hs xs ys a b =
    subst (λ (z : List LinkItem). AllZip (BringsCall conn) z (heard (xs ++ ys))) (sym (filter-append is_message gs hs))
    (subst (λ (z : List Call). AllZip (BringsCall conn) (messages gs ++ messages hs) z) (sym (filter-append is_message_call xs ys))
    (zip_append (BringsCall conn) (messages gs) (messages hs) (heard xs) (heard ys) a b))

pub part_then : (conn : ℕ) (p q r : PassView Event Metadata) (k l m : LinkView) (ready then last : Bool) (xs ys : List Call) (gs hs : List LinkItem)
    → Part conn p q k l ready then xs gs → Part conn q r l m then last ys hs → Part conn p r k m ready last (xs ++ ys) (gs ++ hs)
part_then conn p q r k l m ready then last xs ys gs hs a b = record {
  did = did_then p q r xs ys a.did b.did;
  talks = subst (λ (z : List LinkOut). Talks k m (gs ++ hs) z) (sym (said-append xs ys)) (talks_then k l m gs hs (said xs) (said ys) a.talks b.talks);
  on_it = all_append (IsStep conn) xs ys a.on_it b.on_it;
  opened = all_append IsOpen gs hs a.opened b.opened;
  hears = hears_then conn gs hs xs ys a.hears b.hears;
  order = λ quiet h. let one = a.order quiet h in let two = b.order (quiet_after quiet xs) one.1 in
      (order-append quiet xs ys one.0 two.0, λ e. quiet-append quiet xs ys ∙ two.1 e);
  drains = omega (arith, length-append gs hs, quiets-append xs ys, a.drains, b.drains);
}

pub part_nothing : (conn : ℕ) (p : PassView Event Metadata) (k : LinkView) → Part conn p p k k false false [] []
part_nothing conn p k = record {
  did = did_nothing p;
  talks = talks_nothing k;
  on_it = tt;
  opened = tt;
  hears = tt;
  order = λ quiet h. (tt, λ e. absurd (cc));
  drains = omega arith;
}

or_assoc : (a b c : Bool) → ((a || b) || c) ≡ (a || (b || c))
or_assoc true b c = refl
or_assoc false b c = refl

-- whether a time was late, by two lists of them
late_by : (start : ℕ) (late then : Bool) (xs ys : List ℕ) → then ≡ (late || any_late start xs) → (then || any_late start ys) ≡ (late || any_late start (xs ++ ys))
late_by start late then xs ys e =
    ap (λ (b : Bool). b || any_late start ys) e ∙ or_assoc late (any_late start xs) (any_late start ys) ∙ ap (λ (b : Bool). late || b) (sym (late-append start xs ys))

pub timed_then : (start : ℕ) (s t u : List ℕ → Type 0) (late then now : Bool) (xs ys : List Call) (gs hs : List LinkItem) (times more : List ℕ)
    → Timed start s t late then xs gs times → Timed start t u then now ys hs more → Timed start s u late now (xs ++ ys) (gs ++ hs) (times ++ more)
timed_then start s t u late then now xs ys gs hs times more a b = record {
  tells = tells_then s t u times more a.tells b.tells;
  often = omega (arith, length-append gs hs, length-append times more, a.often, b.often);
  once = omega (arith, timeouts-append xs ys, a.once, b.once);
  lates = b.lates ∙ late_by start late then times more a.lates;
}

pub late_at_then : (e : End) (start : ℕ) (late then : Bool) (xs ys : List ℕ) → then ≡ (late || any_late start xs) → LateAt e then (then || any_late start ys) → LateAt e then (late || any_late start (xs ++ ys))
late_at_then e start late then xs ys is l = subst (LateAt e then) (late_by start late then xs ys is) l
