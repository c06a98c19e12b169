-- What the functions that serve a connection do, part by part. This project's own.
use Rattle.std.specs.Prelude.{
  ◌≡◌,
  ◌≢◌,
  ℕ,
  ◌+◌,
  ◌^◌,
  ◌≤◌,
  Bool,
  true,
  false,
  ◌||◌,
  Result,
  Ok,
  Err,
  List,
  [],
  ◌∷◌,
  ◌++◌,
  length,
}
use Rattle.std.specs.List.{AllByRecursion, AllZip}
use Rattle.outside.specs.declared.link.LinkIn.{LinkIn}
use Rattle.outside.specs.declared.link.LinkIn.TheVariants as answer
use Rattle.outside.specs.declared.link.LinkItem.{LinkItem}
use Rattle.outside.specs.declared.link.LinkItem.TheVariants as item
use Rattle.outside.specs.declared.link.LinkOut.{LinkOut}
use Rattle.outside.specs.Ends.{Rose}
use Rattle.role_model.specs.declared.metadata.Metadata.{Metadata}
use Rattle.machine.specs.State.{Event, Connect, ConnectionKnown}
use Rattle.history_lock.specs.PassViews.{PassView}
use Rattle.hub.specs.declared.event.Event.{Event as Happening}
use Rattle.hub.specs.declared.event.Event.TheVariants as happening
use Rattle.subs_engine.specs.Calls.{Answer, Call, Did, IsSpent}
use Rattle.subs_engine.specs.Faults.{Lacks}
use Rattle.subs_engine.specs.Polls.{IsOne}
use Rattle.connection_server.specs.declared.end.End.{End}
use Rattle.connection_server.specs.declared.end.End.TheVariants as end
use Rattle.connection_server.specs.Talks.{LinkView, Talks, Tells}
use Rattle.connection_server.specs.Steps.{
  messages,
  IsOpen,
  heard,
  quiets,
  timeouts,
  said,
  InOrder,
  quiet_after,
  IsStep,
  any_late,
  bit,
}
use Rattle.connection_server.specs.Sessions.{BringsCall, Last, EndsBy, IsGone, Refuses}

-- ---- single calls

-- an event of a connection, but its draining
abbrev pub IsOfConnection : Happening → Type 0
IsOfConnection (happening.Connect c) = Unit {0}
IsOfConnection (happening.Text c text) = Unit {0}
IsOfConnection (happening.Binary c) = Unit {0}
IsOfConnection (happening.Timeout c) = Unit {0}
IsOfConnection (happening.Gone c) = Unit {0}
IsOfConnection e = ⊥

-- a call of the engine for this event is answered no reply: all turns were taken, or memory was wanting, where it may be
abbrev pub CallEnds : Happening → PassView Event Metadata → PassView Event Metadata → End → Type 0
CallEnds e p q end.Spent = IsSpent p q
CallEnds e p q end.NoMemory = Lacks e p q
CallEnds e p q other = ⊥

-- a thing was sent, or the link failed, or memory was wanting
abbrev pub SendEnds : LinkView → LinkView → LinkOut → Result (Unit {0}) End → Type 0
SendEnds k k' out (Ok done) = Talks k k' [] (out ∷ [])
SendEnds k k' out (Err end.LinkFault) = Talks k k' [] [] × Rose k.faults k'.faults
SendEnds k k' out (Err end.NoMemory) = Talks k k' [] []
SendEnds k k' out (Err e) = ⊥

-- memory was wanting, and an item may be lost
pub record Loses (k k' : LinkView) : Type 0 where
  pub given : List LinkItem
  pub few : length given ≤ 1
  pub talks : Talks k k' given []

-- what a link gave by its answer
abbrev pub Receives : LinkView → LinkView → LinkIn → Type 0
Receives k k' (answer.Text text) = Talks k k' (item.Text text ∷ []) []
Receives k k' answer.Binary = Talks k k' (item.Binary ∷ []) []
Receives k k' answer.Idle = Talks k k' (item.Idle ∷ []) []
Receives k k' answer.PeerClosed = Talks k k' (item.PeerClosed ∷ []) []
Receives k k' answer.Failed = Talks k k' [] [] × Rose k.faults k'.faults
Receives k k' answer.NoMemory = Loses k k'

-- ---- parts

-- A part of serving. It begins ready to receive or not, and ends so: the last call then is a drain that found nothing,
-- and no item came after it.
pub record Part (conn : ℕ) (p q : PassView Event Metadata) (k k' : LinkView) (ready ready' : Bool) (steps : List Call)
    (taken : List LinkItem) : Type 0 where
  pub did : Did p q steps
  pub talks : Talks k k' taken (said steps)
  pub on_it : AllByRecursion (IsStep conn) steps
  pub opened : AllByRecursion IsOpen taken
  pub hears : AllZip (BringsCall conn) (messages taken) (heard steps)
  pub order : (quiet : Bool) → (ready ≡ true → quiet ≡ true) →
      InOrder quiet steps × (ready' ≡ true → quiet_after quiet steps ≡ true)
  pub drains : length taken + bit ready' ≤ quiets steps + bit ready

-- serving ends, from a moment on at which it was ready to receive or not
pub record Stop (conn : ℕ) (p q : PassView Event Metadata) (k k' : LinkView) (ready : Bool) (e : End) : Type 0 where
  pub last : Last
  pub did : Did p q last.calls
  pub talks : Talks k k' last.items last.outs
  pub few : length last.items ≤ bit ready
  pub ends : EndsBy conn (length q.seen) k.faults k'.faults ready e last

-- the clock gave these times, no fewer than there are items, and the one timeout was made where the first is late
pub record Timed (start : ℕ) (t t' : List ℕ → Type 0) (late late' : Bool) (steps : List Call) (taken : List LinkItem)
    (times : List ℕ) : Type 0 where
  pub tells : Tells t t' times
  pub often : length taken ≤ length times
  pub once : timeouts steps + bit late ≡ bit late'
  pub lates : late' ≡ (late || any_late start times)

-- at the end a timeout may be wanting where the turns were spent
abbrev pub LateAt : End → Bool → Bool → Type 0
LateAt end.Spent late now = late ≡ true → now ≡ true
LateAt e late now = late ≡ now

-- the clock's times at the end
pub record TimedStop (start : ℕ) (t t' : List ℕ → Type 0) (late : Bool) (e : End) (items : List LinkItem) (times : List ℕ)
    : Type 0 where
  pub tells : Tells t t' times
  pub often : length items ≤ length times
  pub lates : LateAt e late (late || any_late start times)

-- ---- what the functions do

-- drains, without an item or a timeout
pub record Drains (conn : ℕ) (p q : PassView Event Metadata) (k k' : LinkView) (ready : Bool) : Type 0 where
  pub steps : List Call
  pub part : Part conn p q k k' false ready steps []
  pub untimed : timeouts steps ≡ 0

-- drains, and then the end
pub record DrainsToEnd (conn : ℕ) (p q : PassView Event Metadata) (k k' : LinkView) (e : End) : Type 0 where
  pub pass : PassView Event Metadata
  pub link : LinkView
  pub drains : Drains conn p pass k link false
  pub stop : Stop conn pass q link k' false e

-- one drain: whether it found nothing
abbrev pub DrainsOnce : ℕ → PassView Event Metadata → PassView Event Metadata → LinkView → LinkView → Result Bool End → Type 0
DrainsOnce conn p q k k' (Ok ready) = Drains conn p q k k' ready
DrainsOnce conn p q k k' (Err e) = Stop conn p q k k' false e

-- drains until there is nothing
abbrev pub DrainsAll : ℕ → PassView Event Metadata → PassView Event Metadata → LinkView → LinkView → Result (Unit {0}) End
    → Type 0
DrainsAll conn p q k k' (Ok done) = Drains conn p q k k' true
DrainsAll conn p q k k' (Err e) = DrainsToEnd conn p q k k' e

-- one item, without a timeout
pub record Takes (conn : ℕ) (p q : PassView Event Metadata) (k k' : LinkView) : Type 0 where
  pub steps : List Call
  pub taken : List LinkItem
  pub part : Part conn p q k k' true false steps taken
  pub untimed : timeouts steps ≡ 0
  pub few : length taken ≤ 1

abbrev pub TakesOne : ℕ → PassView Event Metadata → PassView Event Metadata → LinkView → LinkView → Result (Unit {0}) End
    → Type 0
TakesOne conn p q k k' (Ok done) = Takes conn p q k k'
TakesOne conn p q k k' (Err e) = Stop conn p q k k' true e

-- serving with the clock, which goes on and has to drain
pub record Serves (conn start : ℕ) (p q : PassView Event Metadata) (k k' : LinkView) (t t' : List ℕ → Type 0)
    (late late' ready : Bool) : Type 0 where
  pub steps : List Call
  pub taken : List LinkItem
  pub times : List ℕ
  pub part : Part conn p q k k' ready false steps taken
  pub timed : Timed start t t' late late' steps taken times

-- the end, with the clock
pub record Ends (conn start : ℕ) (p q : PassView Event Metadata) (k k' : LinkView) (t t' : List ℕ → Type 0) (late ready : Bool)
    (e : End) : Type 0 where
  pub stop : Stop conn p q k k' ready e
  pub times : List ℕ
  pub timed : TimedStop start t t' late e stop.last.items times

-- a timeout or one item
abbrev pub TakesIn : (conn start : ℕ) → PassView Event Metadata → PassView Event Metadata → LinkView → LinkView
    → (List ℕ → Type 0) → (List ℕ → Type 0) → Bool → Bool → Result (Unit {0}) End → Type 0
TakesIn conn start p q k k' t t' late late' (Ok done) = Serves conn start p q k k' t t' late late' true
TakesIn conn start p q k k' t t' late late' (Err e) = (late' ≡ late) × Ends conn start p q k k' t t' late true e

-- serving from the start to the end
pub record Runs (conn start : ℕ) (p q : PassView Event Metadata) (k k' : LinkView) (t t' : List ℕ → Type 0) (e : End) : Type 0
  where
    pub pass : PassView Event Metadata
    pub link : LinkView
    pub ready : Bool
    pub steps : List Call
    pub taken : List LinkItem
    pub part : Part conn p pass k link false ready steps taken
    pub stop : Stop conn pass q link k' ready e
    pub times : List ℕ
    pub tells : Tells t t' times
    pub often : length taken + length stop.last.items ≤ length times
    pub late : Bool
    pub once : timeouts steps ≡ bit late
    pub lates : LateAt e late (any_late start times)

-- the connection is known now
pub record Opens (conn : ℕ) (p q : PassView Event Metadata) : Type 0 where
  pub opening : List Call
  pub did : Did p q opening
  pub answer : Answer
  pub connects : IsOne opening (Connect conn) answer
  pub fresh : answer.reply ≢ ConnectionKnown

-- or it isn't served
pub record Refusal (conn : ℕ) (p q : PassView Event Metadata) (e : End) : Type 0 where
  pub made : List Call
  pub did : Did p q made
  pub refuses : Refuses conn (length q.seen) e made

abbrev pub Connects : ℕ → PassView Event Metadata → PassView Event Metadata → Result (Unit {0}) End → Type 0
Connects conn p q (Ok done) = Opens conn p q
Connects conn p q (Err e) = Refusal conn p q e

-- the connection is gone
pub record Departs (conn : ℕ) (p q : PassView Event Metadata) : Type 0 where
  pub closing : List Call
  pub did : Did p q closing
  pub most : length q.seen ≤ 2 ^ 62
  pub gone : IsGone conn (length q.seen) closing
