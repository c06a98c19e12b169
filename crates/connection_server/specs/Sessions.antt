-- What serving a connection did, from its connect to its gone. This project's own.
use Rattle.std.specs.Prelude.{
  ◌≡◌,
  ◌≢◌,
  ℕ,
  ◌^◌,
  ◌<◌,
  ◌≤◌,
  ◌⊎◌,
  Bool,
  true,
  false,
  List,
  [],
  ◌∷◌,
  ◌++◌,
  length,
}
use Rattle.std.specs.List.{AllByRecursion, AllZip}
use Rattle.outside.specs.declared.link.LinkItem.{LinkItem}
use Rattle.outside.specs.declared.link.LinkItem.TheVariants as item
use Rattle.outside.specs.declared.link.LinkOut.{LinkOut}
use Rattle.outside.specs.Ends.{Rose}
use Rattle.wire_model.specs.CloseReasons.{code}
use Rattle.wire_model.specs.declared.close.CloseReason.{CloseReason}
use Rattle.role_model.specs.declared.metadata.Metadata.{Metadata}
use Rattle.machine.specs.Messages.{Message, Says}
use Rattle.machine.specs.State.{
  Event,
  Connect,
  Receive,
  Binary,
  Gone,
  Drain,
  Skip,
  ConnectionKnown,
  Done,
  Skipped,
}
use Rattle.history_lock.specs.PassViews.{PassView}
use Rattle.subs_engine.specs.Calls.{Answer, plain, Call, Did}
use Rattle.subs_engine.specs.Polls.{IsOne}
use Rattle.connection_server.specs.declared.end.End.{End}
use Rattle.connection_server.specs.declared.end.End.TheVariants as end
use Rattle.connection_server.specs.Talks.{LinkView, Talks, Tells}
use Rattle.connection_server.specs.Steps.{
  messages,
  IsOpen,
  heard,
  quiets,
  timeouts,
  close_of,
  asks,
  said,
  InOrder,
  quiet_after,
  IsStep,
  any_late,
  bit,
}

-- the event of a received item; that of a text is of a message that the text says
abbrev pub Brings : ℕ → LinkItem → Event → Type 0
Brings conn (item.Text text) e = (message : Message) × Says text message × (e ≡ Receive conn message)
Brings conn item.Binary e = e ≡ Binary conn
Brings conn item.Idle e = ⊥
Brings conn item.PeerClosed e = ⊥

abbrev pub BringsCall : ℕ → LinkItem → Call → Type 0
BringsCall conn i x = Brings conn i x.event

-- ---- how serving ends

-- a text
abbrev pub IsTextItem : LinkItem → Type 0
IsTextItem (item.Text text) = Unit {0}
IsTextItem i = ⊥

-- a text or a binary message
abbrev pub IsMessage : LinkItem → Type 0
IsMessage (item.Text text) = Unit {0}
IsMessage item.Binary = Unit {0}
IsMessage i = ⊥

-- At the end some calls come last, and are no steps; some items come last, and have no call; and some things are sent last.
pub record Last : Type 0 where
  pub calls : List Call
  pub items : List LinkItem
  pub outs : List LinkOut

-- the one call found no memory
abbrev pub IsSkip : List Call → Type 0
IsSkip calls = IsOne calls Skip (plain Skipped)

abbrev pub NoCall : Last → Type 0
NoCall last = last.calls ≡ []

abbrev pub NoItem : Last → Type 0
NoItem last = last.items ≡ []

abbrev pub NoOut : Last → Type 0
NoOut last = last.outs ≡ []

-- the last call is a drain that was answered Done, and the link was closed with its code and reason
pub record Closes (conn closed : ℕ) (last : Last) : Type 0 where
  pub reason : CloseReason
  pub drained : IsOne last.calls (Drain conn) (plain (Done reason))
  pub coded : code reason ≡ closed
  pub sent : last.outs ≡ close_of reason ∷ []
  pub no_item : NoItem last

-- the last call is a drain, and what its reply asks for was not sent
pub record Unsent (conn : ℕ) (last : Last) : Type 0 where
  pub answer : Answer
  pub drained : IsOne last.calls (Drain conn) answer
  pub asked : asks (Drain conn) answer.reply ≢ []
  pub no_out : NoOut last
  pub no_item : NoItem last

-- the last item is such a message, right after a drain that found nothing, and its call wasn't made
pub record Unheard (Such : LinkItem → Type 0) (quiet : Bool) (last : Last) : Type 0 where
  pub message : LinkItem
  pub such : Such message
  pub item_is : last.items ≡ message ∷ []
  pub after_quiet : quiet ≡ true
  pub no_out : NoOut last

-- receiving failed, right after a drain that found nothing, and at most so many items were lost
pub record NotReceived (most : ℕ) (quiet : Bool) (last : Last) : Type 0 where
  pub after_quiet : quiet ≡ true
  pub few : length last.items ≤ most
  pub no_call : NoCall last
  pub no_out : NoOut last

-- the peer closed, right after a drain that found nothing
pub record Leaves (quiet : Bool) (last : Last) : Type 0 where
  pub after_quiet : quiet ≡ true
  pub item_is : last.items ≡ item.PeerClosed ∷ []
  pub no_call : NoCall last
  pub no_out : NoOut last

-- nothing comes last
abbrev pub Nothing : Last → Type 0
Nothing last = NoCall last × NoItem last × NoOut last

-- How serving ends by each answer. `quiet` says whether the last step is a drain that found nothing, `turns` how many
-- entries were seen then, and the other two are the link's counts of faults before and then.
abbrev pub EndsBy : (conn turns faults faults' : ℕ) (quiet : Bool) → End → Last → Type 0
EndsBy conn turns faults faults' quiet (end.Closed code) last = Closes conn code last
EndsBy conn turns faults faults' quiet end.PeerClosed last = Leaves quiet last
EndsBy conn turns faults faults' quiet end.LinkFault last =
    Rose faults faults' × (NotReceived 0 quiet last ⊎ Unsent conn last)
EndsBy conn turns faults faults' quiet end.ConnKnown last = ⊥
EndsBy conn turns faults faults' quiet end.Spent last =
    (turns ≡ 2 ^ 62) × (Nothing last ⊎ (NoCall last × Unheard IsMessage quiet last))
EndsBy conn turns faults faults' quiet end.NoMemory last =
    NotReceived 1 quiet last ⊎ (((IsSkip last.calls ⊎ NoCall last) × Unheard IsTextItem quiet last) ⊎ Unsent conn last)

-- the one timeout is made where a time is late, unless the turns were spent
abbrev pub IsTimely : End → (made : ℕ) → (late : Bool) → Type 0
IsTimely end.Spent made late = made ≤ bit late
IsTimely e made late = made ≡ bit late

-- the connection is gone, or the turns were spent
abbrev pub IsGone : (conn turns : ℕ) → List Call → Type 0
IsGone conn turns calls = ((answer : Answer) × IsOne calls (Gone conn) answer) ⊎ ((calls ≡ []) × (turns ≡ 2 ^ 62))

-- ---- a whole call

-- the connection was known, or no connect was made
abbrev pub Refuses : (conn turns : ℕ) → End → List Call → Type 0
Refuses conn turns end.ConnKnown made = IsOne made (Connect conn) (plain ConnectionKnown)
Refuses conn turns end.Spent made = (made ≡ []) × (turns ≡ 2 ^ 62)
Refuses conn turns end.NoMemory made = IsSkip made
Refuses conn turns e made = ⊥

-- the connection was not served, and nothing was received or sent
pub record Refused (conn turns : ℕ) (e : End) (made : List Call) (given : List LinkItem) (outs : List LinkOut)
    (times : List ℕ) : Type 0 where
  pub refuses : Refuses conn turns e made
  pub no_item : given ≡ []
  pub no_out : outs ≡ []
  pub no_time : times ≡ []

-- The connection was served.
pub record Session (conn turns faults faults' : ℕ) (e : End) (made : List Call) (given : List LinkItem)
    (outs : List LinkOut) (times : List ℕ) : Type 0 where
  -- the calls: the connect, some steps, what comes last, and the gone
  pub opening : List Call
  pub steps : List Call
  pub last : Last
  pub closing : List Call
  pub calls : made ≡ opening ++ (steps ++ (last.calls ++ closing))
  pub answer : Answer
  pub connects : IsOne opening (Connect conn) answer
  pub fresh : answer.reply ≢ ConnectionKnown
  pub gone : IsGone conn turns closing
  -- the steps are on this connection: messages, timeouts, and drains not answered Done
  pub on_it : AllByRecursion (IsStep conn) steps
  -- each message that was received is a step, in order, right after a drain that found nothing
  pub taken : List LinkItem
  pub items : given ≡ taken ++ last.items
  pub opened : AllByRecursion IsOpen taken
  pub hears : AllZip (BringsCall conn) (messages taken) (heard steps)
  pub order : InOrder false steps
  -- there are as many drains that found nothing as items
  pub drains : length given ≤ quiets steps
  -- what the steps ask for was sent, in order
  pub sends : outs ≡ said steps ++ last.outs
  -- the clock gave the start and more, more times than there are items
  pub start : ℕ
  pub later : List ℕ
  pub asked : times ≡ start ∷ later
  pub often : length given < length times
  pub timely : IsTimely e (timeouts steps) (any_late start times)
  -- how it ends
  pub ends : EndsBy conn turns faults faults' (quiet_after false steps) e last

-- What a whole call did between two moments: its calls, the items that the link gave, what was sent, the clock's times.
pub record Served (conn : ℕ) (p q : PassView Event Metadata) (k k' : LinkView) (t t' : List ℕ → Type 0) (e : End) : Type 0
  where
    pub made : List Call
    pub given : List LinkItem
    pub outs : List LinkOut
    pub times : List ℕ
    pub did : Did p q made
    pub talks : Talks k k' given outs
    pub tells : Tells t t' times
    pub session : Refused conn (length q.seen) e made given outs times
        ⊎ Session conn (length q.seen) k.faults k'.faults e made given outs times
