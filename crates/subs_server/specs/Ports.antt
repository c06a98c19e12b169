-- What serving the connections of the commit port does. This project's own.
use Rattle.std.specs.Prelude.{◌≡◌, ◌≢◌, ℕ, ◌^◌, ◌≤◌, ◌⊎◌, Option, Some, None, Result, Ok, Err, List, [], ◌∷◌, ◌++◌, length, map}
use Rattle.std.specs.List.{AllByRecursion, flat_map}
use Rattle.outside.specs.Ends.{Rose}
use Rattle.outside.specs.Openings.{Tells}
use Rattle.role_model.specs.declared.metadata.Metadata.{Metadata}
use Rattle.machine.specs.State.{Event}
use Rattle.history_lock.specs.PassViews.{PassView}
use Rattle.subs_engine.specs.Calls.{Call, Did}
use Rattle.commit_server.specs.declared.end.CommitEnd.{CommitEnd}
use Rattle.commit_server.specs.declared.end.CommitEnd.TheVariants as ended
use Rattle.commit_server.specs.Answers.{calls_of}
use Rattle.commit_server.specs.Commits.{SourceView, SinkView, Commits}
use Rattle.subs_server.specs.declared.task.PortEnd.{PortEnd}
use Rattle.subs_server.specs.declared.task.PortEnd.TheVariants as port

-- what became of a connection: it couldn't be split, or found no memory for that, or was served to an end
pub data Handled : Type 0 where
  NotSplit : Handled
  NoParts : Handled
  ServedTo : (end : CommitEnd) → Handled

-- a connection that was taken, the calls that were made for it, and the pass before them and then
pub record Taken (X : Type 0) : Type 0 where
  pub conn : X
  pub before : PassView Event Metadata
  pub after : PassView Event Metadata
  pub calls : List Call
  pub handled : Handled

abbrev pub conn_of : {X : Type 0} → Taken X → X
conn_of t = t.conn

abbrev pub calls_by : {X : Type 0} → Taken X → List Call
calls_by t = t.calls

-- the next connection may be taken
abbrev pub MayGoOn : Handled → Type 0
MayGoOn NotSplit = Unit {0}
MayGoOn NoParts = ⊥
MayGoOn (ServedTo ended.Spent) = ⊥
MayGoOn (ServedTo ended.NoMemory) = ⊥
MayGoOn (ServedTo e) = Unit {0}

abbrev pub GoesOn : {X : Type 0} → Taken X → Type 0
GoesOn t = MayGoOn t.handled

-- how serving the port ends, by the last connection, if it is by one
abbrev pub EndsBy : {X : Type 0} → (turns : ℕ) → (coming coming' : Option (List X)) → (faults faults' : ℕ) → PortEnd
    → List (Taken X) → Type 0
EndsBy {X} turns coming coming' faults faults' port.Ended last =
    (last ≡ []) × ((conns : List X) → coming ≡ Some conns → coming' ≡ Some [])
EndsBy turns coming coming' faults faults' port.Fault last = (last ≡ []) × Rose faults faults'
EndsBy {X} turns coming coming' faults faults' port.Spent last =
    (t : Taken X) × (last ≡ t ∷ []) × (t.handled ≡ ServedTo ended.Spent) × (turns ≡ 2 ^ 62)
EndsBy {X} turns coming coming' faults faults' port.NoMemory last =
    (t : Taken X) × (last ≡ t ∷ []) × ((t.handled ≡ NoParts) ⊎ (t.handled ≡ ServedTo ended.NoMemory))

-- of a connection: the bytes that come and that were written, where it tells them, and whether it tells that it never
-- fails
module _ {X : Type 0} (left written : X → Option (List ℕ)) (never_fails : X → Type 0) where
  -- the connection was split into parts that tell the same, and was served over them
  pub record Serves (t : Taken X) (e : CommitEnd) : Type 0 where
    pub source : SourceView
    pub source' : SourceView
    pub sink : SinkView
    pub sink' : SinkView
    pub tells_left : Tells (left t.conn) source.left
    pub tells_written : Tells (written t.conn) sink.written
    pub commits : Commits t.before t.after source source' sink sink' e
    pub calls : t.calls ≡ calls_of commits.answered ++ commits.over.calls
    pub steady : never_fails t.conn → (e ≢ ended.SourceFault) × (e ≢ ended.SinkFault)

  abbrev pub IsHandledBy : Taken X → Handled → Type 0
  IsHandledBy t NotSplit = (t.calls ≡ []) × (left t.conn ≡ None) × (written t.conn ≡ None)
  IsHandledBy t NoParts = t.calls ≡ []
  IsHandledBy t (ServedTo e) = Serves t e

  abbrev pub IsHandled : Taken X → Type 0
  IsHandled t = IsHandledBy t t.handled

  -- What serving the port did between two moments: it took connections, in order, and the calls are those for each.
  pub record ServesPort (coming coming' : Option (List X)) (faults faults' : ℕ) (p q : PassView Event Metadata) (e : PortEnd)
      : Type 0 where
    pub front : List (Taken X)
    pub last : List (Taken X)
    pub conns : (all : List X) → coming ≡ Some all → (rest : List X) × (coming' ≡ Some rest)
        × (all ≡ map conn_of (front ++ last) ++ rest)
    pub did : Did p q (flat_map calls_by (front ++ last))
    pub each : AllByRecursion IsHandled (front ++ last)
    pub goes_on : AllByRecursion GoesOn front
    pub ends : EndsBy (length q.seen) coming coming' faults faults' e last

  -- what serving one connection did: the next one may be taken, or not
  pub record TakesOn (conn : X) (p q : PassView Event Metadata) : Type 0 where
    pub taken : Taken X
    pub conn_is : taken.conn ≡ conn
    pub before : taken.before ≡ p
    pub after : taken.after ≡ q
    pub did : Did p q taken.calls
    pub handled : IsHandled taken
    pub goes_on : GoesOn taken

  -- the port's end comes by this connection
  abbrev pub IsEndBy : (turns : ℕ) → Handled → PortEnd → Type 0
  IsEndBy turns h port.Ended = ⊥
  IsEndBy turns h port.Fault = ⊥
  IsEndBy turns h port.Spent = (h ≡ ServedTo ended.Spent) × (turns ≡ 2 ^ 62)
  IsEndBy turns h port.NoMemory = (h ≡ NoParts) ⊎ (h ≡ ServedTo ended.NoMemory)

  pub record TakesLast (conn : X) (p q : PassView Event Metadata) (e : PortEnd) : Type 0 where
    pub taken : Taken X
    pub conn_is : taken.conn ≡ conn
    pub did : Did p q taken.calls
    pub handled : IsHandled taken
    pub ends : IsEndBy (length q.seen) taken.handled e

  abbrev pub TakesConn : X → PassView Event Metadata → PassView Event Metadata → Result (Unit {0}) PortEnd → Type 0
  TakesConn conn p q (Ok done) = TakesOn conn p q
  TakesConn conn p q (Err e) = TakesLast conn p q e

  -- connections were taken, after each of which the next one may be taken
  pub record ServesSome (coming coming' : Option (List X)) (faults faults' : ℕ) (p q : PassView Event Metadata) : Type 0 where
    pub front : List (Taken X)
    pub conns : (all : List X) → coming ≡ Some all → (rest : List X) × (coming' ≡ Some rest) × (all ≡ map conn_of front ++ rest)
    pub did : Did p q (flat_map calls_by front)
    pub each : AllByRecursion IsHandled front
    pub goes_on : AllByRecursion GoesOn front
    pub later : faults ≤ faults'
