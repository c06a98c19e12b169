-- Which works the server starts, and what each status means. This project's own.
use Rattle.std.specs.Prelude.{◌≡◌, ◌≢◌, ◌<◌, ◌≤◌, ◌+◌, ◌⊎◌, ℕ, zero, suc, Bool, true, false, Option, Some, None, Ok, Err, List, [], ◌∷◌, ◌++◌, length, replicate}
use Rattle.std.specs.List.{AllZip}
use Rattle.outside.specs.Ends.{Rose}
use Rattle.role_model.specs.declared.metadata.Metadata.{Metadata}
use Rattle.role_model.specs.declared.metadata.MetaFault.{MetaFault}
use Rattle.role_model.specs.MetadataMeaning.{metadata_of}
use Rattle.history_lock.specs.PassViews.{LockId}
use Rattle.serve_words.specs.declared.words.ServeWords.{ServeWords}
use Rattle.serve_words.specs.Words.{IsValid}
use Rattle.subs_server.specs.declared.task.Task.{Task}
use Rattle.subs_server.specs.declared.task.Task.TheVariants as task
use Rattle.subs_server.specs.declared.task.ServeWork.{ServeWork}

-- the most connections that are numbered
abbrev pub most_connections : ℕ
most_connections = 4294967295

-- the most bytes of metadata
abbrev pub metadata_limit : ℕ
metadata_limit = 1048576

-- ---- the works that are planned

-- a work that is to be started: a poll, with ticks or without, the commits from a listener, or a connection with its number
pub data Planned (N Q : Type 0) : Type 0 where
  Polls : (ticks : Bool) → Planned N Q
  TakesCommits : (from : Q) → Planned N Q
  Connects : (number : ℕ) (from : N) → Planned N Q

-- so many polls, the first alone with ticks
abbrev pub polls : {N Q : Type 0} → ℕ → List (Planned N Q)
polls zero = []
polls (suc n) = Polls true ∷ replicate n (Polls false)

abbrev pub connections : {N Q : Type 0} → (number : ℕ) → List N → List (Planned N Q)
connections number [] = []
connections number (c ∷ conns) = Connects number c ∷ connections (number + 1) conns

-- the works in their order, with this listener and for these connections
abbrev pub planned : {N Q : Type 0} → (workers : ℕ) → Q → List N → List (Planned N Q)
planned workers from conns = polls workers ++ TakesCommits from ∷ connections 1 conns

-- ---- what contracts see of a listener

-- the connections that are to come and the last port, where it tells them, and the count of its faults
pub record ListenerView (X : Type 0) : Type 0 where
  pub coming : Option (List X)
  pub last_port : Option (Option ℕ)
  pub faults : ℕ

abbrev pub listener_view : {X : Type 0} → Option (List X) → Option (Option ℕ) → ℕ → ListenerView X
listener_view coming last_port faults = record { coming = coming; last_port = last_port; faults = faults }

-- the listener began to listen on a port, and the same connections are to come
pub record ListensOn {X : Type 0} (l l' : ListenerView X) (port : ℕ) : Type 0 where
  pub told : (before : Option ℕ) → l.last_port ≡ Some before → l'.last_port ≡ Some (Some port)
  pub same : l'.coming ≡ l.coming

-- the listener gave these connections, in order, and listens on a port
pub record Gives {X : Type 0} (l l' : ListenerView X) (port : ℕ) (conns : List X) : Type 0 where
  pub told_port : (before : Option ℕ) → l.last_port ≡ Some before → l'.last_port ≡ Some (Some port)
  pub told : (all : List X) → l.coming ≡ Some all → (rest : List X) × (l'.coming ≡ Some rest) × (all ≡ conns ++ rest)

-- ---- what the source of metadata held

-- the bytes that it had left, to its end or past the limit, where it tells them
abbrev pub Held : Option (List ℕ) → Option (List ℕ) → List ℕ → Type 0
Held left left' text = (all : List ℕ) → left ≡ Some all → (rest : List ℕ) × (left' ≡ Some rest) × (all ≡ text ++ rest)
    × ((rest ≡ []) ⊎ (metadata_limit < length text))

-- what it held has a fault
pub record HasFault (left left' : Option (List ℕ)) : Type 0 where
  pub text : List ℕ
  pub held : Held left left' text
  pub fault : MetaFault
  pub refused : metadata_of text ≡ Err fault

-- ---- the works that were started

-- `lock` and `meta` are those of the one engine
module _ {N Q C G : Type 0} (lock : LockId) (meta : Metadata) (clock : C) (gate : G) where
  abbrev pub task_of : Planned N Q → Task N Q C G
  task_of (Polls ticks) = task.Poll ticks meta.refetch_ms clock gate
  task_of (TakesCommits from) = task.Commits from
  task_of (Connects number from) = task.Conn number from clock

  -- the work is as planned, and its pass is one of the engine
  pub record Fits (w : ServeWork N Q C G) (plan : Planned N Q) : Type 0 where
    pub lock_is : w.pass.lock ≡ lock
    pub meta_is : w.pass.basis ≡ meta
    pub task_is : w.task ≡ task_of plan

-- Both listeners listen, and these connections came. The works that were started are the first of those that are planned,
-- and the rest were not started.
module _ {N Q X C G : Type 0} (port_seen : Q → ListenerView X) where
  pub record Starts (asked : ServeWords) (meta : Metadata) (sockets sockets' : ListenerView N) (commits : Q) (clock : C)
      (gate : G) (works : List (ServeWork N Q C G)) (rest : List (Planned N Q)) (conns : List N) : Type 0 where
    pub gives : Gives sockets sockets' asked.port conns
    pub from : Q
    pub listens : ListensOn (port_seen commits) (port_seen from) asked.commit_port
    pub begun : List (Planned N Q)
    pub plan : begun ++ rest ≡ planned asked.workers from conns
    pub lock : LockId
    pub fit : AllZip (Fits lock meta clock gate) works begun

-- ---- statuses

abbrev pub AreValid : List (List ℕ) → Type 0
AreValid words = (asked : ServeWords) × IsValid words asked

-- no connection is left, or as many were numbered as there are numbers
abbrev pub IsAll : {X : Type 0} → ListenerView X → ListenerView X → List X → Type 0
IsAll {X} sockets sockets' conns =
    (length conns ≡ most_connections) ⊎ ((all : List X) → sockets.coming ≡ Some all → sockets'.coming ≡ Some [])

-- a listener that is still held has failed
abbrev pub LeftFailed : {Q : Type 0} → (Q → ℕ) → Option Q → Option Q → Type 0
LeftFailed faults (Some before) (Some now) = Rose (faults before) (faults now)
LeftFailed faults before now = ⊥

-- Some works were started, or all: what the words ask for, of the metadata that the source held. At status 0 it is all of
-- them, for all connections.
pub record StartsSome {N Q X C G : Type 0} (port_seen : Q → ListenerView X) (words : List (List ℕ))
    (left left' : Option (List ℕ)) (sockets sockets' : ListenerView N) (commits : Q) (clock : C) (gate : G) (status : ℕ)
    (works : List (ServeWork N Q C G)) : Type 0 where
  pub asked : ServeWords
  pub asked_for : (other : ServeWords) → IsValid words other → other ≡ asked
  pub text : List ℕ
  pub held : Held left left' text
  pub meta : Metadata
  pub read : metadata_of text ≡ Ok meta
  pub rest : List (Planned N Q)
  pub conns : List N
  pub starts : Starts port_seen asked meta sockets sockets' commits clock gate works rest conns
  pub all : status ≡ 0 → (rest ≡ []) × IsAll sockets sockets' conns

-- the works that were started, in order, where the spawner tells them
abbrev pub Told : {W : Type 0} → Option (List W) → Option (List W) → List W → Type 0
Told {W} started started' works = (before : List W) → started ≡ Some before → started' ≡ Some (before ++ works)

-- which works were started between two moments
pub record StartsWorks {N Q X C G : Type 0} (port_seen : Q → ListenerView X) (words : List (List ℕ))
    (left left' : Option (List ℕ)) (sockets sockets' : ListenerView N) (commits : Q) (clock : C) (gate : G)
    (started started' : Option (List (ServeWork N Q C G))) (status : ℕ) : Type 0 where
  pub works : List (ServeWork N Q C G)
  pub told : Told started started' works
  pub are : ((works ≡ []) × (status ≢ 0))
      ⊎ StartsSome port_seen words left left' sockets sockets' commits clock gate status works

-- the same where there is a listener for the commits, as there has to be
abbrev pub IfPort : {Q : Type 0} → Option Q → (Q → Type 0) → Type 0
IfPort None P = Unit {0}
IfPort (Some commits) P = P commits

-- the statuses that there are
abbrev pub IsStatus : ℕ → Type 0
IsStatus status = (status ≤ 7) × (status ≢ 3)
