-- How the server's works are started, part by part. This project's own.
use Rattle.std.specs.Prelude.{◌≡◌, ◌≤◌, ◌⊎◌, ℕ, Option, Some, None, Result, Ok, Err, List, [], ◌∷◌, ◌++◌, length}
use Rattle.std.specs.List.{AllZip}
use Rattle.outside.specs.Ends.{Rose}
use Rattle.role_model.specs.declared.metadata.Metadata.{Metadata}
use Rattle.machine.specs.State.{Event}
use Rattle.history_lock.specs.PassViews.{LockId, PassView}
use Rattle.serve_words.specs.declared.words.ServeWords.{ServeWords}
use Rattle.subs_server.specs.declared.task.Task.{Task}
use Rattle.subs_server.specs.declared.task.ServeWork.{ServeWork}
use Rattle.subs_server.specs.declared.start.StartEnd.{StartEnd}
use Rattle.subs_server.specs.declared.start.StartEnd.TheVariants as end
use Rattle.subs_server.specs.Mains.{Planned, polls, connections, planned, ListenerView, ListensOn, Fits, Starts, Told, IsAll, LeftFailed}

-- ---- both listeners

-- both listeners listen, or one of them failed, and then no work was started
abbrev pub Listening : {N Q X : Type 0} → (Q → ListenerView X) → ServeWords → ListenerView N → ListenerView N → Option Q
    → Option Q → Result Q StartEnd → Type 0
Listening port_seen asked sockets sockets' None commits' r = ⊥
Listening port_seen asked sockets sockets' (Some commits) commits' (Ok from) =
    ListensOn sockets sockets' asked.port × ListensOn (port_seen commits) (port_seen from) asked.commit_port
Listening port_seen asked sockets sockets' (Some commits) commits' (Err end.ListenFault) =
    Rose sockets.faults sockets'.faults ⊎ LeftFailed (λ from. (port_seen from).faults) (Some commits) commits'
Listening port_seen asked sockets sockets' (Some commits) commits' (Err e) = ⊥

-- ---- single works

-- the work has this task, and a pass of the same engine
pub record IsWorkOf {N Q C G : Type 0} (p : PassView Event Metadata) (t : Task N Q C G) (w : ServeWork N Q C G) : Type 0
  where
    pub lock_is : w.pass.lock ≡ p.lock
    pub meta_is : w.pass.basis ≡ p.basis
    pub task_is : w.task ≡ t

-- one work was started
pub record StartsOne {N Q C G : Type 0} (started started' : Option (List (ServeWork N Q C G))) (p : PassView Event Metadata)
    (t : Task N Q C G) : Type 0 where
  pub work : ServeWork N Q C G
  pub is_work : IsWorkOf p t work
  pub told : Told started started' (work ∷ [])

-- or none, for want of memory or since the spawner failed
abbrev pub StartsNone : {W : Type 0} → Option (List W) → Option (List W) → (faults faults' : ℕ) → StartEnd → Type 0
StartsNone started started' faults faults' end.NoMemory = Told started started' []
StartsNone started started' faults faults' end.ListenFault = ⊥
StartsNone started started' faults faults' end.SpawnFault = Told started started' [] × Rose faults faults'

abbrev pub StartsTask : {N Q C G : Type 0} → Option (List (ServeWork N Q C G)) → Option (List (ServeWork N Q C G))
    → (faults faults' : ℕ) → PassView Event Metadata → Task N Q C G → Result (Unit {0}) StartEnd → Type 0
StartsTask started started' faults faults' p t (Ok done) = StartsOne started started' p t
StartsTask started started' faults faults' p t (Err e) = StartsNone started started' faults faults' e

-- ---- works as they are planned

module _ {N Q C G : Type 0} (p : PassView Event Metadata) (clock : C) (gate : G)
    (started started' : Option (List (ServeWork N Q C G))) where
  -- these works were started
  pub record Begins (plans : List (Planned N Q)) : Type 0 where
    pub works : List (ServeWork N Q C G)
    pub told : Told started started' works
    pub fit : AllZip (Fits p.lock p.basis clock gate) works plans

  -- the first of these works were started
  pub record BeginsPart (plans : List (Planned N Q)) : Type 0 where
    pub begun : List (Planned N Q)
    pub rest : List (Planned N Q)
    pub whole : begun ++ rest ≡ plans
    pub begins : Begins begun

  -- the polls were started, or the first of them
  abbrev pub BeginsPolls : (workers : ℕ) → (faults faults' : ℕ) → Result (Unit {0}) StartEnd → Type 0
  BeginsPolls workers faults faults' (Ok done) = Begins (polls workers)
  BeginsPolls workers faults faults' (Err end.NoMemory) = BeginsPart (polls workers)
  BeginsPolls workers faults faults' (Err end.ListenFault) = ⊥
  BeginsPolls workers faults faults' (Err end.SpawnFault) = BeginsPart (polls workers) × Rose faults faults'

-- a listener gave these connections, in order
pub record Gave {N : Type 0} (sockets sockets' : ListenerView N) (conns : List N) : Type 0 where
  pub told : (all : List N) → sockets.coming ≡ Some all → (rest : List N) × (sockets'.coming ≡ Some rest) × (all ≡ conns ++ rest)
  pub port : sockets'.last_port ≡ sockets.last_port
  pub later : sockets.faults ≤ sockets'.faults

-- no work was started for one of the connections
abbrev pub IsCaused : (sockets_faults sockets_faults' faults faults' : ℕ) → StartEnd → Type 0
IsCaused sockets_faults sockets_faults' faults faults' end.NoMemory = Unit {0}
IsCaused sockets_faults sockets_faults' faults faults' end.ListenFault = Rose sockets_faults sockets_faults'
IsCaused sockets_faults sockets_faults' faults faults' end.SpawnFault = Rose faults faults'

module _ {N Q C G : Type 0} (p : PassView Event Metadata) (clock : C) (gate : G)
    (sockets sockets' : ListenerView N) (started started' : Option (List (ServeWork N Q C G))) where
  -- connections came, and for each of them a work was started
  pub record ServesSome (conns : List N) : Type 0 where
    pub gave : Gave sockets sockets' conns
    pub begins : Begins p clock gate started started' (connections 1 conns)

  -- the same for so many
  pub record ServesCounted (count : ℕ) : Type 0 where
    pub conns : List N
    pub serves : ServesSome conns
    pub counted : length conns ≡ count

  -- until there was none
  pub record ServesAll : Type 0 where
    pub conns : List N
    pub serves : ServesSome conns
    pub all : IsAll sockets sockets' conns

  -- until an end
  pub record ServesPart (faults faults' : ℕ) (e : StartEnd) : Type 0 where
    pub conns : List N
    pub gave : Gave sockets sockets' conns
    pub part : BeginsPart p clock gate started started' (connections 1 conns)
    pub caused : IsCaused sockets.faults sockets'.faults faults faults' e

  abbrev pub ServesConns : (faults faults' : ℕ) → Result (Unit {0}) StartEnd → Type 0
  ServesConns faults faults' (Ok done) = ServesAll
  ServesConns faults faults' (Err e) = ServesPart faults faults' e

-- ---- all works

-- no work was started
abbrev pub IsNone : {W : Type 0} → Result (Unit {0}) StartEnd → List W → Type 0
IsNone (Ok done) works = ⊥
IsNone (Err e) works = works ≡ []

-- all works were started, for all connections
abbrev pub IsWhole : {N Q : Type 0} → Result (Unit {0}) StartEnd → List (Planned N Q) → ListenerView N → ListenerView N
    → List N → Type 0
IsWhole (Ok done) rest sockets sockets' conns = (rest ≡ []) × IsAll sockets sockets' conns
IsWhole (Err e) rest sockets sockets' conns = Unit {0}

-- which fault rose, where a fault is the end
abbrev pub IsCausedBy : (sockets_faults sockets_faults' faults faults' : ℕ) → Result (Unit {0}) StartEnd → Type 0
IsCausedBy sockets_faults sockets_faults' faults faults' (Ok done) = Unit {0}
IsCausedBy sockets_faults sockets_faults' faults faults' (Err e) =
    IsCaused sockets_faults sockets_faults' faults faults' e

module _ {N Q C G : Type 0} (workers : ℕ) (from : Q) (meta : Metadata) (clock : C) (gate : G)
    (sockets sockets' : ListenerView N) where
  -- these works were started, the first of those that are planned, over one engine
  pub record ArePlanned (r : Result (Unit {0}) StartEnd) (works : List (ServeWork N Q C G)) : Type 0 where
    pub conns : List N
    pub gave : Gave sockets sockets' conns
    pub begun : List (Planned N Q)
    pub rest : List (Planned N Q)
    pub plan : begun ++ rest ≡ planned workers from conns
    pub lock : LockId
    pub fit : AllZip (Fits lock meta clock gate) works begun
    pub whole : IsWhole r rest sockets sockets' conns

  pub record WorksFrom (started started' : Option (List (ServeWork N Q C G))) (faults faults' : ℕ)
      (r : Result (Unit {0}) StartEnd) : Type 0 where
    pub works : List (ServeWork N Q C G)
    pub told : Told started started' works
    pub are : IsNone r works ⊎ ArePlanned r works
    pub caused : IsCausedBy sockets.faults sockets'.faults faults faults' r

-- a listener or the spawner failed
abbrev pub HasCause : {Q : Type 0} → (faults_of : Q → ℕ) → Option Q → Option Q
    → (sockets_faults sockets_faults' faults faults' : ℕ) → Result (Unit {0}) StartEnd → Type 0
HasCause faults_of commits commits' sockets_faults sockets_faults' faults faults' (Ok done) = Unit {0}
HasCause faults_of commits commits' sockets_faults sockets_faults' faults faults' (Err end.NoMemory) = Unit {0}
HasCause faults_of commits commits' sockets_faults sockets_faults' faults faults' (Err end.ListenFault) =
    Rose sockets_faults sockets_faults' ⊎ LeftFailed faults_of commits commits'
HasCause faults_of commits commits' sockets_faults sockets_faults' faults faults' (Err end.SpawnFault) =
    Rose faults faults'

module _ {N Q X C G : Type 0} (port_seen : Q → ListenerView X) (asked : ServeWords) (meta : Metadata)
    (sockets sockets' : ListenerView N) (commits : Q) (clock : C) (gate : G)
    (started started' : Option (List (ServeWork N Q C G))) where
  -- the works that were started are the first of those that are planned
  pub record StartsPlanned (r : Result (Unit {0}) StartEnd) (works : List (ServeWork N Q C G)) : Type 0 where
    pub rest : List (Planned N Q)
    pub conns : List N
    pub starts : Starts port_seen asked meta sockets sockets' commits clock gate works rest conns
    pub whole : IsWhole r rest sockets sockets' conns

  pub record StartsAs (r : Result (Unit {0}) StartEnd) : Type 0 where
    pub works : List (ServeWork N Q C G)
    pub told : Told started started' works
    pub are : IsNone r works ⊎ StartsPlanned r works
