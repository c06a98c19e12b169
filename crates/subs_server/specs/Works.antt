-- Which answers suit a work. This project's own.
use Rattle.std.specs.Prelude.{◌≡◌, ℕ, Bool, None, Result, List}
use Rattle.role_model.specs.declared.metadata.Metadata.{Metadata}
use Rattle.machine.specs.State.{Event}
use Rattle.history_lock.specs.PassViews.{PassView}
use Rattle.subs_engine.specs.declared.engine.TakeFault.{TakeFault}
use Rattle.connection_server.specs.Talks.{LinkView}
use Rattle.connection_server.specs.Sessions.{Served}
use Rattle.polling_worker.specs.Works.{Works}
use Rattle.subs_server.specs.declared.task.PortEnd.{PortEnd}
use Rattle.subs_server.specs.declared.task.Task.{Task}
use Rattle.subs_server.specs.declared.task.Task.TheVariants as task
use Rattle.subs_server.specs.declared.task.TaskEnd.{TaskEnd}
use Rattle.subs_server.specs.declared.task.TaskEnd.TheVariants as ended

-- what a worker did with a counter of its own
pub record WorksAlone {S : Type 0} (ticks : Bool) (refetch : ℕ) (p q : PassView Event Metadata) (t t' : List ℕ → Type 0)
    (result : Result S TakeFault) : Type 0 where
  pub steps : ℕ
  pub works : Works ticks refetch p q t t' 0 steps result

-- a connection tells nothing, and so may be refused
abbrev pub IsUntold : {N : Type 0} → (N → LinkView) → N → Type 0
IsUntold conn_seen from = ((conn_seen from).coming ≡ None) × ((conn_seen from).sent ≡ None)

-- of connections, links and clocks: what contracts see of them
module _ {N C K : Type 0} (conn_seen : N → LinkView) (link_seen : K → LinkView) (tells : C → List ℕ → Type 0) where
  -- Between the two passes a connection was served, over the link that it opened as; or it didn't open.
  abbrev pub ConnSuits : {Q S : Type 0} → (conn : ℕ) → N → C → PassView Event Metadata → PassView Event Metadata
      → TaskEnd K Q C S → Type 0
  ConnSuits conn from clock p q (ended.Conn link clock' end) =
      Served conn p q (conn_seen from) (link_seen link) (tells clock) (tells clock') end
  ConnSuits conn from clock p q ended.Shut = (q ≡ p) × IsUntold conn_seen from
  ConnSuits conn from clock p q ended.NoMemory = q ≡ p
  ConnSuits conn from clock p q e = ⊥

  -- The answer is of the task's kind; between the two passes the task was done, with the connection, the listener and
  -- the clock, as they are left.
  abbrev pub Suits : {Q G S : Type 0}
      → (ServesFrom : Q → Q → PassView Event Metadata → PassView Event Metadata → PortEnd → Type 0)
      → PassView Event Metadata → PassView Event Metadata → Task N Q C G → TaskEnd K Q C S → Type 0
  Suits ServesFrom p q (task.Conn conn from clock) e = ConnSuits conn from clock p q e
  Suits ServesFrom p q (task.Commits from) (ended.Commits from' end) = ServesFrom from from' p q end
  Suits ServesFrom p q (task.Poll ticks refetch clock gate) (ended.Poll clock' end) =
      WorksAlone ticks refetch p q (tells clock) (tells clock') end
  Suits ServesFrom p q t e = ⊥
