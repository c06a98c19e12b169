-- Which histories a hub stands for, and what an event does to it. This project's own.
use Rattle.std.specs.Prelude.{◌≡◌, ◌+◌, List, [], ◌∷◌, ◌++◌, length}
use Rattle.machine.specs.declared.queued.Queued.{Queued}
use Rattle.machine.specs.State.{Event, Reply, Close}
use Rattle.machine.specs.Run.{happens, run}
use Rattle.hub_model.specs.Kept.{Kept, Represents}

-- what is kept is enough for the state that the machine comes to by these events
pub record StandsFor (k : Kept) (h : List Event) : Type 0 where
  pub represents : Represents k (run k.meta h)
  pub events : k.events ≡ length h

-- after a history an event happened, with this reply, these queued texts and these closes, as the machine has it
pub record Happened (k k' : Kept) (h : List Event) (e : Event) (reply : Reply) (queued : List Queued) (closed : List Close) : Type 0 where
  pub stands : StandsFor k' (h ++ e ∷ [])
  pub step : happens k.meta (run k.meta h) e ≡
      record { state = run k.meta (h ++ e ∷ []); reply = reply; queued = queued; closed = closed }

-- the event happened after whatever history the hub stood for
pub record Does (k k' : Kept) (e : Event) (reply : Reply) (queued : List Queued) (closed : List Close) : Type 0 where
  pub meta : k'.meta ≡ k.meta
  pub events : k'.events ≡ k.events + 1
  pub happened : (h : List Event) → StandsFor k h → Happened k k' h e reply queued closed
