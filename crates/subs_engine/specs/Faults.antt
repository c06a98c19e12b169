-- What the faults of the engine's calls say. This project's own.
use Rattle.std.specs.Prelude.{◌≡◌, ◌⊎◌}
use Rattle.history_lock.specs.PassViews.{PassView}
use Rattle.role_model.specs.declared.metadata.Metadata.{Metadata}
use Rattle.machine.specs.State as machine
use Rattle.hub_model.specs.declared.job.Answers.{Answers}
use Rattle.hub.specs.declared.event.Event.{Event}
use Rattle.hub.specs.declared.event.Event.TheVariants as event
use Rattle.subs_engine.specs.declared.engine.CallFault.{CallFault}
use Rattle.subs_engine.specs.declared.engine.CallFault.TheVariants as call
use Rattle.subs_engine.specs.declared.engine.TakeFault.{TakeFault}
use Rattle.subs_engine.specs.declared.engine.TakeFault.TheVariants as take
use Rattle.subs_engine.specs.declared.engine.PublishFault.{PublishFault}
use Rattle.subs_engine.specs.declared.engine.PublishFault.TheVariants as publish
use Rattle.subs_engine.specs.Calls.{Skips, Stays, IsSpent}

-- Memory is wanting for a transaction, a new connection or a text alone. It is found under the turn, but that a text
-- may lack it before.
abbrev pub Lacks : Event → PassView machine.Event Metadata → PassView machine.Event Metadata → Type 0
Lacks (event.Commit tx) p q = Skips p q
Lacks (event.Connect c) p q = Skips p q
Lacks (event.Text c text) p q = Skips p q ⊎ Stays p q
Lacks (event.Binary c) p q = ⊥
Lacks (event.Timeout c) p q = ⊥
Lacks (event.Gone c) p q = ⊥
Lacks event.Tick p q = ⊥
Lacks (event.Abandon j) p q = ⊥
Lacks (event.Drain c) p q = ⊥
Lacks event.Report p q = ⊥

-- the event is handed back
abbrev pub CallFails : Event → CallFault → PassView machine.Event Metadata → PassView machine.Event Metadata → Type 0
CallFails e (call.Spent back) p q = (back ≡ e) × IsSpent p q
CallFails e (call.NoMemory back) p q = (back ≡ e) × Lacks e p q

abbrev pub TakeFails : TakeFault → PassView machine.Event Metadata → PassView machine.Event Metadata → Type 0
TakeFails take.Spent p q = IsSpent p q
TakeFails take.NoMemory p q = Skips p q

-- the answers are handed back
abbrev pub PublishFails : Answers → PublishFault → PassView machine.Event Metadata → PassView machine.Event Metadata →
    Type 0
PublishFails a (publish.Spent back) p q = (back ≡ a) × IsSpent p q
PublishFails a (publish.NoMemory back) p q = (back ≡ a) × Skips p q
