-- The events that aren't those of a call. This project's own.
use Rattle.machine.specs.State as machine
use Rattle.subs_engine.specs.declared.giving.Other.{Other}
use Rattle.subs_engine.specs.declared.giving.Other.TheVariants as other

abbrev pub event_of_other : Other → machine.Event
event_of_other other.Take = machine.Take
event_of_other (other.Publish j) = machine.Publish j
event_of_other other.Skip = machine.Skip
