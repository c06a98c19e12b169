use Rattle.subs_engine.specs.Events.{event_of}
use Rattle.subs_engine.proofs.giving.give_event.Given as goal

abbrev pub ghosts-give_event_as : goal.ghosts-give_event_as
ghosts-give_event_as a = record { event = event_of a.event.now }
