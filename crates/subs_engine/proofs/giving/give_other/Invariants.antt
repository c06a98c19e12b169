use Rattle.subs_engine.specs.Others.{event_of_other}
use Rattle.subs_engine.proofs.giving.give_other.Given as goal

abbrev pub ghosts-give_other_as : goal.ghosts-give_other_as
ghosts-give_other_as a = record { event = event_of_other a.other }
