use Rattle.machine.specs.State.{Receive}
use Rattle.subs_engine.proofs.giving.give_said.Given as goal

abbrev pub ghosts-give_said_as : goal.ghosts-give_said_as
ghosts-give_said_as a = record { event = Receive a.conn a.said.now }
