use Rattle.subs_engine.proofs.tests.polled.Given as goal

abbrev pub ghosts-poll : goal.ghosts-poll
ghosts-poll g a = record { name = a.blank.name; parts = a.blank.parts }
