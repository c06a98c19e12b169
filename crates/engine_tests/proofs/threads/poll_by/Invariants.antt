use Rattle.engine_tests.proofs.threads.poll_by.Given as goal

abbrev pub ghosts-poll_with : goal.ghosts-poll_with
ghosts-poll_with g a = record { name = a.blank.name; parts = a.blank.parts }
