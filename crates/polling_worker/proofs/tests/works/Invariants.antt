use Rattle.polling_worker.proofs.tests.works.Given as goal

abbrev pub ghosts-works_with : goal.ghosts-works_with
ghosts-works_with g a = record { name = a.blank.name; parts = a.blank.parts }
