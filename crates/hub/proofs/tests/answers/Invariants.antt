use Rattle.hub.proofs.tests.answers.Given as goal

abbrev pub ghosts-act_all : goal.ghosts-act_all
ghosts-act_all a = record { name = a.blank.name; parts = a.blank.parts }
