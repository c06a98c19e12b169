use Rattle.refused_polls.proofs.polls.Given as goal

abbrev pub ghosts-polls_counted : goal.ghosts-polls_counted
ghosts-polls_counted g a = record { name = a.blank.name; parts = a.blank.parts }
