use Rattle.admission_tests.proofs.payloads.a_usual_client_gets_what_it_selects.Given as goal

abbrev pub ghosts-wrong_row : goal.ghosts-wrong_row
ghosts-wrong_row g a = record { name = a.blank.name; parts = a.blank.parts }
