use Rattle.admission_tests.proofs.payloads.a_usual_client_gets_a_new_row_with_its_relations.Given as goal

abbrev pub ghosts-wrong_row : goal.ghosts-wrong_row
ghosts-wrong_row g a = record { name = a.blank.name; parts = a.blank.parts }
