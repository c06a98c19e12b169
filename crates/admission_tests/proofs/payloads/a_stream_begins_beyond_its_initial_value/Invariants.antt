use Rattle.admission_tests.proofs.payloads.a_stream_begins_beyond_its_initial_value.Given as goal

abbrev pub ghosts-wrong_row : goal.ghosts-wrong_row
ghosts-wrong_row g a = record { name = a.blank.name; parts = a.blank.parts }
