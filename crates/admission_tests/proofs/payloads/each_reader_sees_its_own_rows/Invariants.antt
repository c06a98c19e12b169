use Rattle.admission_tests.proofs.payloads.each_reader_sees_its_own_rows.Given as goal

abbrev pub ghosts-wrong_row : goal.ghosts-wrong_row
ghosts-wrong_row g a = record { name = a.blank.name; parts = a.blank.parts }
