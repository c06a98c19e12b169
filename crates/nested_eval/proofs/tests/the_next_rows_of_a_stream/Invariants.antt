use Rattle.nested_eval.proofs.tests.the_next_rows_of_a_stream.Given as goal

abbrev pub ghosts-streams_are : goal.ghosts-streams_are
ghosts-streams_are g a = record { name = a.blank.name; parts = a.blank.parts }
