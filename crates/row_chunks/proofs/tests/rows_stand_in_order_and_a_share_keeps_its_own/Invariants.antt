use Rattle.row_chunks.proofs.tests.rows_stand_in_order_and_a_share_keeps_its_own.Given as goal

abbrev pub ghosts-all : goal.ghosts-all
ghosts-all g a = record { name = a.blank.name; parts = a.blank.parts }
