use Rattle.row_store.proofs.tests.each_refusal_and_rows_in_key_order_that_a_share_keeps.Given as goal

abbrev pub ghosts-all : goal.ghosts-all
ghosts-all g a = record { name = a.blank.name; parts = a.blank.parts }
