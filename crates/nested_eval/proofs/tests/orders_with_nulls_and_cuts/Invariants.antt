use Rattle.nested_eval.proofs.tests.orders_with_nulls_and_cuts.Given as goal

abbrev pub ghosts-lists_are : goal.ghosts-lists_are
ghosts-lists_are g a = record { name = a.blank.name; parts = a.blank.parts }
