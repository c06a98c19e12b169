use Rattle.nested_eval.proofs.tests.relationships_to_many_and_to_one.Given as goal

abbrev pub ghosts-related_items : goal.ghosts-related_items
ghosts-related_items g a = record { name = a.blank.name; parts = a.blank.parts }
