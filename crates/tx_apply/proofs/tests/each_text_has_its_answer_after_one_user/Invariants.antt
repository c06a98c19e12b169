use Rattle.tx_apply.proofs.tests.each_text_has_its_answer_after_one_user.Given as goal

abbrev pub ghosts-other_answers : goal.ghosts-other_answers
ghosts-other_answers g a = record { name = a.blank.name; parts = a.blank.parts }
