use Rattle.tx_apply.proofs.tests.a_refused_transaction_leaves_the_snapshot_as_it_was.Given as goal

abbrev pub ghosts-over_the_same : goal.ghosts-over_the_same
ghosts-over_the_same g a = record { name = a.blank.name; parts = a.blank.parts }
