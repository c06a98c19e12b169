use Rattle.subs_cli.proofs.main.Given as goal

-- the ledger is the one that the blank stands for
abbrev pub ghosts-run : goal.ghosts-run
ghosts-run t a = record { name = a.blank.name; parts = a.blank.parts }
