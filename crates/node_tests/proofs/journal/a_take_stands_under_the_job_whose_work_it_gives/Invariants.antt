use Rattle.node_tests.proofs.journal.a_take_stands_under_the_job_whose_work_it_gives.Given as goal

-- the name is that of the ledger which the call opens
abbrev pub ghosts-try_journal : goal.ghosts-try_journal
ghosts-try_journal g a = record { name = a.blank.name; parts = a.blank.parts }
