use Rattle.call_tests.proofs.trials.try_shaped.Given as goal

-- the name is that of the ledger and of the history which are new
abbrev pub ghosts-try_at-L-Ledger : goal.ghosts-try_at-L-Ledger
ghosts-try_at-L-Ledger g a = record { name = a.unnamed.blank.name; parts = a.unnamed.blank.parts }

abbrev pub ghosts-try_at-L-HistoryName : goal.ghosts-try_at-L-HistoryName
ghosts-try_at-L-HistoryName g a = record { book = a.unnamed.opened.seen.book }
