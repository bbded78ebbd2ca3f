use Rattle.call_tests.proofs.frames.response_of.Given as goal

-- the name is that of the ledger and of the history which are new
abbrev pub ghosts-response_by-L-Ledger : goal.ghosts-response_by-L-Ledger
ghosts-response_by-L-Ledger g a = record { name = a.unnamed.blank.name; parts = a.unnamed.blank.parts }

abbrev pub ghosts-response_by-L-HistoryName : goal.ghosts-response_by-L-HistoryName
ghosts-response_by-L-HistoryName g a = record { book = a.unnamed.opened.seen.book }
