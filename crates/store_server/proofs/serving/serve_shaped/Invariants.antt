use Rattle.store_server.proofs.serving.serve_shaped.Given as goal

-- the name is that of the ledger and of the history which are new
abbrev pub ghosts-serve_named-L-Ledger : goal.ghosts-serve_named-L-Ledger
ghosts-serve_named-L-Ledger g a = record { name = a.unnamed.blank.name; parts = a.unnamed.blank.parts }

abbrev pub ghosts-serve_named-L-HistoryName : goal.ghosts-serve_named-L-HistoryName
ghosts-serve_named-L-HistoryName g a = record { book = a.unnamed.opened.seen.book }
