use Rattle.call_tests.proofs.trials.try_once.Given as goal

-- the shape is that of the nodes which the trial starts
abbrev pub ghosts-try_shaped : goal.ghosts-try_shaped
ghosts-try_shaped g a = record { nodes = a.nodes; memory = 1024 }
