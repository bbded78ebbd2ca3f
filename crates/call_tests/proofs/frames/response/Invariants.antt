use Rattle.call_tests.proofs.frames.response.Given as goal

-- the shape is that of the nodes which the trial starts
abbrev pub ghosts-response_of : goal.ghosts-response_of
ghosts-response_of g a = record { nodes = 1; memory = 1024 }
