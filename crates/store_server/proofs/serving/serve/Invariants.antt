use Rattle.store_server.proofs.serving.serve.Given as goal

-- the shape is that of the nodes which are asked for
abbrev pub ghosts-serve_shaped : goal.ghosts-serve_shaped
ghosts-serve_shaped g a = record { nodes = a.serving.shape.nodes; memory = a.serving.shape.memory }
