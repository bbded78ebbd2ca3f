use Rattle.std.specs.Prelude.{drop}
use Rattle.shared_nodes.proofs.KeysErased.{GoesOn}
use Rattle.shared_nodes.proofs.erasing.erase_given.Given as goal

abbrev pub invariant-loop-erase : goal.invariant-loop-erase
invariant-loop-erase g l = GoesOn g.D.SpillDevice.erase_gives g.K.JournaledNode.keys l.fn.device l.given l.device (drop l.erase-index l.given)
