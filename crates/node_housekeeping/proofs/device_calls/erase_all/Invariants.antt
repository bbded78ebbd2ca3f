use Rattle.std.specs.Prelude.{drop}
use Rattle.node_housekeeping.proofs.Erasing.{GoesOn}
use Rattle.node_housekeeping.proofs.device_calls.erase_all.Given as goal

abbrev pub invariant-loop-key : goal.invariant-loop-key
invariant-loop-key g l = GoesOn g.D.SpillDevice.erase_gives l.fn.device l.keys l.device (drop l.key-index l.keys)
