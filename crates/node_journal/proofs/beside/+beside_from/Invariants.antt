use Rattle.std.specs.Prelude.{◌-◌, length}
use Rattle.node_journal.proofs.beside.+beside_from.Given as goal

-- the nodes that are left
abbrev pub decreases-beside_from : goal.decreases-beside_from
decreases-beside_from g l = length l.nodes.now - l.next
