use Rattle.std.proofs.Common.{◌^◌, subst}
use Rattle.extent_tree.specs.Residents.{resident_offset, ResidentFits, AreSpansOf, AreResidentsRising}
use Rattle.augmented_tree.proofs.ForCallers.{rises}
use Rattle.extent_tree.proofs.residents.Residents.classes.Goals as goal

pub returns-in_err-resident-clause-rising : goal.returns-in_err-resident-clause-rising
returns-in_err-resident-clause-rising c = subst AreResidentsRising c.self.view_is (rises resident_offset ResidentFits AreSpansOf 0 (2 ^ c.self.inside.bits) c.self.inside.tree c.self.invariant.1)

pub returns-clause-rising : goal.returns-clause-rising
returns-clause-rising c = subst AreResidentsRising c.self.view_is (rises resident_offset ResidentFits AreSpansOf 0 (2 ^ c.self.inside.bits) c.self.inside.tree c.self.invariant.1)
