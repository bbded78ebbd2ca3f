use Rattle.std.proofs.Common.{◌^◌, subst}
use Rattle.augmented_tree.specs.Lists.{AllOf}
use Rattle.extent_tree.specs.Residents.{resident_offset, ResidentFits, AreSpansOf, AreResidentsRising}
use Rattle.augmented_tree.proofs.ForCallers.{summarized, rises, all_fit}
use Rattle.extent_tree.proofs.residents.Residents.span.Goals as goal

pub summary-requires : goal.summary-requires
summary-requires c = summarized resident_offset ResidentFits AreSpansOf 0 (2 ^ c.self.inside.bits) c.self.inside.tree c.self.invariant.1

pub returns-clause-rising : goal.returns-clause-rising
returns-clause-rising c = subst AreResidentsRising c.self.view_is (rises resident_offset ResidentFits AreSpansOf 0 (2 ^ c.self.inside.bits) c.self.inside.tree c.self.invariant.1)

pub returns-clause-small : goal.returns-clause-small
returns-clause-small c = subst (AllOf ResidentFits) c.self.view_is (all_fit resident_offset ResidentFits AreSpansOf c.self.inside.tree (summarized resident_offset ResidentFits AreSpansOf 0 (2 ^ c.self.inside.bits) c.self.inside.tree c.self.invariant.1))
