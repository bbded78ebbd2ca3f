use Rattle.std.proofs.Common.{◌∷◌, ◌+◌, drop, sym, ap, subst, ◌∙◌}
use Rattle.std.proofs.lemmas.List.{drop_more}
use Rattle.node_housekeeping.specs.DeviceCalls.{AreErased}
use Rattle.shared_nodes.specs.Erasing.{keys_in}
use Rattle.shared_nodes.proofs.KeysErased.{erased_then}
use Rattle.shared_nodes.proofs.erasing.erase_given.Goals as goal

pub loop-erase-preserved : goal.loop-erase-preserved
loop-erase-preserved g c new erased =
    let given = c.args.given.now in
    let rest = drop (c.loop-erase.erase-index + 1) given in
    let next = drop_more given c.loop-erase.erase-index c.erase-item.result c.loop-erase-test.true ∙ ap (λ x. x ∷ rest) (sym c.erase-item.is) in
    let here = subst (λ keys. AreErased g.D.SpillDevice.erase_gives c.loop-erase.device keys c.erase_all.new.device) c.keys.ensures c.erase_all.ensures in
    c.loop-erase.invariant new
    (subst (λ left. AreErased g.D.SpillDevice.erase_gives c.loop-erase.device (keys_in g.K.JournaledNode.keys left) new) (sym next) (erased_then g.D.SpillDevice.erase_gives _ _ _ _ _ here erased))
