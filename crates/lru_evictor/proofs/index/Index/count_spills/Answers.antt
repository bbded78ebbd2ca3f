use Rattle.std.proofs.Common.{ap, arith, length}
use Rattle.use_tree.specs.declared.classes.VictimClass.TheVariants.{Spillable}
use Rattle.lru_evictor.proofs.Uses.{chosen-few}
use Rattle.lru_evictor.proofs.index.Index.count_spills.Goals as goal

pub count_spills-requires : goal.count_spills-requires
count_spills-requires g c =
    let few = chosen-few Spillable 4611686018427387904 c.self.inside.uses in
    let same = ap length c.chosen-candidates.ensures.ids in
    let here = ap (λ p. length p.0) c.self.view_is in
    omega (arith, few, same, here, c.requires)
