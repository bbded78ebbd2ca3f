use Rattle.std.proofs.Common.{◌+◌, ap, sym, subst}
use Rattle.world_core.specs.Worlds.{AreNew}
use Rattle.world_core.proofs.Running.{AreNew-push}
use Rattle.world_core.proofs.new_nodes.Goals as goal

pub loop-number-preserved : goal.loop-number-preserved
loop-number-preserved c =
    subst (AreNew c.args.shape.memory (c.loop-number.number + 1)) (sym c.in_ok-push.ensures.items)
    (AreNew-push c.args.shape.memory c.loop-number.number c.loop-number.nodes.items c.new.result c.loop-number.invariant
    (record { number = c.new.ensures.number; admissions = c.new.ensures.admissions; works = ap (λ line. line.works) c.new.ensures.works; grants = c.new.ensures.grants; shows = c.new.ensures.shows }))
