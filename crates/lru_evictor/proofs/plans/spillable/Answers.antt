use Rattle.std.proofs.Common.{arith}
use Rattle.lru_evictor.proofs.Counted.{pushed-first}
use Rattle.lru_evictor.proofs.plans.spillable.Goals as goal

pub loop-id-preserved : goal.loop-id-preserved
loop-id-preserved c =
    let ids = c.loop-id.ids.items in
    let step = pushed-first ids c.push.new.list.items c.in-Some.id c.next.new.self c.loop-id.id-iterator c.args.count _ c.in_ok-push.ensures.items c.in-Some.ensures.steps
    (omega (arith, c.loop-id.invariant.within, c.if-len-count.false, c.len.ensures)) c.loop-id.invariant.all in
    record { within = step.0; all = step.1 }
