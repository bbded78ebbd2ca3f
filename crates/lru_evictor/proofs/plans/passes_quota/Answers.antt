use Rattle.std.proofs.Common.{◌∙◌, arith}
use Rattle.lru_evictor.proofs.Counted.{quota-step}
use Rattle.lru_evictor.proofs.plans.passes_quota.Goals as goal

pub loop-id-preserved : goal.loop-id-preserved
loop-id-preserved g c =
    let facts = g.C.CopyLookup.facts c.args.copies.now in
    let step = quota-step facts c.in-Some.id c.next.new.self c.loop-id.id-iterator c.loop-id.left c.loop-id.more c.in-Some.ensures.steps (omega (arith, c.if-more-eq0.false)) (omega (arith, c.if-bytes-left.false, c.bytes_of-bytes.ensures)) in
    rw c.bytes_of-bytes.ensures (step ∙ c.loop-id.invariant)
