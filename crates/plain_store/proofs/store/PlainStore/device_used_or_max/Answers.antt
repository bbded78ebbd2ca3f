use Rattle.std.proofs.Common.{arith}
use Rattle.plain_store.proofs.Sums.{device_more}
use Rattle.plain_store.proofs.store.PlainStore.device_used_or_max.Goals as goal

pub loop-id-preserved : goal.loop-id-preserved
loop-id-preserved c = record {
  rest = device_more c.args.self.now.shape (c.in-Some.id.now, c.in-Some.copy.now) c.loop-id.id-iterator c.next.new.self c.loop-id.used c.device_bytes.result _ _ c.in-Some.ensures.steps c.device_bytes.ensures c.saturating_add-used.ensures c.loop-id.invariant.rest;
  fits = omega (arith, c.saturating_add-used.ensures);
}
