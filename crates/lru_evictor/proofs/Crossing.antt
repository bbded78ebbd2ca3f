-- What may cross threads: an order of use.
use denote.Param.Send.{IsSend, sendable}
use Rattle.std.proofs.Crossing.{crosses}
use Rattle.lru.proofs.cache.LruCache.TheSendSync.{the_send as cache_send}
use Rattle.obj_id.proofs.ids.ObjectId.TheSendSync.{the_send as id_send}
use Rattle.use_tree.proofs.Crossing.{uses_send}
use Rattle.extent_tree.proofs.Crossing.{residents_send}
use Rattle.lru_evictor.proofs.index.OrderSlot.TheSendSync.{the_send as place_send}
use Rattle.lru_evictor.specs.contracts.index.Index as Index
use Rattle.lru_evictor.specs.contracts.job_order.JobOrder as JobOrder
use Rattle.lru_evictor.specs.contracts.use_order.UseOrder as UseOrder

index_send : IsSend Index.the_row
index_send = search (uses_send, residents_send, sendable, crosses) depth 40

job_order_send : IsSend JobOrder.the_row
job_order_send = search (cache_send, id_send, place_send, index_send, sendable, crosses) depth 40

pub order_send : IsSend UseOrder.the_row
order_send = search (job_order_send, sendable, crosses) depth 40
