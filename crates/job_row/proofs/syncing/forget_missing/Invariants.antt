use Rattle.std.proofs.Common.{◌≡◌, List, drop}
use Rattle.obj_id.specs.declared.ids.ObjectId.{ObjectId}
use Rattle.lru_evictor.specs.Orders.{order_ids}
use Rattle.job_row.specs.Evicting.{without_missing}
use Rattle.job_row.specs.InSync.{InSyncExcept}
use Rattle.job_row.proofs.syncing.forget_missing.Given as goal

-- once those that are left were looked at the order is what it is to be
abbrev pub invariant-loop-id : goal.invariant-loop-id
invariant-loop-id l = record {
  ids : without_missing l.copies (drop l.id-index l.ids) (order_ids l.order) ≡ without_missing l.copies l.ids (order_ids l.initial.order);
  followed : (spared : List ObjectId) → InSyncExcept spared l.copies l.initial.order → InSyncExcept spared l.copies l.order;
}
