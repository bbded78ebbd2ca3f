use Rattle.std.proofs.Common.{◌≡◌, List, drop}
use Rattle.obj_id.specs.declared.ids.ObjectId.{ObjectId}
use Rattle.lru_evictor.specs.Orders.{order_ids, AllPass}
use Rattle.job_row.proofs.FollowsCopies.{is_waiting}
use Rattle.job_row.proofs.syncing.sync_each.Given as goal

-- those that are left are still to be passed on
abbrev pub invariant-loop-id : goal.invariant-loop-id
invariant-loop-id l = record {
  ids : order_ids l.order ≡ order_ids l.initial.order;
  followed : (spared : List ObjectId) → AllPass (is_waiting l.ids spared l.copies) l.initial.order → AllPass (is_waiting (drop l.id-index l.ids) spared l.copies) l.order;
}
