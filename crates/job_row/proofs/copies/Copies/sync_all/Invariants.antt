use Rattle.std.proofs.Common.{◌≡◌, []}
use Rattle.std.specs.Map.{keys_of}
use Rattle.private_store.specs.rules.Tables.{ById}
use Rattle.lru_evictor.specs.Orders.{order_ids, AllPass}
use Rattle.job_row.specs.InSync.{InSync, NoneIsGone, KeepPlaces}
use Rattle.row_copy.specs.CopyViews.{CopyView}
use Rattle.job_row.proofs.FollowsCopies.{is_waiting}
use Rattle.job_row.proofs.copies.Copies.sync_all.Given as goal

-- those that are left are still to be passed on
abbrev pub invariant-loop-id : goal.invariant-loop-id
invariant-loop-id l = record {
  ids : order_ids l.order ≡ order_ids l.initial.order;
  followed : (before : ById CopyView) → NoneIsGone before l.self → KeepPlaces before l.self → InSync before l.initial.order → AllPass (is_waiting (keys_of l.id-iterator) [] l.self) l.order;
}
