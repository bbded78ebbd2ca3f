use Rattle.std.proofs.Common.{refl, ap, ◌∙◌}
use Rattle.private_store.specs.rules.Room.{plan}
use Rattle.lru_evictor.specs.Plans.{plan_kind_of, listed}
use Rattle.room_commands.specs.RoomPlans.{place_as_it_is}
use Rattle.row_steps.proofs.ForCallers.{facts_at}
use Rattle.room_commands.proofs.Getting.{each_ok}
use Rattle.room_commands.proofs.Planning.{of_copies, described_as, device_here, asks-kind}
use Rattle.room_commands.proofs.room.spillable.Goals as goal
use Rattle.row_steps.specs.Beside.{beside_of, shape_of}

pub returns-clause-spillable : goal.returns-clause-spillable
returns-clause-spillable c = each_ok c.spillable.result (λ ids found line grants bytes contents n h asks.
    let row = c.args.row.now in
    let beside = beside_of line grants bytes row.job in
    let s = shape_of row beside in
    let own = c.use_order.ensures.ids in
    let placed = c.use_order.ensures.placed in
    found s row.window (device_here row beside contents h placed n) (facts_at row.copies) n
    (of_copies row beside contents h placed n row.copies refl c.use_order.result.now own c.use_order.ensures.infos)
    (described_as row beside contents h placed n row.window refl row.copies refl)
    (ap (λ o. plan_kind_of (plan o s n)) own ∙ asks-kind s.works_asked s.spill_failed (place_as_it_is s n) (plan_kind_of (plan row.order s n)) c.args.count asks)
    ∙ ap (λ o. listed (plan o s n)) own) c.spillable.ensures.listed
