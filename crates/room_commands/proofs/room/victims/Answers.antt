use Rattle.std.proofs.Common.{false, option_map, sym, ap, ◌∙◌}
use Rattle.std.specs.List.{list_all}
use Rattle.std.specs.Option.{option_map_or}
use Rattle.private_store.specs.rules.Room.{plan}
use Rattle.private_store.specs.rules.Tables.{at}
use Rattle.lru_evictor.specs.declared.facts.CopyFacts.{CopyFacts}
use Rattle.lru_evictor.specs.Plans.{plan_kind_of, listed}
use Rattle.room_commands.specs.RoomPlans.{place_as_it_is}
use Rattle.job_row.specs.RowFacts.{row_facts_of}
use Rattle.room_commands.proofs.Getting.{each_ok, ok_both}
use Rattle.room_commands.proofs.Planning.{of_copies, described_as, device_here, evicts-kind}
use Rattle.room_commands.proofs.Rooms.{may_go}
use Rattle.room_commands.proofs.room.victims.Goals as goal
use Rattle.row_steps.specs.Beside.{beside_of, shape_of}

pub returns-clause-victims : goal.returns-clause-victims
returns-clause-victims c = each_ok c.victims.result (λ ids found line grants bytes contents h evicts.
    let row = c.args.row.now in
    let beside = beside_of line grants bytes row.job in
    let s = shape_of row beside in
    let own = c.use_order-order.ensures.ids in
    let placed = c.copies.ensures.placed in
    found s (device_here row beside contents h placed c.args.len)
    (of_copies row beside contents h placed c.args.len c.copies.result.now c.copies.ensures.copies c.use_order-order.result.now own c.use_order-order.ensures.infos)
    (described_as row beside contents h placed c.args.len c.window.result.now c.window.ensures c.copies.result.now c.copies.ensures.copies)
    (ap (λ o. plan_kind_of (plan o s c.args.len)) own ∙ evicts-kind s.works_asked s.spill_failed (place_as_it_is s c.args.len) (plan_kind_of (plan row.order s c.args.len)) evicts)
    ∙ ap (λ o. listed (plan o s c.args.len)) own) c.victims.ensures.plan

pub returns-clause-may_go : goal.returns-clause-may_go
returns-clause-may_go c = ok_both c.victims.result (λ ids evictable once.
    may_go c.args.row.now.copies ids
    (ap (λ t. list_all (λ q. option_map_or (λ (f : CopyFacts). f.evictable) (option_map row_facts_of (at t q)) false) ids) (sym c.copies.ensures.copies) ∙ evictable) once) c.victims.ensures.evictable c.victims.ensures.once
