use Rattle.std.proofs.Common.{subst}
use Rattle.obj_id.specs.declared.works.WorkKind.TheVariants.{Write}
use Rattle.spill_work.specs.Line.{AsksAll}
use Rattle.room_commands.proofs.Asking.{asked_told}
use Rattle.room_commands.proofs.room.ask_writes.Goals as goal

pub returns-clause-ok : goal.returns-clause-ok
returns-clause-ok c grants bytes contents n own h asks =
    let in_line = subst (λ j. AsksAll c.args.works.now j Write c.args.ids.now c.ask_all.new.self) own c.in_ok-ask_all.ensures.ok in
    asked_told c.args.row.now c.args.works.now grants bytes contents h n c.args.ids.now asks c.ask_all.new.self in_line c.spill_copies.new.self c.spill_copies.ensures
