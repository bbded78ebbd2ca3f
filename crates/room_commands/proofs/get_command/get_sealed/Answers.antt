use Rattle.room_commands.proofs.Getting.{sealed_held, sealed_refused}
use Rattle.room_commands.proofs.MemoryLast.{held_due}
use Rattle.room_commands.proofs.get_command.get_sealed.Goals as goal

pub returns-in-Ok-Some-clause-some : goal.returns-in-Ok-Some-clause-some
returns-in-Ok-Some-clause-some c node beside contents mine h =
    sealed_held node c.args.row.now beside contents c.args.session c.args.id.now mine c.requires h c.in-Ok-Some.length c.hold_copy.new.self
    (rw c.in-Ok-Some.field-0-is at (rw c.in-Ok-Some.is at c.hold_copy.ensures.some))

pub returns-in-Err-Refused-clause-some : goal.returns-in-Err-Refused-clause-some
returns-in-Err-Refused-clause-some c node beside contents mine h =
    sealed_refused node c.args.row.now beside contents c.args.session c.args.id.now mine c.requires h c.in-Err-Refused.refusal c.hold_copy.new.self
    (rw c.in-Err-Refused.field-0-is at (rw c.in-Err-Refused.is at c.hold_copy.ensures.refused)) (rw c.in-Err-Refused.is at c.hold_copy.ensures.err)

pub returns-in-Err-Memory-clause-memory_last : goal.returns-in-Err-Memory-clause-memory_last
returns-in-Err-Memory-clause-memory_last c node line =
    held_due node c.args.row.now line c.args.id.now c.requires c.in-Err-Memory.error c.hold_copy.new.self.copies
    (rw c.in-Err-Memory.field-0-is at (rw c.in-Err-Memory.is at c.hold_copy.ensures.refused))
