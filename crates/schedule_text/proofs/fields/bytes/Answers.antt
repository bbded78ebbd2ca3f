use Rattle.std.proofs.Common.{rules}
use Rattle.schedule_text.proofs.BytesFields.{Reads-dash}
use Rattle.schedule_text.proofs.fields.bytes.Goals as goal

pub returns-then-eq : goal.returns-then-eq
returns-then-eq c = rw c.new.ensures (Reads-dash c.args.field.now (search rules))
