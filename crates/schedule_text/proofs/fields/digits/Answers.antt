use Rattle.std.proofs.Common.{rules}
use Rattle.schedule_text.proofs.BytesFields.{Reads-undecoded}
use Rattle.schedule_text.proofs.fields.digits.Goals as goal

pub returns-else-decode_into : goal.returns-else-decode_into
returns-else-decode_into c = Reads-undecoded c.args.field.now (search rules) c.requires
