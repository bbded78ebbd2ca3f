use Rattle.schedule_text.proofs.LineForms.{Reads-short_call}
use Rattle.schedule_text.proofs.lines.call.Goals as goal

pub returns-in_default : goal.returns-in_default
returns-in_default c = Reads-short_call c.args.nodes c.args.fields.now c.in_default.len_below
