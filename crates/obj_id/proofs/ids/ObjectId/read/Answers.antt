use Rattle.std.proofs.Common.{◌∙◌, inl, inr, sym}
use Rattle.obj_id.proofs.OneText.{short_text-apart}
use Rattle.obj_id.specs.Ids.{id_bytes}
use Rattle.obj_id.proofs.ids.ObjectId.read.Goals as goal

pub returns-in-Ok-clause-read : goal.returns-in-Ok-clause-read
returns-in-Ok-clause-read c id is text =
    elim text [
      | inl short ↦ sym c.in-Ok.is ∙ c.read_short.ensures.read id is short
      | inr full ↦ absurd (short_text-apart c.args.job.0 c.in-Ok.id (id_bytes id) c.args.text.now c.in-Ok.ensures.spelled full)
    ]
