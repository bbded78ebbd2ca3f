use Rattle.std.proofs.Common.{◌≡◌, Ok, ap, inl, inr}
use Rattle.obj_id.proofs.OneText.{short_task_text-apart}
use Rattle.obj_id.proofs.ids.TaskNo.read.Goals as goal

pub returns-in-Some-clause-read : goal.returns-in-Some-clause-read
returns-in-Some-clause-read c task is text =
    elim text [
      | inl short ↦
          let read = c.read_short.ensures.read task is short in
          let same : c.in-Some.task ≡ task = cc (c.in-Some.is) in
          ap Ok same
      | inr full ↦ absurd (short_task_text-apart c.in-Some.task task.0 c.args.text.now c.in-Some.ensures.spelled full)
    ]
