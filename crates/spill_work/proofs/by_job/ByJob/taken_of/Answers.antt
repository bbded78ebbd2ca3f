use Rattle.std.proofs.Common.{[], filter, length, ap, ◌∙◌}
use Rattle.std.specs.Prelude.{unwrap_or}
use Rattle.spill_work.specs.declared.queue.Queued.{Queued}
use Rattle.spill_work.specs.declared.row.Timed.{Timed}
use Rattle.spill_work.specs.Line.{is_of}
use Rattle.spill_work.proofs.Rows.{taken_is}
use Rattle.spill_work.proofs.by_job.ByJob.taken_of.Goals as goal

pub returns-in-Some : goal.returns-in-Some
returns-in-Some c =
    let had = rw c.in-Some.is at c.get.ensures.value in
    c.taken.ensures
    ∙ ap (λ o. length (filter (λ (t : Timed). t.work.taken) (unwrap_or o []))) had
    ∙ taken_is c.args.job 0 c.self.inside.rows.entries c.self.inside.turn c.self.invariant
    ∙ ap (λ works. length (filter (λ (w : Queued). w.taken) (filter (is_of c.args.job) works))) c.self.view_is

pub returns-in-None : goal.returns-in-None
returns-in-None c =
    let none = rw c.in-None.is at c.get.ensures.value in
    ap (λ o. length (filter (λ (t : Timed). t.work.taken) (unwrap_or o []))) none
    ∙ taken_is c.args.job 0 c.self.inside.rows.entries c.self.inside.turn c.self.invariant
    ∙ ap (λ works. length (filter (λ (w : Queued). w.taken) (filter (is_of c.args.job) works))) c.self.view_is
