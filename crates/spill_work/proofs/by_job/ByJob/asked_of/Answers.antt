use Rattle.std.proofs.Common.{[], map, filter, ap, ◌∙◌}
use Rattle.std.specs.Prelude.{unwrap_or}
use Rattle.spill_work.specs.declared.queue.Queued.{Queued}
use Rattle.spill_work.specs.declared.row.Timed.{Timed}
use Rattle.spill_work.specs.Line.{is_of}
use Rattle.spill_work.proofs.Rows.{asked_is}
use Rattle.spill_work.proofs.by_job.ByJob.asked_of.Goals as goal

pub returns-in_ok-asked-in-Some : goal.returns-in_ok-asked-in-Some
returns-in_ok-asked-in-Some c =
    let had = rw c.in-Some.is at c.get.ensures.value in
    c.in_ok-asked-in-Some.ensures
    ∙ ap (λ o. map (λ (t : Timed). t.work.asked) (unwrap_or o [])) had
    ∙ asked_is c.args.job 0 c.self.inside.rows.entries c.self.inside.turn c.self.invariant
    ∙ ap (λ works. map (λ (w : Queued). w.asked) (filter (is_of c.args.job) works)) c.self.view_is

pub returns-in-None : goal.returns-in-None
returns-in-None c =
    let none = rw c.in-None.is at c.get.ensures.value in
    c.new.ensures
    ∙ ap (λ o. map (λ (t : Timed). t.work.asked) (unwrap_or o [])) none
    ∙ asked_is c.args.job 0 c.self.inside.rows.entries c.self.inside.turn c.self.invariant
    ∙ ap (λ works. map (λ (w : Queued). w.asked) (filter (is_of c.args.job) works)) c.self.view_is
