use Rattle.std.proofs.Common.{sym, ap, ◌∙◌}
use Rattle.spill_work.specs.Turns.{all_of, front_from}
use Rattle.spill_work.proofs.Fronts.{front_append}
use Rattle.spill_work.proofs.by_job.front.Goals as goal

pub loop-row-preserved : goal.loop-row-preserved
loop-row-preserved c =
    ap (λ first. front_from first (all_of c.next.new.self)) c.front-first.ensures
    ∙ sym (front_append c.loop-row.first c.in-Some.row.now (all_of c.next.new.self))
    ∙ sym (ap (λ rows. front_from c.loop-row.first (all_of rows)) c.in-Some.ensures.steps)
    ∙ c.loop-row.invariant
