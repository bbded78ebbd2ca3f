use Rattle.std.proofs.Common.{[], ap, ◌∙◌}
use Rattle.std.specs.Prelude.{find, unwrap_or}
use Rattle.std.specs.Option.{option_map}
use Rattle.spill_work.specs.declared.row.Timed.{Timed}
use Rattle.spill_work.specs.Line.{is_at}
use Rattle.spill_work.specs.Turns.{has_number}
use Rattle.spill_work.proofs.Rows.{work_is}
use Rattle.spill_work.proofs.by_job.ByJob.work_at.Goals as goal

pub returns-in-Some : goal.returns-in-Some
returns-in-Some c =
    let had = rw c.in-Some.is at c.get.ensures.value in
    c.work_at.ensures
    ∙ ap (λ o. option_map (λ (t : Timed). t.work) (find (has_number c.args.number) (unwrap_or o []))) had
    ∙ work_is c.args.job c.args.number c.self.inside.rows.entries c.self.inside.turn c.self.invariant
    ∙ ap (find (is_at c.args.job c.args.number)) c.self.view_is

pub returns-in-None : goal.returns-in-None
returns-in-None c =
    let none = rw c.in-None.is at c.get.ensures.value in
    ap (λ o. option_map (λ (t : Timed). t.work) (find (has_number c.args.number) (unwrap_or o []))) none
    ∙ work_is c.args.job c.args.number c.self.inside.rows.entries c.self.inside.turn c.self.invariant
    ∙ ap (find (is_at c.args.job c.args.number)) c.self.view_is
