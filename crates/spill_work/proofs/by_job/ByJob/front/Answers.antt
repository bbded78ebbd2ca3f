use Rattle.std.proofs.Common.{sym, ap, ◌∙◌}
use Rattle.std.specs.Option.{option_map}
use Rattle.spill_work.specs.declared.row.Timed.{Timed}
use Rattle.spill_work.specs.Line.{front_of}
use Rattle.spill_work.proofs.Fronts.{front_in}
use Rattle.spill_work.proofs.by_job.ByJob.front.Goals as goal

pub returns : goal.returns
returns c =
    ap (option_map (λ (t : Timed). t.work.asked)) (sym c.in_ok-first.was ∙ c.front.ensures)
    ∙ front_in c.self.inside.rows.entries
    ∙ ap front_of c.self.view_is

pub returns-in_err-first : goal.returns-in_err-first
returns-in_err-first c =
    c.from_residual.ensures
    ∙ ap (option_map (λ (t : Timed). t.work.asked)) (sym c.in_err-first.was ∙ c.front.ensures)
    ∙ front_in c.self.inside.rows.entries
    ∙ ap front_of c.self.view_is
