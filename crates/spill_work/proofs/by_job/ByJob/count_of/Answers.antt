use Rattle.std.proofs.Common.{[], filter, length, ap, ◌∙◌}
use Rattle.std.specs.Prelude.{unwrap_or}
use Rattle.spill_work.specs.Line.{is_of}
use Rattle.spill_work.proofs.Rows.{count_is}
use Rattle.spill_work.proofs.by_job.ByJob.count_of.Goals as goal

pub returns-in-Some : goal.returns-in-Some
returns-in-Some c =
    let had = rw c.in-Some.is at c.get.ensures.value in
    c.len.ensures
    ∙ ap (λ o. length (unwrap_or o [])) had
    ∙ count_is c.args.job 0 c.self.inside.rows.entries c.self.inside.turn c.self.invariant
    ∙ ap (λ works. length (filter (is_of c.args.job) works)) c.self.view_is

pub returns-in-None : goal.returns-in-None
returns-in-None c =
    let none = rw c.in-None.is at c.get.ensures.value in
    ap (λ o. length (unwrap_or o [])) none
    ∙ count_is c.args.job 0 c.self.inside.rows.entries c.self.inside.turn c.self.invariant
    ∙ ap (λ works. length (filter (is_of c.args.job) works)) c.self.view_is
