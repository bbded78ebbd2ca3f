use Rattle.std.proofs.Common.{not, filter, ap, subst, sym, ◌∙◌}
use Rattle.spill_work.specs.Line.{is_of}
use Rattle.spill_work.specs.Turns.{works_in, AreRows}
use Rattle.spill_work.proofs.Rows.{removed_kept, removed_is}
use Rattle.spill_work.proofs.by_job.ByJob.take_out_all.Goals as goal

pub invariant_of-self : goal.invariant_of-self
invariant_of-self c =
    subst (λ r. AreRows r c.self.inside.turn) (sym c.shift_remove.ensures.entries)
    (removed_kept c.args.job c.self.inside.rows.entries c.self.inside.turn c.self.invariant c.len-count.ensures.unique)

pub returns : goal.returns
returns c =
    ap works_in c.shift_remove.ensures.entries
    ∙ removed_is c.args.job c.self.inside.rows.entries c.self.inside.turn c.self.invariant c.len-count.ensures.unique
    ∙ ap (filter (λ work. not (is_of c.args.job work))) c.self.view_is
