use Rattle.std.proofs.Common.{ap, subst, sym}
use Rattle.std.specs.Prelude.{unwrap_or}
use Rattle.spill_work.specs.Line.{WorkLine, Drops}
use Rattle.spill_work.specs.Numbers.{AreWorksNumbered}
use Rattle.spill_work.proofs.Counted.{dropped_kept}
use Rattle.spill_work.proofs.LineLemmas.{drops}
use Rattle.spill_work.proofs.Works.drop_job.Goals as goal

pub invariant_of-self : goal.invariant_of-self
invariant_of-self c =
    let updates = c.shift_remove.ensures.updates in
    subst (λ works. AreWorksNumbered works c.shift_remove.new.self.entries) (sym c.take_out_all.ensures)
    (dropped_kept c.args.job c.self.inside.line c.self.inside.used.entries c.shift_remove.new.self.entries c.self.invariant updates.1 updates.2)

pub returns : goal.returns
returns c =
    let old : WorkLine = record { works = c.self.inside.line; used = c.self.inside.used.entries } in
    let new : WorkLine = record { works = c.take_out_all.new.self; used = c.shift_remove.new.self.entries } in
    let updates = c.shift_remove.ensures.updates in
    subst (λ line. Drops line c.args.job new) c.self.view_is
    (drops old new c.args.job c.take_out_all.ensures (ap (λ o. unwrap_or o 0) updates.1) (λ other apart. ap (λ o. unwrap_or o 0) (updates.2 other apart)))
