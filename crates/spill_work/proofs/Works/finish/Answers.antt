use Rattle.std.proofs.Common.{sym, subst, ◌∙◌}
use Rattle.spill_work.specs.Line.{WorkLine, Finishes}
use Rattle.spill_work.specs.Numbers.{AreWorksNumbered}
use Rattle.spill_work.proofs.Counted.{finished_kept}
use Rattle.spill_work.proofs.LineLemmas.{finishes}
use Rattle.spill_work.proofs.Works.finish.Goals as goal

pub invariant_of-self : goal.invariant_of-self
invariant_of-self c =
    subst (λ works. AreWorksNumbered works c.self.inside.used.entries) (sym c.take_out.ensures)
    (finished_kept c.args.job c.args.number c.self.inside.line c.self.inside.used.entries c.self.invariant)

pub returns-in-Some-clause-ok : goal.returns-in-Some-clause-ok
returns-in-Some-clause-ok c =
    let old : WorkLine = record { works = c.self.inside.line; used = c.self.inside.used.entries } in
    let new : WorkLine = record { works = c.take_out.new.self; used = c.self.inside.used.entries } in
    subst (λ line. Finishes line c.args.job c.args.number c.in-Some.work.asked new) c.self.view_is
    (finishes old new c.args.job c.args.number c.in-Some.work (sym c.work_at.ensures ∙ c.in-Some.is) c.if-work.true
    (λ i. record { works = c.take_out.ensures i; used = c.self.inside.used.entries }))
