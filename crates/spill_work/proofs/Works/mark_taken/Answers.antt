use Rattle.std.proofs.Common.{subst, sym, ◌∙◌}
use Rattle.spill_work.specs.Line.{WorkLine, MarksTaken}
use Rattle.spill_work.specs.Numbers.{AreWorksNumbered}
use Rattle.spill_work.proofs.Counted.{one_at, marked_is, marked_kept}
use Rattle.spill_work.proofs.LineLemmas.{marks_taken}
use Rattle.spill_work.proofs.Works.mark_taken.Goals as goal

pub invariant_of-self : goal.invariant_of-self
invariant_of-self c =
    subst (λ works. AreWorksNumbered works c.self.inside.used.entries) (sym c.mark.ensures)
    (marked_kept c.args.job c.args.number c.self.inside.line c.self.inside.used.entries c.self.invariant)

pub returns : goal.returns
returns c =
    let old : WorkLine = record { works = c.self.inside.line; used = c.self.inside.used.entries } in
    let new : WorkLine = record { works = c.mark.new.self; used = c.self.inside.used.entries } in
    subst (λ line. MarksTaken line c.args.job c.args.number new) c.self.view_is
    (marks_taken old new c.args.job c.args.number
    (λ i. record {
      works = (c.mark.ensures ∙ marked_is c.args.job c.args.number c.self.inside.line (one_at c.self.inside.line c.self.inside.used.entries c.self.invariant c.args.job c.args.number)) i;
      used = c.self.inside.used.entries;
    }))
