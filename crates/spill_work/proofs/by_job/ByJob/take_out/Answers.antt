use Rattle.std.proofs.Common.{[], not, filter, ap, subst, sym, ◌∙◌}
use Rattle.std.specs.Prelude.{unwrap_or}
use Rattle.spill_work.specs.Line.{is_at}
use Rattle.spill_work.specs.Turns.{works_in, AreRows}
use Rattle.spill_work.proofs.Rows.{out_kept, out_is, none_out}
use Rattle.spill_work.proofs.by_job.ByJob.take_out.Goals as goal

pub invariant_of-self : goal.invariant_of-self
invariant_of-self c = subst (λ m. AreRows m.entries c.self.inside.turn) (sym c.get_mut.follows.holds-at-none) c.self.invariant

pub returns-in_default : goal.returns-in_default
returns-in_default c =
    let none = rw c.in_default.is at c.get_mut.ensures.value in
    ap (λ m. works_in m.entries) c.get_mut.follows.holds-at-none
    ∙ none_out c.args.job c.args.number c.self.inside.rows.entries c.self.inside.turn c.self.invariant (ap (λ o. unwrap_or o []) (sym none))
    ∙ ap (filter (λ work. not (is_at c.args.job c.args.number work))) c.self.view_is

pub invariant_of-self-2 : goal.invariant_of-self-2
invariant_of-self-2 c =
    let had = rw c.in-Some.is at c.get_mut.ensures.value in
    subst (λ r. AreRows r c.self.inside.turn) (sym (c.get_mut.follows.holds c.take_out.new.self).0)
    (out_kept c.args.job c.args.number c.self.inside.rows.entries c.self.inside.turn c.self.invariant c.get_mut.ensures.unique c.in-Some.row.now c.take_out.new.self (sym had) c.take_out.ensures)

pub returns : goal.returns
returns c =
    let had = rw c.in-Some.is at c.get_mut.ensures.value in
    ap works_in (c.get_mut.follows.holds c.take_out.new.self).0
    ∙ out_is c.args.job c.args.number c.self.inside.rows.entries c.self.inside.turn c.self.invariant c.get_mut.ensures.unique c.in-Some.row.now c.take_out.new.self (sym had) c.take_out.ensures
    ∙ ap (filter (λ work. not (is_at c.args.job c.args.number work))) c.self.view_is
