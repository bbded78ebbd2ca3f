use Rattle.std.proofs.Common.{◌≡◌, ◌+◌, ◌++◌, length, ap, subst, sym, ◌∙◌, arith}
use Rattle.std.specs.Map.{lookup, set_value}
use Rattle.std.proofs.lemmas.Map.Steps.{set_value_same}
use Rattle.spill_work.specs.Line.{same_work_job, numbered}
use Rattle.spill_work.specs.Turns.{works_in, timed, AreRows}
use Rattle.spill_work.proofs.Rows.{on_err, row_kept, row_unseen, row_there, more_kept, more_is}
use Rattle.spill_work.proofs.by_job.ByJob.ask.Goals as goal

pub unreachable-requires : goal.unreachable-requires
unreachable-requires c =
    let none = rw c.in_default.is at c.get_mut.ensures.value in
    row_there c.args.job c.self.inside.rows.entries (ap (lookup (same_work_job c.args.job)) (sym c.in_ok-enter.ensures.ok) ∙ sym none)

pub invariant_of-self-in_err-ask : goal.invariant_of-self-in_err-ask
invariant_of-self-in_err-ask c =
    let rows = c.enter.new.rows.entries in
    let test = same_work_job c.args.job in
    let had = rw c.in-Some.is at c.get_mut.ensures.value in
    let kept : AreRows rows c.self.inside.turn =
    subst (λ r. AreRows r c.self.inside.turn) (sym c.in_ok-enter.ensures.ok) (row_kept c.args.job c.self.inside.rows.entries c.self.inside.turn c.self.invariant) in
    subst (λ r. AreRows r c.self.inside.turn)
    (sym ((c.get_mut.follows.holds c.ask.new.self).0 ∙ ap (set_value test rows) c.in_err-ask.ensures.err ∙ set_value_same test rows c.in-Some.row.now (sym had))) kept

pub returns-in_err-ask-clause-err : goal.returns-in_err-ask-clause-err
returns-in_err-ask-clause-err c =
    let rows = c.enter.new.rows.entries in
    let test = same_work_job c.args.job in
    let had = rw c.in-Some.is at c.get_mut.ensures.value in
    on_err c.from_residual-in_err-ask.result
    (ap works_in ((c.get_mut.follows.holds c.ask.new.self).0 ∙ ap (set_value test rows) c.in_err-ask.ensures.err ∙ set_value_same test rows c.in-Some.row.now (sym had) ∙ c.in_ok-enter.ensures.ok)
    ∙ row_unseen c.args.job c.self.inside.rows.entries c.self.inside.turn c.self.invariant
    ∙ c.self.view_is)

pub invariant_of-self-2 : goal.invariant_of-self-2
invariant_of-self-2 c =
    let rows = c.enter.new.rows.entries in
    let test = same_work_job c.args.job in
    let turn = c.self.inside.turn in
    let had = rw c.in-Some.is at c.get_mut.ensures.value in
    let kept : AreRows rows turn = subst (λ r. AreRows r turn) (sym c.in_ok-enter.ensures.ok) (row_kept c.args.job c.self.inside.rows.entries turn c.self.invariant) in
    let next : turn + length c.args.ids.now ≡ c.in_ok-turn.turn = sym c.in_ok-turn.ensures.ok in
    let wrote = (c.get_mut.follows.holds c.ask.new.self).0 ∙ ap (set_value test rows) (c.in_ok-ask.ensures.ok ∙ ap (λ n. c.in-Some.row.now ++ timed c.args.job c.args.kind c.args.last n c.args.ids.now) c.value.ensures) in
    subst (λ n. AreRows (c.get_mut.follows.lender c.ask.new.self).entries n) next
    (subst (λ r. AreRows r (turn + length c.args.ids.now)) (sym wrote)
    (more_kept c.args.job c.args.kind c.args.last turn c.args.ids.now rows c.in-Some.row.now (sym had) kept))

pub returns-clause-ok : goal.returns-clause-ok
returns-clause-ok c =
    let rows = c.enter.new.rows.entries in
    let test = same_work_job c.args.job in
    let turn = c.self.inside.turn in
    let had = rw c.in-Some.is at c.get_mut.ensures.value in
    let kept : AreRows rows turn = subst (λ r. AreRows r turn) (sym c.in_ok-enter.ensures.ok) (row_kept c.args.job c.self.inside.rows.entries turn c.self.invariant) in
    let wrote = (c.get_mut.follows.holds c.ask.new.self).0 ∙ ap (set_value test rows) (c.in_ok-ask.ensures.ok ∙ ap (λ n. c.in-Some.row.now ++ timed c.args.job c.args.kind c.args.last n c.args.ids.now) c.value.ensures) in
    ap works_in wrote
    ∙ more_is c.args.job c.args.kind c.args.last turn c.args.ids.now rows c.in-Some.row.now (sym had) kept
    ∙ ap (λ works. works ++ numbered c.args.job c.args.kind c.args.last c.args.ids.now)
    (ap works_in c.in_ok-enter.ensures.ok ∙ row_unseen c.args.job c.self.inside.rows.entries turn c.self.invariant ∙ c.self.view_is)
