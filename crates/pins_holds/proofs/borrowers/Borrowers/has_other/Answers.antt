use Rattle.std.proofs.Common.{not, filter, sym, ap, ◌∙◌}
use Rattle.obj_id.specs.Ids.{same_task}
use Rattle.pins_holds.specs.Pinned.{are_borrowing}
use Rattle.pins_holds.proofs.TaskLemmas.{negated, other_first, other_later}
use Rattle.pins_holds.proofs.borrowers.Borrowers.has_other.Goals as goal

pub returns-then-ne : goal.returns-then-ne
returns-then-ne c =
    sym (sym c.loop-other.invariant.same ∙ ap (λ ts. are_borrowing (filter (λ t. not (same_task c.args.task t)) ts)) c.in-Some.ensures.steps
    ∙ other_first c.args.task c.in-Some.other.now c.next.new.self (negated _ (sym c.ne.ensures ∙ c.if-ne.true)))

pub loop-other-preserved : goal.loop-other-preserved
loop-other-preserved c =
    record { same = sym (other_later c.args.task c.in-Some.other.now c.next.new.self (negated _ (sym c.ne.ensures ∙ c.if-ne.false))) ∙ ap (λ ts. are_borrowing (filter (λ t. not (same_task c.args.task t)) ts)) (sym c.in-Some.ensures.steps) ∙ c.loop-other.invariant.same }
