use Rattle.std.proofs.Common.{◌≤◌, is_some, length, map, refl, sym, ap, subst, ◌∙◌}
use Rattle.std.specs.Prelude.{IfOk}
use Rattle.private_store.specs.declared.schedules.Event.TheVariants as event
use Rattle.private_store.specs.declared.schedules.NodeEvent.TheVariants.{Own}
use Rattle.row_steps.specs.Outcomes.{row_given_of}
use Rattle.node_core.specs.declared.outcome.Note.{Note}
use Rattle.node_core.specs.Foreseen.{most_messages, AreTakers}
use Rattle.node_core.specs.GrantMoves.{moves_grants}
use Rattle.node_core.specs.Judged.{judged_as, IsJudged, IsSmall}
use Rattle.node_core.specs.MemoryLast.{IsEventUnrefused}
use Rattle.node_core.specs.Outcomes.{with_no_notes, node_given_of as whole_given_of}
use Rattle.node_core.specs.Steps.{NodeStep}
use Rattle.node_core.proofs.Calling.{always_err, both_err, if_ok}
use Rattle.node_core.proofs.AllJobs.{all_steps, lasting_still, judged_is, call_judged, moves_frugal, no_finish}
use Rattle.node_core.proofs.GrantMoves.{event_is}
use Rattle.node_core.proofs.Late.{event_late}
use Rattle.node_core.proofs.Small.{small, none_told}
use Rattle.node_core.proofs.Node.apply.Goals as goal

pub returns-in-Finish-clause-ok : goal.returns-in-Finish-clause-ok
returns-in-Finish-clause-ok c =
    let e = event.Finish c.in-Finish.job c.in-Finish.number c.in-Finish.answer in
    subst (λ given. NodeStep c.args.self.now (Own c.args.event.now) given c.finish-outcome.new.self) (sym c.of_row.ensures.given)
    (subst (λ e. NodeStep c.args.self.now (Own e) (with_no_notes (row_given_of c.finish-outcome.result.0)) c.finish-outcome.new.self) (sym c.in-Finish.is)
    (all_steps c.args.self.now c.finish-outcome.new.self e (row_given_of c.finish-outcome.result.0) (lasting_still e c.finish-outcome.result.0.reply refl) c.finish-outcome.ensures.ok))

pub returns-in-Finish-clause-judged : goal.returns-in-Finish-clause-judged
returns-in-Finish-clause-judged c =
    subst (λ e. IsJudged c.args.self.now e c.of_row.result.reply c.of_row.result.judged) (sym c.in-Finish.is)
    (subst (λ response. IsJudged c.args.self.now (event.Finish c.in-Finish.job c.in-Finish.number c.in-Finish.answer) response c.of_row.result.judged) (sym (ap (λ g. g.reply) c.of_row.ensures.given)) (record {
      by_view = λ view h. c.finish-outcome.ensures.judged view h ∙ sym c.of_row.ensures.judged;
      by_call = refl;
    }))

pub returns-in-Finish-clause-grantees : goal.returns-in-Finish-clause-grantees
returns-in-Finish-clause-grantees c =
    subst (λ notes. AreTakers c.args.self.now.grants c.args.event.now c.of_row.result.reply (map (λ (note : Note). note.job) notes)) (sym c.of_row.ensures.notes)
    (none_told c.args.self.now.grants c.args.event.now c.of_row.result.reply (ap moves_grants c.in-Finish.is))

pub returns-in-Finish-clause-small : goal.returns-in-Finish-clause-small
returns-in-Finish-clause-small c =
    subst (λ e. IsSmall c.args.self.now e c.of_row.result.reply) (sym c.in-Finish.is) (λ v shows. refl)

pub returns-in-Some-clause-ok : goal.returns-in-Some-clause-ok
returns-in-Some-clause-ok c =
    let moved = event_is c.args.event.now c.in-Some.grant_move (sym c.of.ensures ∙ c.in-Some.is) in
    subst (λ e. IfOk c.move_grants.result (λ o. NodeStep c.args.self.now (Own e) (whole_given_of o) c.move_grants.new.self)) moved c.move_grants.ensures.ok

pub returns-in-Some-clause-bounded : goal.returns-in-Some-clause-bounded
returns-in-Some-clause-bounded c =
    let moved = event_is c.args.event.now c.in-Some.grant_move (sym c.of.ensures ∙ c.in-Some.is) in
    subst (λ e. IfOk c.move_grants.result (λ o. length o.messages ≤ most_messages c.args.self.now e)) moved c.move_grants.ensures.bounded

pub returns-in-Some-clause-judged : goal.returns-in-Some-clause-judged
returns-in-Some-clause-judged c =
    let moved = event_is c.args.event.now c.in-Some.grant_move (sym c.of.ensures ∙ c.in-Some.is) in
    if_ok c.move_grants.result c.move_grants.ensures.judged (λ o is. subst (IsJudged c.args.self.now c.args.event.now o.reply) (sym (is ∙ ap (λ e. judged_as e o.reply) moved)) (record {
      by_view = λ view h. judged_is c.args.self.now.number view c.args.event.now o.reply (no_finish c.args.event.now c.in_default.not-Finish);
      by_call = call_judged c.args.event.now o.reply;
    }))

pub returns-in-Some-clause-grantees : goal.returns-in-Some-clause-grantees
returns-in-Some-clause-grantees c =
    let moved = event_is c.args.event.now c.in-Some.grant_move (sym c.of.ensures ∙ c.in-Some.is) in
    subst (λ e. IfOk c.move_grants.result (λ o. AreTakers c.args.self.now.grants e o.reply (map (λ (note : Note). note.job) o.notes))) moved c.move_grants.ensures.grantees

pub returns-in-Some-clause-memory_last : goal.returns-in-Some-clause-memory_last
returns-in-Some-clause-memory_last c =
    let moved = event_is c.args.event.now c.in-Some.grant_move (sym c.of.ensures ∙ c.in-Some.is) in
    both_err c.move_grants.result c.move_grants.ensures.memory_last c.move_grants.ensures.memory_last (λ late again. event_late c.args.self.now c.args.event.now (subst (IsEventUnrefused c.args.self.now) moved late))

pub returns-in-Some-clause-small : goal.returns-in-Some-clause-small
returns-in-Some-clause-small c =
    let moved = event_is c.args.event.now c.in-Some.grant_move (sym c.of.ensures ∙ c.in-Some.is) in
    if_ok c.move_grants.result c.move_grants.ensures.ok (λ o steps. small c.args.self.now c.move_grants.new.self c.args.event.now (whole_given_of o) c.received_bound.ensures
    (subst (λ e. NodeStep c.args.self.now (Own e) (whole_given_of o) c.move_grants.new.self) moved steps))

pub returns-in-Some-clause-without_memory : goal.returns-in-Some-clause-without_memory
returns-in-Some-clause-without_memory c frugal = absurd (moves_frugal c.args.self.now c.args.event.now (ap is_some (sym c.of.ensures ∙ c.in-Some.is)) frugal)

pub returns-in_err-outcome-clause-memory_last : goal.returns-in_err-outcome-clause-memory_last
returns-in_err-outcome-clause-memory_last c = always_err c.from_residual.result (event_late c.args.self.now c.args.event.now c.in_err-outcome.ensures.memory_last)

pub returns-clause-ok : goal.returns-clause-ok
returns-clause-ok c =
    subst (λ given. NodeStep c.args.self.now (Own c.args.event.now) given c.step_one.new.self) (sym c.of_row-2.ensures.given)
    (all_steps c.args.self.now c.step_one.new.self c.args.event.now (row_given_of c.in_ok-outcome.outcome)
    (lasting_still c.args.event.now c.in_ok-outcome.outcome.reply (ap is_some (sym c.of.ensures ∙ c.in_default-of.is))) c.in_ok-outcome.ensures.ok)

pub returns-clause-bounded : goal.returns-clause-bounded
returns-clause-bounded c = subst (λ posts. length posts ≤ most_messages c.args.self.now c.args.event.now) (sym (ap (λ g. g.posts) c.of_row-2.ensures.given)) c.in_ok-outcome.ensures.bounded

pub returns-clause-judged : goal.returns-clause-judged
returns-clause-judged c =
    let other = no_finish c.args.event.now c.in_default.not-Finish in
    subst (λ response. IsJudged c.args.self.now c.args.event.now response c.of_row-2.result.judged) (sym (ap (λ g. g.reply) c.of_row-2.ensures.given))
    (subst (IsJudged c.args.self.now c.args.event.now c.in_ok-outcome.outcome.reply) (sym (c.of_row-2.ensures.judged ∙ c.judged_as-judged.ensures)) (record {
      by_view = λ view h. judged_is c.args.self.now.number view c.args.event.now c.in_ok-outcome.outcome.reply other;
      by_call = call_judged c.args.event.now c.in_ok-outcome.outcome.reply;
    }))

pub returns-clause-grantees : goal.returns-clause-grantees
returns-clause-grantees c =
    subst (λ notes. AreTakers c.args.self.now.grants c.args.event.now c.of_row-2.result.reply (map (λ (note : Note). note.job) notes)) (sym c.of_row-2.ensures.notes)
    (none_told c.args.self.now.grants c.args.event.now c.of_row-2.result.reply (ap is_some (sym c.of.ensures ∙ c.in_default-of.is)))

pub returns-clause-small : goal.returns-clause-small
returns-clause-small c =
    let lasting = ap is_some (sym c.of.ensures ∙ c.in_default-of.is) in
    subst (IsSmall c.args.self.now c.args.event.now) (sym (ap (λ g. g.reply) c.of_row-2.ensures.given))
    (small c.args.self.now c.step_one.new.self c.args.event.now (with_no_notes (row_given_of c.in_ok-outcome.outcome)) c.received_bound.ensures
    (all_steps c.args.self.now c.step_one.new.self c.args.event.now (row_given_of c.in_ok-outcome.outcome) (lasting_still c.args.event.now c.in_ok-outcome.outcome.reply lasting) c.in_ok-outcome.ensures.ok))
