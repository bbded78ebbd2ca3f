use Rattle.std.proofs.Common.{◌≡◌, true, ◌==◌, OnErr, sym, ap, subst, ◌∙◌}
use Rattle.obj_id.specs.declared.commands.Command.TheVariants as command
use Rattle.private_store.specs.declared.inputs.Input.TheVariants as input
use Rattle.private_store.specs.rules.Contents.{Contents}
use Rattle.private_store.specs.laws.Invariants.{is_remembered}
use Rattle.job_row.specs.Row.{Row}
use Rattle.row_steps.specs.MemoryLast.{IsDueMore}
use Rattle.row_steps.specs.Outcomes.{row_given_of}
use Rattle.row_steps.specs.Shown.{IsShown, RowStep}
use Rattle.room_commands.proofs.Getting.{each_ok, always_err, gone_told}
use Rattle.room_commands.proofs.get_command.get.Goals as goal
use Rattle.row_steps.specs.Beside.{beside_of}

pub returns-in-Some-clause-ok : goal.returns-in-Some-clause-ok
returns-in-Some-clause-ok c grants bytes contents mine h =
    let beside = beside_of c.args.works.now grants bytes c.args.row.now.job in
    subst (λ response. RowStep c.args.node c.args.row.now beside contents (input.Call c.args.session (command.Get c.args.id.now)) response c.get_sealed.new.row beside) (sym c.only.ensures)
    ((rw c.in-Some.is at c.in_ok-reply.ensures.some) c.args.node beside contents mine h)

pub returns-clause-ok : goal.returns-clause-ok
returns-clause-ok c =
    each_ok c.get_unsealed.result (λ o response grants bytes. subst (λ (row : Row). (contents : Contents) → (c.args.id.now.job.0 == row.job) ≡ true → IsShown row (beside_of c.args.works.now grants bytes row.job) contents
    → RowStep c.args.node row (beside_of c.args.works.now grants bytes row.job) contents (input.Call c.args.session (command.Get c.args.id.now)) (row_given_of o) c.get_unsealed.new.row (beside_of c.get_unsealed.new.works grants bytes row.job))
    (rw c.in_default.is at c.in_ok-reply.ensures.same) (response c.args.session grants bytes)) c.get_unsealed.ensures.ok

pub returns-then-has_ended-clause-ok : goal.returns-then-has_ended-clause-ok
returns-then-has_ended-clause-ok c =
    each_ok c.refuse.result (λ o said grants bytes contents mine h.
    let beside = beside_of c.args.works.now grants bytes c.args.row.now.job in
    subst (λ t. RowStep c.args.node c.args.row.now beside contents (input.Call c.args.session (command.Get c.args.id.now)) t c.args.row.now beside) (sym said)
    (gone_told c.args.node c.args.row.now beside contents c.args.session c.args.id.now mine h
    (ap (is_remembered c.args.row.now.ended_tasks) (sym c.task.ensures) ∙ sym c.has_ended.ensures ∙ c.if-has_ended.true))) c.refuse.ensures.ok

pub returns-in_err-reply-clause-memory_last : goal.returns-in_err-reply-clause-memory_last
returns-in_err-reply-clause-memory_last c = always_err c.from_residual.result (c.in_err-reply.ensures.memory_last c.args.node c.args.works.now)

pub returns-clause-memory_last : goal.returns-clause-memory_last
returns-clause-memory_last c =
    subst (λ (row : Row). OnErr c.get_unsealed.result ((c.args.id.now.job.0 == row.job) ≡ true → IsDueMore c.args.node row c.args.works.now (command.Get c.args.id.now)))
    (rw c.in_default.is at c.in_ok-reply.ensures.same) c.get_unsealed.ensures.memory_last
