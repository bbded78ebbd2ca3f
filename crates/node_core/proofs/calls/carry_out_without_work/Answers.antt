use Rattle.std.proofs.Common.{◌==◌, sym, ap, subst, ◌∙◌}
use Rattle.obj_id.specs.declared.commands.Command.TheVariants as command
use Rattle.private_store.specs.declared.inputs.Input.TheVariants as input
use Rattle.row_steps.specs.Outcomes.{row_given_of}
use Rattle.row_steps.specs.Shown.{IsShown, only, RowStep}
use Rattle.node_core.specs.Calls.{is_own}
use Rattle.node_core.proofs.Calling.{if_ok}
use Rattle.node_core.proofs.calls.carry_out_without_work.Goals as goal
use Rattle.row_steps.specs.Beside.{beside_of}

pub returns-in_ok-seal-in-Seal-clause-ok : goal.returns-in_ok-seal-in-Seal-clause-ok
returns-in_ok-seal-in-Seal-clause-ok c job owned grants bytes contents own h =
    let mine = ap (λ n. c.in-Seal.id.job.0 == n) own ∙ ap (is_own job) (sym c.in-Seal.is) ∙ owned in
    subst (λ d. RowStep c.args.node c.args.row.now (beside_of c.args.works.now grants bytes job) contents (input.Call c.args.session d) (row_given_of c.in_ok-seal-in-Seal.field-0) c.seal.new.row (beside_of c.args.works.now grants bytes job)) (sym c.in-Seal.is)
    (c.in_ok-seal-in-Seal.ensures.ok c.args.session (beside_of c.args.works.now grants bytes job) contents mine h)

pub returns-in-Release-clause-ok : goal.returns-in-Release-clause-ok
returns-in-Release-clause-ok c job owned grants bytes contents own h =
    let mine = ap (λ n. c.in-Release.id.job.0 == n) own ∙ ap (is_own job) (sym c.in-Release.is) ∙ owned in
    subst (λ d. RowStep c.args.node c.args.row.now (beside_of c.args.works.now grants bytes job) contents (input.Call c.args.session d) (row_given_of c.release.result) c.release.new.row (beside_of c.args.works.now grants bytes job)) (sym c.in-Release.is)
    (c.release.ensures.step c.args.node (beside_of c.args.works.now grants bytes job) contents mine h)

pub returns-in_ok-unpin-in-Unpin-clause-ok : goal.returns-in_ok-unpin-in-Unpin-clause-ok
returns-in_ok-unpin-in-Unpin-clause-ok c job owned grants bytes contents own h =
    let mine = ap (λ n. c.in-Unpin.id.job.0 == n) own ∙ ap (is_own job) (sym c.in-Unpin.is) ∙ owned in
    subst (λ d. RowStep c.args.node c.args.row.now (beside_of c.args.works.now grants bytes job) contents (input.Call c.args.session d) (row_given_of c.in_ok-unpin-in-Unpin.field-0) c.unpin.new.row (beside_of c.args.works.now grants bytes job)) (sym c.in-Unpin.is)
    (c.in_ok-unpin-in-Unpin.ensures.ok c.args.session (beside_of c.args.works.now grants bytes job) contents mine h)

pub returns-in_ok-give_up-in-GiveUp-clause-ok : goal.returns-in_ok-give_up-in-GiveUp-clause-ok
returns-in_ok-give_up-in-GiveUp-clause-ok c job owned grants bytes contents own h =
    let mine = ap (λ n. c.in-GiveUp.id.job.0 == n) own ∙ ap (is_own job) (sym c.in-GiveUp.is) ∙ owned in
    subst (λ d. RowStep c.args.node c.args.row.now (beside_of c.args.works.now grants bytes job) contents (input.Call c.args.session d) (row_given_of c.in_ok-give_up-in-GiveUp.field-0) c.give_up.new.row (beside_of c.args.works.now grants bytes job)) (sym c.in-GiveUp.is)
    (c.in_ok-give_up-in-GiveUp.ensures.ok c.args.session (beside_of c.args.works.now grants bytes job) contents mine h)

pub returns-in_ok-delete-in-Delete-clause-ok : goal.returns-in_ok-delete-in-Delete-clause-ok
returns-in_ok-delete-in-Delete-clause-ok c job owned grants bytes contents own h =
    let mine = ap (λ n. c.in-Delete.id.job.0 == n) own ∙ ap (is_own job) (sym c.in-Delete.is) ∙ owned in
    subst (λ d. RowStep c.args.node c.args.row.now (beside_of c.args.works.now grants bytes job) contents (input.Call c.args.session d) (row_given_of c.in_ok-delete-in-Delete.field-0) c.delete.new.row (beside_of c.args.works.now grants bytes job)) (sym c.in-Delete.is)
    (c.in_ok-delete-in-Delete.ensures.ok c.args.session (beside_of c.args.works.now grants bytes job) contents mine h)

pub returns-in_ok-leave-in-Leave-clause-ok : goal.returns-in_ok-leave-in-Leave-clause-ok
returns-in_ok-leave-in-Leave-clause-ok c job owned grants bytes contents own h =
    subst (λ d. RowStep c.args.node c.args.row.now (beside_of c.args.works.now grants bytes job) contents (input.Call c.args.session d) (row_given_of c.in_ok-leave-in-Leave.field-0) c.leave.new.row (beside_of c.args.works.now grants bytes job)) (sym c.in-Leave.is)
    (c.in_ok-leave-in-Leave.ensures.ok c.args.node (beside_of c.args.works.now grants bytes job) contents h)

pub returns-in-Borrow-clause-ok : goal.returns-in-Borrow-clause-ok
returns-in-Borrow-clause-ok c =
    if_ok c.borrow.result c.borrow.ensures.ok (λ o response job owned grants bytes contents own h.
    let mine = ap (λ n. c.in-Borrow.id.job.0 == n) own ∙ ap (is_own job) (sym c.in-Borrow.is) ∙ owned in
    subst (λ d. RowStep c.args.node c.args.row.now (beside_of c.args.works.now grants bytes job) contents (input.Call c.args.session d) (row_given_of o) c.borrow.new.row (beside_of c.args.works.now grants bytes job)) (sym c.in-Borrow.is)
    (response c.args.node c.args.session (beside_of c.args.works.now grants bytes job) contents mine h))

pub returns-in-Write-clause-ok : goal.returns-in-Write-clause-ok
returns-in-Write-clause-ok c job owned grants bytes contents own h =
    let mine = ap (λ n. c.in-Write.id.job.0 == n) own ∙ ap (is_own job) (sym c.in-Write.is) ∙ owned in
    let same = c.in-Write.is ∙ ap (λ bs. command.Write c.in-Write.id c.in-Write.offset bs) (sym c.deref.ensures) in
    subst (λ response. RowStep c.args.node c.args.row.now (beside_of c.args.works.now grants bytes job) contents (input.Call c.args.session c.args.command.now) response c.write-reply.new.row (beside_of c.args.works.now grants bytes job)) (sym c.only.ensures)
    (subst (λ d. RowStep c.args.node c.args.row.now (beside_of c.args.works.now grants bytes job) contents (input.Call c.args.session d) (only c.write-reply.result) c.write-reply.new.row (beside_of c.args.works.now grants bytes job)) (sym same)
    (c.write-reply.ensures c.args.node c.args.session (beside_of c.args.works.now grants bytes job) contents mine h))

pub returns-in_ok-reply-in-Read-clause-ok : goal.returns-in_ok-reply-in-Read-clause-ok
returns-in_ok-reply-in-Read-clause-ok c job owned grants bytes contents own h =
    let mine = ap (λ n. c.in-Read.id.job.0 == n) own ∙ ap (is_own job) (sym c.in-Read.is) ∙ owned in
    subst (λ response. RowStep c.args.node c.args.row.now (beside_of c.args.works.now grants bytes job) contents (input.Call c.args.session c.args.command.now) response c.args.row.now (beside_of c.args.works.now grants bytes job)) (sym c.only-in-Read.ensures)
    (subst (λ d. RowStep c.args.node c.args.row.now (beside_of c.args.works.now grants bytes job) contents (input.Call c.args.session d) (only c.in_ok-reply-in-Read.reply) c.args.row.now (beside_of c.args.works.now grants bytes job)) (sym c.in-Read.is)
    (c.in_ok-reply-in-Read.ensures.ok c.args.node (beside_of c.args.works.now grants bytes job) contents mine h))

pub returns-in-Usage-clause-ok : goal.returns-in-Usage-clause-ok
returns-in-Usage-clause-ok c job owned grants bytes contents own h =
    subst (λ response. RowStep c.args.node c.args.row.now (beside_of c.args.works.now grants bytes job) contents (input.Call c.args.session c.args.command.now) response c.args.row.now (beside_of c.args.works.now grants bytes job)) (sym c.only-in-Usage.ensures)
    (subst (λ d. RowStep c.args.node c.args.row.now (beside_of c.args.works.now grants bytes job) contents (input.Call c.args.session d) (only c.tell_usage.result) c.args.row.now (beside_of c.args.works.now grants bytes job)) (sym c.in-Usage.is)
    (subst (λ n. RowStep c.args.node c.args.row.now (beside_of c.args.works.now grants bytes n) contents (input.Call c.args.session command.Usage) (only c.tell_usage.result) c.args.row.now (beside_of c.args.works.now grants bytes n)) own
    (c.tell_usage.ensures c.args.node c.args.session grants bytes contents (subst (λ n. IsShown c.args.row.now (beside_of c.args.works.now grants bytes n) contents) (sym own) h))))
