use Rattle.std.proofs.Common.{◌≡◌, ◌==◌, true, refl, sym, ap, subst, ◌∙◌}
use Rattle.std.specs.Prelude.{OnOk}
use Rattle.std.proofs.lemmas.Bool.{eqb-true}
use Rattle.obj_id.specs.declared.commands.Command.TheVariants as command
use Rattle.private_store.specs.declared.inputs.Input.TheVariants as input
use Rattle.store_facts.proofs.Tests.{true_false}
use Rattle.room_commands.specs.Asked.{HasAsked}
use Rattle.row_steps.specs.Outcomes.{row_given_of}
use Rattle.row_steps.specs.Shown.{IsShown, RowStep}
use Rattle.room_commands.proofs.ForCallers.{each_err}
use Rattle.node_core.specs.Calls.{is_own, is_plain}
use Rattle.node_core.specs.MemoryLast.{IsRoomDue, IsUnrefused}
use Rattle.node_core.proofs.Calling.{if_ok, always_ok, always_err, both_err, no_err, not_granted, plain_waits_not}
use Rattle.node_core.proofs.Lines.{asked_nothing}
use Rattle.node_core.proofs.calls.carry_out.Goals as goal
use Rattle.row_steps.specs.Beside.{beside_of}

pub returns-then-not-is_own-clause-ok : goal.returns-then-not-is_own-clause-ok
returns-then-not-is_own-clause-ok c grants bytes contents own h =
    subst (λ response. RowStep c.args.node c.args.row.now (beside_of c.args.works.now grants bytes c.args.job.0) contents (input.Call c.args.session c.args.command.now) response c.args.row.now (beside_of c.args.works.now grants bytes c.args.job.0))
    (sym c.only.ensures)
    (not_granted c.args.node c.args.job.0 c.args.row.now (beside_of c.args.works.now grants bytes c.args.job.0) c.args.session contents own h c.args.command.now (sym c.is_own.ensures ∙ c.if-not-is_own.true))

pub returns-in-Create-clause-ok : goal.returns-in-Create-clause-ok
returns-in-Create-clause-ok c =
    if_ok c.create.result c.create.ensures.ok (λ o response grants bytes contents own h.
    let mine = ap (λ n. c.in-Create.id.job.0 == n) own ∙ ap (is_own c.args.job.0) (sym c.in-Create.is) ∙ sym c.is_own.ensures ∙ c.if-not-is_own.false in
    subst (λ d. RowStep c.args.node c.args.row.now (beside_of c.args.works.now grants bytes c.args.job.0) contents (input.Call c.args.session d) (row_given_of o) c.create.new.row (beside_of c.create.new.works grants bytes c.args.job.0)) (sym c.in-Create.is)
    (subst (λ n. RowStep c.args.node c.args.row.now (beside_of c.args.works.now grants bytes n) contents (input.Call c.args.session (command.Create c.in-Create.id c.in-Create.kind c.in-Create.len)) (row_given_of o) c.create.new.row (beside_of c.create.new.works grants bytes n)) own
    (response c.args.session grants bytes contents mine (subst (λ n. IsShown c.args.row.now (beside_of c.args.works.now grants bytes n) contents) (sym own) h))))

pub returns-in-Create-clause-line : goal.returns-in-Create-clause-line
returns-in-Create-clause-line c =
    let mine = ap (is_own c.args.job.0) (sym c.in-Create.is) ∙ sym c.is_own.ensures ∙ c.if-not-is_own.false in
    subst (λ j. OnOk c.create.result (HasAsked c.args.works.now j c.create.new.works)) (λ i. record { 0 = eqb-true c.in-Create.id.job.0 c.args.job.0 mine i }) c.create.ensures.line

pub returns-in-Get-clause-ok : goal.returns-in-Get-clause-ok
returns-in-Get-clause-ok c =
    if_ok c.get.result c.get.ensures.ok (λ o response grants bytes contents own h.
    let mine = ap (λ n. c.in-Get.id.job.0 == n) own ∙ ap (is_own c.args.job.0) (sym c.in-Get.is) ∙ sym c.is_own.ensures ∙ c.if-not-is_own.false in
    subst (λ d. RowStep c.args.node c.args.row.now (beside_of c.args.works.now grants bytes c.args.job.0) contents (input.Call c.args.session d) (row_given_of o) c.get.new.row (beside_of c.get.new.works grants bytes c.args.job.0)) (sym c.in-Get.is)
    (subst (λ n. RowStep c.args.node c.args.row.now (beside_of c.args.works.now grants bytes n) contents (input.Call c.args.session (command.Get c.in-Get.id)) (row_given_of o) c.get.new.row (beside_of c.get.new.works grants bytes n)) own
    (response grants bytes contents mine (subst (λ n. IsShown c.args.row.now (beside_of c.args.works.now grants bytes n) contents) (sym own) h))))

pub returns-in-Get-clause-line : goal.returns-in-Get-clause-line
returns-in-Get-clause-line c =
    let mine = ap (is_own c.args.job.0) (sym c.in-Get.is) ∙ sym c.is_own.ensures ∙ c.if-not-is_own.false in
    subst (λ j. OnOk c.get.result (HasAsked c.args.works.now j c.get.new.works)) (λ i. record { 0 = eqb-true c.in-Get.id.job.0 c.args.job.0 mine i }) c.get.ensures.line

pub returns-then-is_plain-clause-ok : goal.returns-then-is_plain-clause-ok
returns-then-is_plain-clause-ok c =
    if_ok c.carry_out_without_work.result c.carry_out_without_work.ensures.ok (λ o response. response c.args.job.0 (sym c.is_own.ensures ∙ c.if-not-is_own.false))

pub returns-then-is_plain-clause-line : goal.returns-then-is_plain-clause-line
returns-then-is_plain-clause-line c = always_ok c.carry_out_without_work.result (asked_nothing c.args.works.now c.args.job)

pub returns-then-is_plain-clause-others : goal.returns-then-is_plain-clause-others
returns-then-is_plain-clause-others c other differ = record { works = refl; used = refl }

pub returns-then-is_plain-clause-memory_last : goal.returns-then-is_plain-clause-memory_last
returns-then-is_plain-clause-memory_last c =
    both_err c.carry_out_without_work.result c.carry_out_without_work.ensures.memory_last c.carry_out_without_work.ensures.memory_last
    (λ late again. record { own = sym c.is_own.ensures ∙ c.if-not-is_own.false; passed = late.passed; grows = late.grows })

pub returns-then-is_plain-clause-without_memory : goal.returns-then-is_plain-clause-without_memory
returns-then-is_plain-clause-without_memory c frugal =
    no_err c.carry_out_without_work.result c.carry_out_without_work.ensures.memory_last (λ late. true_false (sym late.grows ∙ frugal))

pub returns-in-Create-clause-memory_last : goal.returns-in-Create-clause-memory_last
returns-in-Create-clause-memory_last c =
    let mine = ap (is_own c.args.job.0) (sym c.in-Create.is) ∙ sym c.is_own.ensures ∙ c.if-not-is_own.false in
    always_err c.create.result (subst (IsUnrefused c.args.row.now c.args.job.0 c.args.session) (sym c.in-Create.is) (record { own = mine; passed = refl; grows = refl }))

pub returns-in-Create-clause-room : goal.returns-in-Create-clause-room
returns-in-Create-clause-room c = each_err c.create.result (λ due own.
    let mine = ap (λ n. c.in-Create.id.job.0 == n) own ∙ ap (is_own c.args.job.0) (sym c.in-Create.is) ∙ sym c.is_own.ensures ∙ c.if-not-is_own.false in
    subst (IsRoomDue c.args.node c.args.row.now c.args.works.now) (sym c.in-Create.is) (due mine)) c.create.ensures.memory_last

pub returns-in-Get-clause-memory_last : goal.returns-in-Get-clause-memory_last
returns-in-Get-clause-memory_last c =
    let mine = ap (is_own c.args.job.0) (sym c.in-Get.is) ∙ sym c.is_own.ensures ∙ c.if-not-is_own.false in
    always_err c.get.result (subst (IsUnrefused c.args.row.now c.args.job.0 c.args.session) (sym c.in-Get.is) (record { own = mine; passed = refl; grows = refl }))

pub returns-in-Get-clause-room : goal.returns-in-Get-clause-room
returns-in-Get-clause-room c = each_err c.get.result (λ due own.
    let mine = ap (λ n. c.in-Get.id.job.0 == n) own ∙ ap (is_own c.args.job.0) (sym c.in-Get.is) ∙ sym c.is_own.ensures ∙ c.if-not-is_own.false in
    subst (IsRoomDue c.args.node c.args.row.now c.args.works.now) (sym c.in-Get.is) (due mine)) c.get.ensures.memory_last

pub returns-then-is_plain-clause-room : goal.returns-then-is_plain-clause-room
returns-then-is_plain-clause-room c =
    let plain : is_plain c.args.command.now ≡ true = sym c.is_plain.ensures ∙ c.if-is_plain.true in
    always_err c.carry_out_without_work.result (λ own. plain_waits_not c.args.node c.args.row.now c.args.works.now c.args.command.now plain)
