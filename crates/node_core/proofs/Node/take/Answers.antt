use Rattle.std.proofs.Common.{◌≡◌, sym, ap, subst, ◌∙◌}
use Rattle.std.specs.Prelude.{IfSome}
use Rattle.std.specs.Option.{option_copied, option_map_or}
use Rattle.obj_id.specs.declared.commands.Reply.TheVariants as reply
use Rattle.private_store.specs.declared.schedules.Event.TheVariants as event
use Rattle.row_steps.specs.Shown.{only}
use Rattle.node_core.specs.MemoryLast.{IsFront}
use Rattle.node_core.specs.OneJob.{NodeStepOne}
use Rattle.node_core.proofs.Calling.{always_err}
use Rattle.node_core.proofs.Taking.{none_taken, no_row, told_is, taken_so}
use Rattle.node_core.proofs.Views.{node_of}
use Rattle.node_core.proofs.Node.take.Goals as goal

pub returns-in_default-get-clause-ok : goal.returns-in_default-get-clause-ok
returns-in_default-get-clause-ok c =
    let none = sym c.get.ensures.value ∙ ap option_copied c.in_default-get.is in
    subst (λ given. NodeStepOne c.args.self.now event.Take given c.args.self.now) (sym c.only-in_default-get.ensures)
    (subst (λ node. NodeStepOne node event.Take (only reply.NoWork) node) c.self.view_is
    (none_taken c.self.inside.number c.self.inside.admission c.self.inside.works c.self.inside.grants c.self.inside.rows.entries
    (no_row c.self.inside.number c.self.inside.admission c.self.inside.works c.self.inside.grants c.self.inside.rows.entries c.in-Some.asked (sym c.front.ensures ∙ c.in-Some.is) none)))

pub returns-in_err-work-clause-memory_last : goal.returns-in_err-work-clause-memory_last
returns-in_err-work-clause-memory_last c =
    let late : IsFront (node_of c.self.inside.number c.self.inside.admission c.self.inside.works c.self.inside.grants c.self.inside.rows.entries) = record {
      asked = c.in-Some.asked;
      first = sym c.front.ensures ∙ c.in-Some.is;
      row = c.in-Some-get.row.now;
      found = sym c.get.ensures.value ∙ ap option_copied c.in-Some-get.is;
    } in
    always_err c.from_residual.result (subst IsFront c.self.view_is late)

pub returns-in_default-2-clause-ok : goal.returns-in_default-2-clause-ok
returns-in_default-2-clause-ok c =
    let response = told_is c.self.inside.number c.self.inside.admission c.self.inside.works c.self.inside.grants c.self.inside.rows.entries c.in-Some.asked (sym c.front.ensures ∙ c.in-Some.is)
    c.in-Some-get.row.now (sym c.get.ensures.value ∙ ap option_copied c.in-Some-get.is) c.in_ok-work.field-0 c.in_ok-work.ensures.ok in
    subst (λ given. NodeStepOne c.args.self.now event.Take given c.args.self.now) (sym c.only-in_default-2.ensures)
    (subst (λ node. NodeStepOne node event.Take (only reply.NoWork) node) c.self.view_is
    (none_taken c.self.inside.number c.self.inside.admission c.self.inside.works c.self.inside.grants c.self.inside.rows.entries
    (λ v shows. sym (ap (λ o. option_map_or reply.Work o reply.NoWork) c.in_default-2.is) ∙ response v shows)))

pub returns-clause-ok : goal.returns-clause-ok
returns-clause-ok c =
    let after = node_of c.self.inside.number c.self.inside.admission c.mark_taken.new.self c.self.inside.grants c.self.inside.rows.entries in
    subst (λ given. NodeStepOne c.args.self.now event.Take given after) (sym c.only-2.ensures)
    (subst (λ old. NodeStepOne old event.Take (only (reply.Work c.in-Some-2.work)) after) c.self.view_is
    (taken_so c.self.inside.number c.self.inside.admission c.self.inside.works c.self.inside.grants c.self.inside.rows.entries c.in-Some.asked (sym c.front.ensures ∙ c.in-Some.is)
    c.in-Some-get.row.now (sym c.get.ensures.value ∙ ap option_copied c.in-Some-get.is) c.in_ok-work.field-0 c.in_ok-work.ensures.ok
    c.in-Some-2.work c.in-Some-2.is
    (subst (λ o. IfSome o (λ w. w.job ≡ c.in-Some.asked.job)) c.in-Some-2.is c.in_ok-work.ensures.job)
    (subst (λ o. IfSome o (λ w. w.number ≡ c.in-Some.asked.number)) c.in-Some-2.is c.in_ok-work.ensures.number)
    c.mark_taken.new.self c.mark_taken.ensures))
