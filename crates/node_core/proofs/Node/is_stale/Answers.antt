use Rattle.std.proofs.Common.{not, is_some, sym, ap, subst, ◌∙◌}
use Rattle.std.specs.Option.{option_copied}
use Rattle.obj_id.specs.declared.commands.Reply.TheVariants as reply
use Rattle.obj_id.specs.declared.refusals.Refusal.TheVariants.{Stale}
use Rattle.private_store.specs.declared.schedules.NodeEvent.TheVariants.{Arrive}
use Rattle.store_facts.proofs.Tests.{true_false}
use Rattle.job_admission.specs.Admissions.{live_at}
use Rattle.row_steps.specs.Shown.{only}
use Rattle.node_core.specs.Hosted.{Hosted}
use Rattle.node_core.specs.Outcomes.{with_no_notes}
use Rattle.node_core.specs.Steps.{NodeStep}
use Rattle.node_core.proofs.Arriving.{stale_steps}
use Rattle.node_core.proofs.Asking.{live-is}
use Rattle.node_core.proofs.Node.is_stale.Goals as goal

pub returns-in-Some-clause-live : goal.returns-in-Some-clause-live
returns-in-Some-clause-live c =
    let there = sym (sym c.get.ensures.value ∙ ap option_copied c.in-Some.is) in
    ap not (ap is_some there ∙ live-is c.self.inside.admission c.self.inside.rows.entries c.self.invariant.jobs c.args.job
    ∙ ap (λ (n : Hosted). is_some (live_at n.admissions c.args.job)) c.self.view_is)

pub returns-in-None-clause-live : goal.returns-in-None-clause-live
returns-in-None-clause-live c =
    let there = sym (sym c.get.ensures.value ∙ ap option_copied c.in-None.is) in
    ap not (ap is_some there ∙ live-is c.self.inside.admission c.self.inside.rows.entries c.self.invariant.jobs c.args.job
    ∙ ap (λ (n : Hosted). is_some (live_at n.admissions c.args.job)) c.self.view_is)

pub returns-in-None-clause-stale : goal.returns-in-None-clause-stale
returns-in-None-clause-stale c gone a =
    let none = sym c.get.ensures.value ∙ ap option_copied c.in-None.is in
    subst (λ node. NodeStep node (Arrive c.args.job a) (with_no_notes (only (reply.Refused Stale))) node) c.self.view_is
    (stale_steps c.self.inside.number c.self.inside.admission c.self.inside.works c.self.inside.grants c.args.job a c.self.inside.rows.entries none
    (sym (live-is c.self.inside.admission c.self.inside.rows.entries c.self.invariant.jobs c.args.job) ∙ ap is_some none))

pub returns-in-Some-clause-stale : goal.returns-in-Some-clause-stale
returns-in-Some-clause-stale c gone a = true_false gone
