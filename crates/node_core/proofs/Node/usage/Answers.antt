use Rattle.std.proofs.Common.{◌≡◌, is_some, sym, ap, subst, ◌∙◌}
use Rattle.std.specs.Option.{option_copied}
use Rattle.private_store.specs.rules.Commands.{usage_of}
use Rattle.private_store.specs.rules.Contents.{View}
use Rattle.job_admission.specs.Admissions.{live_at}
use Rattle.node_core.specs.Hosted.{Hosted, Shows}
use Rattle.node_core.proofs.Asking.{live-is, usage_told}
use Rattle.node_core.proofs.Node.usage.Goals as goal

pub returns-in-Some-clause-response : goal.returns-in-Some-clause-response
returns-in-Some-clause-response c = subst (λ node. (view : View) → Shows node c.args.job.0 view → c.usage.result ≡ usage_of view.shape) c.self.view_is (λ view h.
    let found = sym c.get.ensures.value ∙ ap option_copied c.in-Some.is in
    usage_told _ c.args.job c.in-Some.row.now found view h c.usage.result c.usage.ensures.shown)

pub returns-in-Some-clause-live : goal.returns-in-Some-clause-live
returns-in-Some-clause-live c =
    sym (ap is_some (sym c.get.ensures.value ∙ ap option_copied c.in-Some.is))
    ∙ live-is c.self.inside.admission c.self.inside.rows.entries c.self.invariant.jobs c.args.job
    ∙ ap (λ (n : Hosted). is_some (live_at n.admissions c.args.job)) c.self.view_is

pub returns-in-None-clause-live : goal.returns-in-None-clause-live
returns-in-None-clause-live c =
    sym (ap is_some (sym c.get.ensures.value ∙ ap option_copied c.in-None.is))
    ∙ live-is c.self.inside.admission c.self.inside.rows.entries c.self.invariant.jobs c.args.job
    ∙ ap (λ (n : Hosted). is_some (live_at n.admissions c.args.job)) c.self.view_is
