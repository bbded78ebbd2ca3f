use Rattle.std.proofs.Common.{◌≡◌, List, [], ◌∷◌, ◌++◌, Some, cond, ap, subst, ◌∙◌}
use Rattle.std.specs.Map.{lookup}
use Rattle.indexmap.proofs.CallerLemmas.{insert_entry-new}
use Rattle.obj_id.specs.declared.commands.Reply.TheVariants as reply
use Rattle.obj_id.specs.declared.ids.JobNo.{JobNo}
use Rattle.private_store.specs.rules.Jobs.{same_job}
use Rattle.private_store.specs.declared.schedules.Event.TheVariants as event
use Rattle.job_admission.specs.Admissions.{admit_check}
use Rattle.job_row.specs.Row.{Row, new_row}
use Rattle.row_steps.specs.Shown.{only}
use Rattle.node_core.specs.Hosted.{Hosted}
use Rattle.node_core.specs.OneJob.{NodeStepOne}
use Rattle.node_core.proofs.Admitting.{absent, admitted_hosted, admit_steps}
use Rattle.node_core.proofs.Node.add_row.Goals as goal

pub invariant_of-self-2 : goal.invariant_of-self-2
invariant_of-self-2 c =
    let rows = c.self.inside.rows.entries in
    let new = c.insert.new.table.entries in
    let same : c.reserve.new.table.entries ≡ rows = c.reserve.ensures.entries in
    let passed = ap (λ (n : Hosted). admit_check n.admissions c.args.job c.args.quota) c.self.view_is ∙ c.requires in
    let none = absent c.self.inside.number c.self.inside.admission c.admit.new.self c.self.inside.works c.self.inside.grants c.args.job c.args.quota c.args.key rows new c.self.invariant.jobs passed c.in-Ok-admit.ensures.ok in
    record {
      jobs = admitted_hosted c.self.inside.number c.self.inside.admission c.admit.new.self c.self.inside.works c.self.inside.grants c.args.job c.args.quota c.args.key rows new c.self.invariant.jobs passed c.in-Ok-admit.ensures.ok
          (c.in_ok-insert.ensures.entries ∙ insert_entry-new same_job c.reserve.new.table c.args.job c.in-Ok.row (ap (lookup (same_job c.args.job)) same ∙ none)
          ∙ ap (λ (es : List (JobNo × Row)). es ++ (c.args.job, c.in-Ok.row) ∷ []) same ∙ ap (λ (r : Row). rows ++ (c.args.job, r) ∷ []) c.in-Ok.ensures.ok);
      table = c.self.invariant.table;
    }

pub returns-clause-ok : goal.returns-clause-ok
returns-clause-ok c =
    let rows = c.self.inside.rows.entries in
    let new = c.insert.new.table.entries in
    let same : c.reserve.new.table.entries ≡ rows = c.reserve.ensures.entries in
    let passed = ap (λ (n : Hosted). admit_check n.admissions c.args.job c.args.quota) c.self.view_is ∙ c.requires in
    let e = event.Admit c.args.job c.args.quota c.args.key in
    let after : Hosted = record { number = c.self.inside.number; admissions = c.admit.new.self; works = c.self.inside.works; grants = c.self.inside.grants; rows = new } in
    subst (λ old. NodeStepOne old e (only reply.Ok) after) c.self.view_is
    (admit_steps c.self.inside.number c.self.inside.admission c.admit.new.self c.self.inside.works c.self.inside.grants c.args.job c.args.quota c.args.key rows new c.self.invariant.jobs passed c.in-Ok-admit.ensures.ok
    (λ q. c.in_ok-insert.ensures.updates.0 q
    ∙ ap (λ (r : Row). cond (same_job c.args.job q) (Some r) (lookup (same_job q) c.reserve.new.table.entries)) c.in-Ok.ensures.ok
    ∙ ap (λ (es : List (JobNo × Row)). cond (same_job c.args.job q) (Some (new_row c.args.job.0 c.args.quota)) (lookup (same_job q) es)) same)
    c.in-Ok-admit.ensures.lives)
