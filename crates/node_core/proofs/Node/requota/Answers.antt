use Rattle.std.proofs.Common.{◌≡◌, None, Err, is_some, sym, ap, subst, ◌∙◌}
use Rattle.std.specs.Map.{keys_of, lookup, set_value}
use Rattle.std.specs.Option.{option_copied_mut}
use Rattle.std.proofs.lemmas.Map.{keys-set_value}
use Rattle.std.proofs.lemmas.Map.Steps.{set_value_same}
use Rattle.obj_id.specs.declared.commands.Reply.TheVariants as reply
use Rattle.private_store.specs.rules.Contents.{View}
use Rattle.private_store.specs.rules.Jobs.{same_job}
use Rattle.private_store.specs.declared.schedules.Event.TheVariants as event
use Rattle.store_facts.proofs.Tests.{none_some}
use Rattle.job_admission.specs.Admissions.{resize_check}
use Rattle.row_steps.specs.Shown.{only}
use Rattle.node_core.specs.Hosted.{Hosted, Shows}
use Rattle.node_core.specs.OneJob.{NodeStepOne}
use Rattle.node_core.specs.Quotas.{requota_refusal}
use Rattle.node_core.specs.Steps.{requota_check}
use Rattle.node_core.proofs.Requotas.{resized_hosted, requota_steps, row_lets}
use Rattle.node_core.proofs.Views.{node_of}
use Rattle.node_core.proofs.Node.requota.Goals as goal

pub invariant_of-self-2 : goal.invariant_of-self-2
invariant_of-self-2 c =
    let rows = c.self.inside.rows.entries in
    let wrote = c.get_mut.follows.holds c.requota.new.row in
    record {
      jobs = resized_hosted c.self.inside.admission c.args.job c.args.quota c.resize.new.self rows (c.get_mut.follows.lender c.requota.new.row).entries c.self.invariant.jobs c.in-Ok-resize.ensures.ok
          (ap keys_of wrote.0 ∙ keys-set_value (same_job c.args.job) rows c.requota.new.row);
      table = c.self.invariant.table;
    }

pub unreachable-requires-in-Err-Refused : goal.unreachable-requires-in-Err-Refused
unreachable-requires-in-Err-Refused c =
    let rows = c.self.inside.rows.entries in
    let row = c.in-Some-get_mut.own_row.now in
    let found = sym c.get_mut.ensures.value ∙ ap option_copied_mut c.in-Some-get_mut.is in
    let none : requota_refusal (node_of c.self.inside.number c.self.inside.admission c.self.inside.works c.self.inside.grants rows) c.args.job c.args.quota ≡ None =
    ap (λ n. requota_refusal n c.args.job c.args.quota) c.self.view_is ∙ sym c.requota_check.ensures.refusal ∙ c.in_default.is in
    let refused = c.in-Err-Refused.ensures.refused c.in-Err-Refused.field-0-0 (ap Err c.in-Err-Refused.field-0-is) in
    none_some c.in-Err-Refused.field-0-0 (sym (row_lets (lookup (same_job c.args.job) rows) row c.args.quota (resize_check c.self.inside.admission c.args.job c.args.quota) found none) ∙ refused)

pub returns-in-Err-Memory-clause-err : goal.returns-in-Err-Memory-clause-err
returns-in-Err-Memory-clause-err c =
    let rows = c.self.inside.rows.entries in
    let found = sym c.get_mut.ensures.value ∙ ap option_copied_mut c.in-Some-get_mut.is in
    let wrote = c.get_mut.follows.holds c.requota.new.row in
    ap (node_of c.self.inside.number c.self.inside.admission c.self.inside.works c.self.inside.grants)
    (wrote.0 ∙ ap (set_value (same_job c.args.job) rows) c.in-Err-Memory.ensures.err ∙ set_value_same (same_job c.args.job) rows c.in-Some-get_mut.own_row.now found) ∙ c.self.view_is

pub returns-clause-ok : goal.returns-clause-ok
returns-clause-ok c =
    let rows = c.self.inside.rows.entries in
    let new = (c.get_mut.follows.lender c.requota.new.row).entries in
    let found = sym c.get_mut.ensures.value ∙ ap option_copied_mut c.in-Some-get_mut.is in
    let wrote = c.get_mut.follows.holds c.requota.new.row in
    let after : Hosted = node_of c.self.inside.number c.resize.new.self c.self.inside.works c.self.inside.grants new in
    let none : requota_refusal (node_of c.self.inside.number c.self.inside.admission c.self.inside.works c.self.inside.grants rows) c.args.job c.args.quota ≡ None =
    ap (λ n. requota_refusal n c.args.job c.args.quota) c.self.view_is ∙ sym c.requota_check.ensures.refusal ∙ c.in_default.is in
    let shown : (view : View) → Shows (node_of c.self.inside.number c.self.inside.admission c.self.inside.works c.self.inside.grants rows) c.args.job.0 view → None ≡ requota_check c.self.inside.admission view c.args.job c.args.quota =
    subst (λ (n : Hosted). (view : View) → Shows n c.args.job.0 view → None ≡ requota_check n.admissions view c.args.job c.args.quota) (sym c.self.view_is)
    (λ view h. sym c.in_default.is ∙ c.requota_check.ensures.shown view h) in
    subst (λ given. NodeStepOne c.args.self.now (event.Requota c.args.job c.args.quota) given after) (sym c.only-2.ensures)
    (subst (λ old. NodeStepOne old (event.Requota c.args.job c.args.quota) (only reply.Ok) after) c.self.view_is
    (requota_steps c.self.inside.number c.self.inside.admission c.resize.new.self c.self.inside.works c.self.inside.grants c.self.invariant.table c.args.job c.args.quota rows new c.in-Some-get_mut.own_row.now c.requota.new.row
    found (wrote.3 (ap is_some found)).0 c.in-Ok-resize.ensures.ok c.in-Ok-resize.ensures.lives c.in-Ok.ensures.ok none shown))
