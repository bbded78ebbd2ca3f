use Rattle.std.proofs.Common.{◌≡◌, Option, Some, None, sym, ap, subst, ◌∙◌}
use Rattle.std.specs.Option.{option_copied}
use Rattle.obj_id.specs.declared.refusals.Refusal.TheVariants.{NotAdmitted}
use Rattle.private_store.specs.rules.Contents.{View}
use Rattle.job_admission.specs.Admissions.{resize_check}
use Rattle.job_row.specs.Quotas.{row_requota_check as row_check}
use Rattle.job_row.specs.Row.{Row}
use Rattle.node_core.specs.Hosted.{Hosted, Shows}
use Rattle.node_core.specs.Quotas.{refused_or, requota_refusal}
use Rattle.node_core.specs.Steps.{requota_check}
use Rattle.node_core.proofs.Requotas.{not_live, by_row}
use Rattle.node_core.proofs.Node.requota_check.Goals as goal

pub returns-in_default-clause-shown : goal.returns-in_default-clause-shown
returns-in_default-clause-shown c =
    subst (λ (n : Hosted). (view : View) → Shows n c.args.job.0 view → Some NotAdmitted ≡ requota_check n.admissions view c.args.job c.args.quota) c.self.view_is
    (λ view h. not_live c.self.inside.number c.self.inside.admission c.self.inside.works c.self.inside.grants c.self.inside.rows.entries c.self.invariant.jobs c.args.job c.args.quota view
    (sym c.get.ensures.value ∙ ap option_copied c.in_default.is))

pub returns-in-Some-requota_check-clause-refusal : goal.returns-in-Some-requota_check-clause-refusal
returns-in-Some-requota_check-clause-refusal c =
    subst (λ (n : Hosted). Some c.in-Some-requota_check.refusal ≡ requota_refusal n c.args.job c.args.quota) c.self.view_is
    (sym (ap (λ (o : Option Row). elim o [ None ↦ Some NotAdmitted | Some row ↦ refused_or (row_check row c.args.quota) (resize_check c.self.inside.admission c.args.job c.args.quota) ]) (sym c.get.ensures.value ∙ ap option_copied c.in-Some.is)
    ∙ ap (λ o. refused_or o (resize_check c.self.inside.admission c.args.job c.args.quota)) (sym c.requota_check.ensures.row ∙ c.in-Some-requota_check.is)))

pub returns-in-Some-requota_check-clause-shown : goal.returns-in-Some-requota_check-clause-shown
returns-in-Some-requota_check-clause-shown c =
    subst (λ (n : Hosted). (view : View) → Shows n c.args.job.0 view → Some c.in-Some-requota_check.refusal ≡ requota_check n.admissions view c.args.job c.args.quota) c.self.view_is
    (λ view h. ap (λ o. refused_or o (resize_check c.self.inside.admission c.args.job c.args.quota)) (sym c.in-Some-requota_check.is)
    ∙ by_row c.self.inside.number c.self.inside.admission c.self.inside.works c.self.inside.grants c.self.inside.rows.entries c.self.invariant.jobs c.args.job c.args.quota
    c.in-Some.row.now (sym c.get.ensures.value ∙ ap option_copied c.in-Some.is) c.requota_check.result c.requota_check.ensures.store view h)

pub returns-clause-refusal : goal.returns-clause-refusal
returns-clause-refusal c =
    subst (λ (n : Hosted). c.resize_check.result ≡ requota_refusal n c.args.job c.args.quota) c.self.view_is
    (c.resize_check.ensures
    ∙ sym (ap (λ (o : Option Row). elim o [ None ↦ Some NotAdmitted | Some row ↦ refused_or (row_check row c.args.quota) (resize_check c.self.inside.admission c.args.job c.args.quota) ]) (sym c.get.ensures.value ∙ ap option_copied c.in-Some.is)
    ∙ ap (λ o. refused_or o (resize_check c.self.inside.admission c.args.job c.args.quota)) (sym c.requota_check.ensures.row ∙ c.in_default-requota_check.is)))

pub returns-clause-shown : goal.returns-clause-shown
returns-clause-shown c =
    subst (λ (n : Hosted). (view : View) → Shows n c.args.job.0 view → c.resize_check.result ≡ requota_check n.admissions view c.args.job c.args.quota) c.self.view_is
    (λ view h. c.resize_check.ensures ∙ ap (λ o. refused_or o (resize_check c.self.inside.admission c.args.job c.args.quota)) (sym c.in_default-requota_check.is)
    ∙ by_row c.self.inside.number c.self.inside.admission c.self.inside.works c.self.inside.grants c.self.inside.rows.entries c.self.invariant.jobs c.args.job c.args.quota
    c.in-Some.row.now (sym c.get.ensures.value ∙ ap option_copied c.in-Some.is) c.requota_check.result c.requota_check.ensures.store view h)
