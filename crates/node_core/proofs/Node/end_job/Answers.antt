use Rattle.std.proofs.Common.{is_some, length, map, sym, ap, subst, ◌∙◌, arith}
use Rattle.private_store.specs.declared.schedules.Event.TheVariants as event
use Rattle.private_store.specs.declared.schedules.NodeEvent.TheVariants.{Own}
use Rattle.private_store.specs.rules.Grants.{grants_sorted, grants_ended, is_given_by}
use Rattle.job_admission.specs.Admissions.{live_at}
use Rattle.row_steps.specs.Outcomes.{row_given_of}
use Rattle.node_core.specs.declared.outcome.Note.{Note}
use Rattle.node_core.specs.Foreseen.{grantees_in, AreTakers}
use Rattle.node_core.specs.Hosted.{Hosted, IsHosted}
use Rattle.node_core.specs.Outcomes.{with_ends}
use Rattle.node_core.specs.Steps.{NodeStep}
use Rattle.node_core.proofs.Ending.{end_refused, job_ends}
use Rattle.node_core.proofs.Small.{grantees_noted}
use Rattle.node_core.proofs.Node.end_job.Goals as goal

pub returns-then-not-is_live-clause-ok : goal.returns-then-not-is_live-clause-ok
returns-then-not-is_live-clause-ok c =
    let none = ap (λ (n : Hosted). is_some (live_at n.admissions c.args.job)) (sym c.self.view_is) ∙ sym c.is_live.ensures ∙ c.if-not-is_live.true in
    subst (λ given. NodeStep c.args.self.now (Own (event.JobEnd c.args.job)) given c.args.self.now) (sym c.refused.ensures.given)
    (end_refused c.args.self.now c.args.job none)

pub returns-then-not-is_live-clause-grantees : goal.returns-then-not-is_live-clause-grantees
returns-then-not-is_live-clause-grantees c =
    subst (λ response. AreTakers c.args.self.now.grants (event.JobEnd c.args.job) response (map (λ (note : Note). note.job) c.refused.result.notes))
    (sym (ap (λ g. g.reply) c.refused.ensures.given))
    (ap (map (λ (note : Note). note.job)) c.refused.ensures.notes)

pub with_ends-requires-clause-room : goal.with_ends-requires-clause-room
with_ends-requires-clause-room c =
    let same = ap length (c.grants-2.ensures ∙ sym c.grants.ensures) in
    omega (arith, same, c.in_ok-notes.ensures.len, c.in_ok-notes.ensures.capacity)

pub returns-clause-ok : goal.returns-clause-ok
returns-clause-ok c =
    let e = Own (event.JobEnd c.args.job) in
    let hosted = subst (λ (n : Hosted). IsHosted n.admissions n.grants n.rows) c.self.view_is c.self.invariant in
    let live = ap (λ (n : Hosted). is_some (live_at n.admissions c.args.job)) (sym c.self.view_is) ∙ sym c.is_live.ensures ∙ c.if-not-is_live.false in
    let ended = c.grants-2.ensures ∙ ap grants_sorted c.in_ok-ends.ensures.found ∙ ap (λ (n : Hosted). grants_ended (is_given_by c.args.job.0) n.grants) c.self.view_is in
    subst (λ given. NodeStep c.args.self.now e given c.let_job_go.new.self) (sym (c.with_ends.ensures.given ∙ ap (with_ends (row_given_of c.in_ok-outcome.outcome)) ended))
    (job_ends c.args.self.now c.let_job_go.new.self c.args.job (row_given_of c.in_ok-outcome.outcome) hosted live c.in_ok-outcome.ensures.ok c.let_job_go.ensures)

pub returns-clause-grantees : goal.returns-clause-grantees
returns-clause-grantees c =
    subst (λ response. AreTakers c.args.self.now.grants (event.JobEnd c.args.job) response (map (λ (note : Note). note.job) c.with_ends.result.notes))
    (sym (ap (λ g. g.reply) (c.with_ends.ensures.given ∙ ap (λ given. with_ends given c.grants-2.result.now) c.in_ok-outcome.ensures.ok.is)))
    (grantees_noted c.with_ends.result.notes c.grants-2.result.now (ap (λ g. g.notes) c.with_ends.ensures.given)
    ∙ ap grantees_in (c.grants-2.ensures ∙ ap grants_sorted c.in_ok-ends.ensures.found ∙ ap (λ (n : Hosted). grants_ended (is_given_by c.args.job.0) n.grants) c.self.view_is))
