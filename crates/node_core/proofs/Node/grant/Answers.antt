use Rattle.std.proofs.Common.{List, [], ◌∷◌, is_some, length, map, refl, sym, ap, subst, ◌∙◌}
use Rattle.std.specs.Map.{keys_of, lookup}
use Rattle.std.specs.Option.{option_copied_mut}
use Rattle.std.proofs.lemmas.Map.{keys-set_value}
use Rattle.std.proofs.lemmas.Map.Steps.{set_value_same}
use Rattle.obj_id.specs.declared.commands.Command.TheVariants as command
use Rattle.obj_id.specs.declared.commands.Reply.TheVariants as reply
use Rattle.private_store.specs.declared.schedules.Event.TheVariants as event
use Rattle.private_store.specs.declared.schedules.NodeEvent.TheVariants.{Own}
use Rattle.private_store.specs.rules.Grants.{StandingGrant, new_grant, with_grant}
use Rattle.private_store.specs.rules.Jobs.{same_job}
use Rattle.grants.specs.Table.{AreGrants}
use Rattle.grants.proofs.ForCallers.{made_for}
use Rattle.row_steps.specs.Outcomes.{row_given_of}
use Rattle.row_steps.specs.Shown.{only}
use Rattle.node_core.specs.declared.outcome.Note.{Note}
use Rattle.node_core.specs.Foreseen.{AreTakers}
use Rattle.node_core.specs.Granting.{grant_refusal}
use Rattle.node_core.specs.Hosted.{Hosted, bytes_here}
use Rattle.node_core.specs.Outcomes.{with_given, with_no_notes}
use Rattle.node_core.specs.Steps.{NodeStep}
use Rattle.node_core.proofs.Calling.{always_err}
use Rattle.node_core.proofs.Giving.{granted_are, grant_steps, no_row_steps, row_stays_steps, unrefused}
use Rattle.node_core.proofs.GrantCommands.{refused_grant, table_passed}
use Rattle.node_core.proofs.Small.{grantee_noted}
use Rattle.node_core.proofs.Views.{node_of}
use Rattle.node_core.proofs.Node.grant.Goals as goal

pub returns-in_default-clause-ok : goal.returns-in_default-clause-ok
returns-in_default-clause-ok c =
    let e = Own (event.Call c.args.job c.args.session (command.Grant c.args.id.now c.args.target)) in
    let rows = c.get_mut.follows.lender-at-none.entries in
    let same = ap (λ r. r.entries) c.get_mut.follows.holds-at-none in
    let none = ap (lookup (same_job c.args.job)) same ∙ sym c.get_mut.ensures.value ∙ ap option_copied_mut c.in_default.is in
    let all = node_of c.self.inside.number c.self.inside.admission c.self.inside.works c.self.inside.grants in
    subst (λ given. NodeStep c.args.self.now e given (all rows)) (sym c.refused.ensures.given)
    (subst (λ old. NodeStep old e _ (all rows)) (ap all same ∙ c.self.view_is)
    (no_row_steps c.self.inside.number c.self.inside.admission c.self.inside.works c.self.inside.grants c.self.invariant.table c.args.job c.args.session (command.Grant c.args.id.now c.args.target) rows none))

pub returns-in-Some-grant_refusal-clause-ok : goal.returns-in-Some-grant_refusal-clause-ok
returns-in-Some-grant_refusal-clause-ok c =
    let e = Own (event.Call c.args.job c.args.session (command.Grant c.args.id.now c.args.target)) in
    let rows = c.self.inside.rows.entries in
    let row = c.in-Some.row.now in
    let new = (c.get_mut.follows.lender row).entries in
    let found = sym c.get_mut.ensures.value ∙ ap option_copied_mut c.in-Some.is in
    let wrote = c.get_mut.follows.holds row in
    let check = ap (grant_refusal row c.args.job.0 c.args.id.now c.args.target.0) (sym c.grant_check-table.ensures) ∙ sym c.grant_refusal.ensures ∙ c.in-Some-grant_refusal.is in
    let all = node_of c.self.inside.number c.self.inside.admission c.self.inside.works c.self.inside.grants in
    subst (λ given. NodeStep c.args.self.now e given (all new)) (sym c.refused-in-Some-grant_refusal.ensures.given)
    (subst (λ old. NodeStep old e (with_no_notes (only (reply.Refused c.in-Some-grant_refusal.refusal))) (all new)) c.self.view_is
    (row_stays_steps c.self.inside.number c.self.inside.admission c.self.inside.works c.self.inside.grants c.self.invariant.table c.args.job c.args.session (command.Grant c.args.id.now c.args.target)
    rows new row c.in-Some-grant_refusal.refusal found (wrote.3 (ap is_some found)).0
    (λ contents own shown. refused_grant c.self.inside.number c.self.inside.works c.self.inside.grants (bytes_here rows) c.args.job row contents c.args.session c.args.id.now c.args.target own shown c.in-Some-grant_refusal.refusal check)))

pub returns-in_err-notes-clause-memory_last : goal.returns-in_err-notes-clause-memory_last
returns-in_err-notes-clause-memory_last c =
    let row = c.in-Some.row.now in
    let passed = ap (grant_refusal row c.args.job.0 c.args.id.now c.args.target.0) (sym c.grant_check-table.ensures) ∙ sym c.grant_refusal.ensures ∙ c.in_default-grant_refusal.is in
    always_err c.from_residual.result
    (unrefused c.self.inside.number c.self.inside.admission c.self.inside.works c.self.inside.grants c.self.invariant.table c.args.job c.args.session (command.Grant c.args.id.now c.args.target)
    c.self.inside.rows.entries row c.args.self.now c.self.view_is (sym c.get_mut.ensures.value ∙ ap option_copied_mut c.in-Some.is) (record { own = refl; passed = refl; grows = refl }) passed (λ own. tt))

pub returns-in_err-notes-clause-err : goal.returns-in_err-notes-clause-err
returns-in_err-notes-clause-err c =
    let rows = c.self.inside.rows.entries in
    let found = sym c.get_mut.ensures.value ∙ ap option_copied_mut c.in-Some.is in
    let wrote = c.get_mut.follows.holds c.in-Some.row.now in
    always_err c.from_residual.result
    (ap (node_of c.self.inside.number c.self.inside.admission c.self.inside.works c.self.inside.grants) (wrote.0 ∙ set_value_same (same_job c.args.job) rows c.in-Some.row.now found) ∙ c.self.view_is)

pub returns-in-Err-Memory-clause-memory_last : goal.returns-in-Err-Memory-clause-memory_last
returns-in-Err-Memory-clause-memory_last c =
    let row = c.in-Some.row.now in
    let passed = ap (grant_refusal row c.args.job.0 c.args.id.now c.args.target.0) (sym c.grant_check-table.ensures) ∙ sym c.grant_refusal.ensures ∙ c.in_default-grant_refusal.is in
    unrefused c.self.inside.number c.self.inside.admission c.self.inside.works c.self.inside.grants c.self.invariant.table c.args.job c.args.session (command.Grant c.args.id.now c.args.target)
    c.self.inside.rows.entries row c.args.self.now c.self.view_is (sym c.get_mut.ensures.value ∙ ap option_copied_mut c.in-Some.is) (record { own = refl; passed = refl; grows = refl }) passed (λ own. tt)

pub returns-in-Err-Memory-clause-err : goal.returns-in-Err-Memory-clause-err
returns-in-Err-Memory-clause-err c =
    let rows = c.self.inside.rows.entries in
    let found = sym c.get_mut.ensures.value ∙ ap option_copied_mut c.in-Some.is in
    let same = (c.get_mut.follows.holds c.in-Some.row.now).0 ∙ set_value_same (same_job c.args.job) rows c.in-Some.row.now found in
    (λ i. node_of c.self.inside.number c.self.inside.admission c.self.inside.works (c.in-Err-Memory.ensures.err i) (same i)) ∙ c.self.view_is

pub give-outcome-requires : goal.give-outcome-requires
give-outcome-requires c = sym c.grant_refusal.ensures ∙ c.in_default-grant_refusal.is

pub invariant_of-self-2 : goal.invariant_of-self-2
invariant_of-self-2 c =
    let rows = c.self.inside.rows.entries in
    let row = c.in-Some.row.now in
    let passed = ap (grant_refusal row c.args.job.0 c.args.id.now c.args.target.0) (sym c.grant_check-table.ensures) ∙ sym c.grant_refusal.ensures ∙ c.in_default-grant_refusal.is in
    record {
      jobs = record {
        jobs = ap keys_of (c.get_mut.follows.holds c.give-outcome.new.row).0 ∙ keys-set_value (same_job c.args.job) rows c.give-outcome.new.row ∙ c.self.invariant.jobs.jobs;
        within = c.self.invariant.jobs.within;
      };
      table = subst AreGrants (sym c.in-Ok.ensures.ok)
          (granted_are c.self.inside.grants c.args.job.0 c.args.id.now c.args.target.0 c.self.invariant.table (table_passed row c.args.job.0 c.args.id.now c.args.target.0 _ passed));
    }

pub returns-clause-ok : goal.returns-clause-ok
returns-clause-ok c =
    let e = Own (event.Call c.args.job c.args.session (command.Grant c.args.id.now c.args.target)) in
    let rows = c.self.inside.rows.entries in
    let row = c.in-Some.row.now in
    let new = (c.get_mut.follows.lender c.give-outcome.new.row).entries in
    let found = sym c.get_mut.ensures.value ∙ ap option_copied_mut c.in-Some.is in
    let wrote = c.get_mut.follows.holds c.give-outcome.new.row in
    let passed = ap (grant_refusal row c.args.job.0 c.args.id.now c.args.target.0) (sym c.grant_check-table.ensures) ∙ sym c.grant_refusal.ensures ∙ c.in_default-grant_refusal.is in
    let all : List StandingGrant → Hosted = λ grants. node_of c.self.inside.number c.self.inside.admission c.self.inside.works grants new in
    let given = with_given (row_given_of c.give-outcome.result) (new_grant c.self.inside.grants c.args.id.now c.args.job.0 c.args.target.0) c.granted_length-length.result in
    let long = c.granted_length-length.ensures ∙ ap (λ (n : Hosted). length (bytes_here n.rows c.args.id.now)) (sym c.self.view_is) in
    subst (λ given. NodeStep c.args.self.now e given (all c.grant.new.self)) (sym (c.with_given.ensures.given ∙ ap (λ made. with_given (row_given_of c.give-outcome.result) made c.granted_length-length.result) c.in-Ok.ensures.made))
    (subst (λ grants. NodeStep c.args.self.now e given (all grants)) (sym c.in-Ok.ensures.ok)
    (subst (λ old. NodeStep old e given (all (with_grant c.self.inside.grants c.args.id.now c.args.job.0 c.args.target.0))) c.self.view_is
    (grant_steps c.self.inside.number c.self.inside.admission c.self.inside.works c.self.inside.grants c.self.invariant.table c.args.job c.args.session c.args.id.now c.args.target
    rows new row c.give-outcome.new.row (row_given_of c.give-outcome.result) c.give-outcome.ensures.reply found (wrote.3 (ap is_some found)).0 passed (c.give-outcome.ensures.step c.args.session) c.granted_length-length.result long)))

pub returns-clause-grantees : goal.returns-clause-grantees
returns-clause-grantees c =
    let e = event.Call c.args.job c.args.session (command.Grant c.args.id.now c.args.target) in
    let jobs = grantee_noted c.with_given.result.notes c.in-Ok.made c.granted_length-length.result (ap (λ g. g.notes) c.with_given.ensures.given) in
    let grantee = (made_for (λ id. 0) c.self.inside.grants c.args.job.0 c.args.id.now c.args.target.0).2 in
    subst (λ response. AreTakers c.args.self.now.grants e response (map (λ (note : Note). note.job) c.with_given.result.notes)) (sym (ap (λ g. g.reply) c.with_given.ensures.given ∙ c.give-outcome.ensures.reply))
    (jobs ∙ ap (λ n. record { 0 = n } ∷ []) (ap (λ made. made.grantee) c.in-Ok.ensures.made ∙ grantee))
