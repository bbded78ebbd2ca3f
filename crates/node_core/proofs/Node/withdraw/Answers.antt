use Rattle.std.proofs.Common.{List, None, Some, cond, is_some, length, map, refl, sym, ap, subst, ◌∙◌, arith}
use Rattle.std.specs.List.{list_any}
use Rattle.std.specs.Map.{keys_of, lookup}
use Rattle.std.specs.Option.{option_copied_mut}
use Rattle.std.proofs.lemmas.Map.{keys-set_value}
use Rattle.std.proofs.lemmas.Map.Steps.{set_value_same}
use Rattle.obj_id.specs.declared.commands.Command.TheVariants as command
use Rattle.obj_id.specs.declared.refusals.Refusal.TheVariants.{NotGranted}
use Rattle.private_store.specs.declared.schedules.Event.TheVariants as event
use Rattle.private_store.specs.declared.schedules.NodeEvent.TheVariants.{Own}
use Rattle.private_store.specs.rules.Grants.{StandingGrant, grants_ended, grants_left, is_withdrawn}
use Rattle.private_store.specs.rules.Jobs.{same_job}
use Rattle.grants.specs.Table.{AreGrants, is_first}
use Rattle.grants.proofs.ForCallers.{left_are_grants, few_end}
use Rattle.row_steps.specs.Outcomes.{row_given_of}
use Rattle.node_core.specs.declared.outcome.Note.{Note}
use Rattle.node_core.specs.Foreseen.{grantees_in, AreTakers}
use Rattle.node_core.specs.Hosted.{Hosted, bytes_here}
use Rattle.node_core.specs.Outcomes.{with_ends}
use Rattle.node_core.specs.Steps.{NodeStep}
use Rattle.node_core.proofs.Calling.{always_err}
use Rattle.node_core.proofs.Giving.{no_row_steps, row_stays_steps, unrefused}
use Rattle.node_core.proofs.GrantCommands.{refused_withdraw}
use Rattle.node_core.proofs.Small.{grantees_noted}
use Rattle.node_core.proofs.Views.{node_of}
use Rattle.node_core.proofs.Withdrawing.{withdraw_steps}
use Rattle.node_core.proofs.Node.withdraw.Goals as goal

pub returns-in_default-clause-ok : goal.returns-in_default-clause-ok
returns-in_default-clause-ok c =
    let e = Own (event.Call c.args.job c.args.session (command.Withdraw c.args.id.now c.args.target)) in
    let rows = c.get_mut.follows.lender-at-none.entries in
    let same = ap (λ r. r.entries) c.get_mut.follows.holds-at-none in
    let none = ap (lookup (same_job c.args.job)) same ∙ sym c.get_mut.ensures.value ∙ ap option_copied_mut c.in_default.is in
    let all = node_of c.self.inside.number c.self.inside.admission c.self.inside.works c.self.inside.grants in
    subst (λ given. NodeStep c.args.self.now e given (all rows)) (sym c.refused.ensures.given)
    (subst (λ old. NodeStep old e _ (all rows)) (ap all same ∙ c.self.view_is)
    (no_row_steps c.self.inside.number c.self.inside.admission c.self.inside.works c.self.inside.grants c.self.invariant.table c.args.job c.args.session (command.Withdraw c.args.id.now c.args.target) rows none))

pub returns-then-not-has_given-clause-ok : goal.returns-then-not-has_given-clause-ok
returns-then-not-has_given-clause-ok c =
    let e = Own (event.Call c.args.job c.args.session (command.Withdraw c.args.id.now c.args.target)) in
    let rows = c.self.inside.rows.entries in
    let row = c.in-Some.row.now in
    let new = (c.get_mut.follows.lender row).entries in
    let found = sym c.get_mut.ensures.value ∙ ap option_copied_mut c.in-Some.is in
    let wrote = c.get_mut.follows.holds row in
    let all = node_of c.self.inside.number c.self.inside.admission c.self.inside.works c.self.inside.grants in
    let check = ap (λ b. cond b None (Some NotGranted)) (sym c.has_given.ensures ∙ c.if-not-has_given.true) in
    subst (λ given. NodeStep c.args.self.now e given (all new)) (sym c.refused-then-not-has_given.ensures.given)
    (subst (λ old. NodeStep old e _ (all new)) c.self.view_is
    (row_stays_steps c.self.inside.number c.self.inside.admission c.self.inside.works c.self.inside.grants c.self.invariant.table c.args.job c.args.session (command.Withdraw c.args.id.now c.args.target)
    rows new row NotGranted found (wrote.3 (ap is_some found)).0
    (λ contents own shown. refused_withdraw c.self.inside.number c.self.inside.works c.self.inside.grants (bytes_here rows) c.args.job row contents c.args.session c.args.id.now c.args.target own shown NotGranted check)))

pub returns-in_err-notes-clause-memory_last : goal.returns-in_err-notes-clause-memory_last
returns-in_err-notes-clause-memory_last c =
    let stands = ap (λ b. cond b None (Some NotGranted)) (sym c.has_given.ensures ∙ c.if-not-has_given.false) in
    always_err c.from_residual.result
    (unrefused c.self.inside.number c.self.inside.admission c.self.inside.works c.self.inside.grants c.self.invariant.table c.args.job c.args.session (command.Withdraw c.args.id.now c.args.target)
    c.self.inside.rows.entries c.in-Some.row.now c.args.self.now c.self.view_is (sym c.get_mut.ensures.value ∙ ap option_copied_mut c.in-Some.is) (record { own = refl; passed = refl; grows = refl }) stands (λ own. tt))

pub returns-in_err-notes-clause-err : goal.returns-in_err-notes-clause-err
returns-in_err-notes-clause-err c =
    let rows = c.self.inside.rows.entries in
    let found = sym c.get_mut.ensures.value ∙ ap option_copied_mut c.in-Some.is in
    let wrote = c.get_mut.follows.holds c.in-Some.row.now in
    always_err c.from_residual.result
    (ap (node_of c.self.inside.number c.self.inside.admission c.self.inside.works c.self.inside.grants) (wrote.0 ∙ set_value_same (same_job c.args.job) rows c.in-Some.row.now found) ∙ c.self.view_is)

pub returns-in-Err-Memory-clause-memory_last : goal.returns-in-Err-Memory-clause-memory_last
returns-in-Err-Memory-clause-memory_last c =
    let stands = ap (λ b. cond b None (Some NotGranted)) (sym c.has_given.ensures ∙ c.if-not-has_given.false) in
    unrefused c.self.inside.number c.self.inside.admission c.self.inside.works c.self.inside.grants c.self.invariant.table c.args.job c.args.session (command.Withdraw c.args.id.now c.args.target)
    c.self.inside.rows.entries c.in-Some.row.now c.args.self.now c.self.view_is (sym c.get_mut.ensures.value ∙ ap option_copied_mut c.in-Some.is) (record { own = refl; passed = refl; grows = refl }) stands (λ own. tt)

pub returns-in-Err-Memory-clause-err : goal.returns-in-Err-Memory-clause-err
returns-in-Err-Memory-clause-err c =
    let rows = c.self.inside.rows.entries in
    let found = sym c.get_mut.ensures.value ∙ ap option_copied_mut c.in-Some.is in
    let same = (c.get_mut.follows.holds c.in-Some.row.now).0 ∙ set_value_same (same_job c.args.job) rows c.in-Some.row.now found in
    (λ i. node_of c.self.inside.number c.self.inside.admission c.self.inside.works (c.in-Err-Memory.ensures.err i) (same i)) ∙ c.self.view_is

pub with_ends-requires-clause-room : goal.with_ends-requires-clause-room
with_ends-requires-clause-room c =
    let few = few_end (is_withdrawn c.args.job.0 c.args.id.now c.args.target.0) c.self.inside.grants in
    let same = ap length (c.as_slice-2.ensures ∙ c.in-Ok.ensures.response) in
    let all = ap length c.as_slice.ensures in
    omega (arith, few, same, all, c.in_ok-notes.ensures.len, c.in_ok-notes.ensures.capacity)

pub invariant_of-self-2 : goal.invariant_of-self-2
invariant_of-self-2 c =
    let rows = c.self.inside.rows.entries in
    record {
      jobs = record {
        jobs = ap keys_of (c.get_mut.follows.holds c.let_go-outcome.new.row).0 ∙ keys-set_value (same_job c.args.job) rows c.let_go-outcome.new.row ∙ c.self.invariant.jobs.jobs;
        within = c.self.invariant.jobs.within;
      };
      table = subst AreGrants (sym c.in-Ok.ensures.ok) (left_are_grants (is_withdrawn c.args.job.0 c.args.id.now c.args.target.0) c.self.inside.grants c.self.invariant.table);
    }

pub returns-clause-ok : goal.returns-clause-ok
returns-clause-ok c =
    let e = Own (event.Call c.args.job c.args.session (command.Withdraw c.args.id.now c.args.target)) in
    let rows = c.self.inside.rows.entries in
    let new = (c.get_mut.follows.lender c.let_go-outcome.new.row).entries in
    let found = sym c.get_mut.ensures.value ∙ ap option_copied_mut c.in-Some.is in
    let wrote = c.get_mut.follows.holds c.let_go-outcome.new.row in
    let stands = ap (λ b. cond b None (Some NotGranted)) (sym c.has_given.ensures ∙ c.if-not-has_given.false) in
    let says = c.is_granted-granted.ensures ∙ ap (list_any (is_first c.args.id.now)) c.in-Ok.ensures.ok in
    let test = is_withdrawn c.args.job.0 c.args.id.now c.args.target.0 in
    let given = with_ends (row_given_of c.let_go-outcome.result) (grants_ended test c.self.inside.grants) in
    let all : List StandingGrant → Hosted = λ grants. node_of c.self.inside.number c.self.inside.admission c.self.inside.works grants new in
    subst (λ given. NodeStep c.args.self.now e given (all c.withdraw.new.self)) (sym (c.with_ends.ensures.given ∙ ap (with_ends (row_given_of c.let_go-outcome.result)) (c.as_slice-2.ensures ∙ c.in-Ok.ensures.response)))
    (subst (λ grants. NodeStep c.args.self.now e given (all grants)) (sym c.in-Ok.ensures.ok)
    (subst (λ old. NodeStep old e given (all (grants_left test c.self.inside.grants))) c.self.view_is
    (withdraw_steps c.self.inside.number c.self.inside.admission c.self.inside.works c.self.inside.grants c.self.invariant.table c.args.job c.args.session c.args.id.now c.args.target
    rows new c.in-Some.row.now c.let_go-outcome.new.row (row_given_of c.let_go-outcome.result) c.let_go-outcome.ensures.reply c.is_granted-granted.result found (wrote.3 (ap is_some found)).0 stands says (c.let_go-outcome.ensures.step c.args.session))))

pub returns-clause-grantees : goal.returns-clause-grantees
returns-clause-grantees c =
    let e = event.Call c.args.job c.args.session (command.Withdraw c.args.id.now c.args.target) in
    let test = is_withdrawn c.args.job.0 c.args.id.now c.args.target.0 in
    subst (λ response. AreTakers c.args.self.now.grants e response (map (λ (note : Note). note.job) c.with_ends.result.notes)) (sym (ap (λ g. g.reply) c.with_ends.ensures.given ∙ c.let_go-outcome.ensures.reply))
    (grantees_noted c.with_ends.result.notes c.as_slice-2.result.now (ap (λ g. g.notes) c.with_ends.ensures.given)
    ∙ ap grantees_in (c.as_slice-2.ensures ∙ c.in-Ok.ensures.response ∙ ap (λ (n : Hosted). grants_ended test n.grants) c.self.view_is))
