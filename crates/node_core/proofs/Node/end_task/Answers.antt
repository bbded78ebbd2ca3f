use Rattle.std.proofs.Common.{◌≡◌, ◌≤◌, ℕ, List, None, is_some, length, map, sym, ap, subst, ◌∙◌}
use Rattle.std.specs.Prelude.{◌*◌}
use Rattle.std.specs.Map.{keys_of as map_keys, set_value}
use Rattle.std.specs.Option.{option_map_or, option_copied_mut}
use Rattle.std.proofs.lemmas.Map.{keys-set_value}
use Rattle.std.proofs.lemmas.Map.Steps.{set_value_same}
use Rattle.obj_id.specs.declared.commands.Command.TheVariants as command
use Rattle.obj_id.specs.declared.commands.Reply.{Reply}
use Rattle.obj_id.specs.declared.commands.Reply.TheVariants as reply
use Rattle.private_store.specs.declared.inputs.Input.TheVariants as input
use Rattle.private_store.specs.declared.schedules.Event.TheVariants as event
use Rattle.private_store.specs.declared.schedules.NodeEvent.TheVariants.{Own}
use Rattle.private_store.specs.rules.Grants.{StandingGrant, grants_sorted, grants_ended, grants_left, is_of_task}
use Rattle.private_store.specs.rules.Jobs.{same_job}
use Rattle.grants.specs.Table.{AreGrants}
use Rattle.grants.proofs.ForCallers.{left_are_grants}
use Rattle.job_row.specs.Checks.{end_task_check}
use Rattle.row_steps.specs.Erased.{keys_of}
use Rattle.row_steps.specs.Shown.{only, RowStep}
use Rattle.node_core.specs.declared.outcome.Note.{Note}
use Rattle.node_core.specs.Foreseen.{most_by_command, grantees_in, AreTakers}
use Rattle.node_core.specs.Hosted.{Hosted, row_at}
use Rattle.node_core.specs.MemoryLast.{task_refusal}
use Rattle.node_core.specs.Outcomes.{with_no_notes, with_ends}
use Rattle.node_core.specs.Steps.{NodeGiven, NodeStep}
use Rattle.node_core.proofs.Calling.{always_err}
use Rattle.node_core.proofs.Small.{grantees_noted}
use Rattle.node_core.proofs.TaskEnds.{task_refused, task_unrefused, task_steps}
use Rattle.node_core.proofs.Views.{node_of}
use Rattle.node_core.proofs.Node.end_task.Goals as goal
use Rattle.row_steps.specs.Beside.{beside_after}

pub returns-in-Some-clause-ok : goal.returns-in-Some-clause-ok
returns-in-Some-clause-ok c =
    let e = Own (event.Call c.args.job c.args.session (command.EndTask c.args.task)) in
    let refusal = ap (λ (n : Hosted). task_refusal (row_at n c.args.job) c.args.task) c.self.view_is ∙ sym c.task_refusal.ensures ∙ c.in-Some.is in
    subst (λ given. NodeStep c.args.self.now e given c.args.self.now) (sym (c.of_row.ensures.given ∙ ap with_no_notes c.only-outcome.ensures))
    (subst (λ node. NodeStep node e (with_no_notes (only (reply.Refused c.in-Some.refusal))) node) c.self.view_is
    (task_refused c.self.inside.number c.self.inside.admission c.self.inside.works c.self.inside.grants c.self.invariant.table c.args.job c.args.session c.args.task c.self.inside.rows.entries c.in-Some.refusal refusal))

pub returns-in_err-outcome-clause-err : goal.returns-in_err-outcome-clause-err
returns-in_err-outcome-clause-err c =
    let rows = c.self.inside.rows.entries in
    let found = sym c.get_mut.ensures.value ∙ ap option_copied_mut c.in-Some-get_mut.is in
    let wrote = c.get_mut.follows.holds c.end_task.new.row in
    always_err c.from_residual-in_err-outcome.result (ap (node_of c.self.inside.number c.self.inside.admission c.self.inside.works c.self.inside.grants)
    (wrote.0 ∙ ap (set_value (same_job c.args.job) rows) c.in_err-outcome.ensures.err ∙ set_value_same (same_job c.args.job) rows c.in-Some-get_mut.row.now found) ∙ c.self.view_is)

pub invariant_of-self-2 : goal.invariant_of-self-2
invariant_of-self-2 c =
    let rows = c.self.inside.rows.entries in
    let wrote = c.get_mut.follows.holds c.end_task.new.row in
    let test = is_of_task c.args.job.0 c.args.task in
    record {
      jobs = record { jobs = ap map_keys wrote.0 ∙ keys-set_value (same_job c.args.job) rows c.end_task.new.row ∙ c.self.invariant.jobs.jobs; within = c.self.invariant.jobs.within };
      table = subst AreGrants (sym (c.take_out.ensures.left test c.in_ok-ends.ensures.found)) (left_are_grants test c.self.inside.grants c.self.invariant.table);
    }

pub returns-clause-ok : goal.returns-clause-ok
returns-clause-ok c =
    let job = c.args.job in
    let task = c.args.task in
    let rows = c.self.inside.rows.entries in
    let row = c.in-Some-get_mut.row.now in
    let after = c.end_task.new.row in
    let new = (c.get_mut.follows.lender after).entries in
    let outcome = c.in_ok-outcome.outcome in
    let e = Own (event.Call job c.args.session (command.EndTask task)) in
    let test = is_of_task job.0 task in
    let ended = grants_ended test c.self.inside.grants in
    let found = sym c.get_mut.ensures.value ∙ ap option_copied_mut c.in-Some-get_mut.is in
    let passed : end_task_check row task ≡ None =
    ap (λ o. task_refusal o task) (sym found) ∙ ap (λ (n : Hosted). task_refusal (row_at n job) task) c.self.view_is ∙ sym c.task_refusal.ensures ∙ c.in_default.is in
    let ok : outcome.reply ≡ reply.Ok = c.in_ok-outcome.ensures.reply ∙ ap (λ o. option_map_or reply.Refused o reply.Ok) passed in
    let response : Reply (List ℕ) → List StandingGrant → NodeGiven = λ reply ended. with_ends (record { reply = reply; posts = outcome.messages; erased = keys_of outcome.erase }) ended in
    let at_end : List StandingGrant → Hosted = λ grants. node_of c.self.inside.number c.self.inside.admission c.self.inside.works grants new in
    subst (λ given. NodeStep c.args.self.now e given (at_end c.take_out.new.self)) (sym (c.with_ends.ensures.given ∙ (λ i. response (ok i) ((c.grants-2.ensures ∙ ap grants_sorted c.in_ok-ends.ensures.found) i))))
    (subst (λ grants. NodeStep c.args.self.now e (response reply.Ok ended) (at_end grants)) (sym (c.take_out.ensures.left test c.in_ok-ends.ensures.found))
    (subst (λ old. NodeStep old e (response reply.Ok ended) (at_end (grants_left test c.self.inside.grants))) c.self.view_is
    (task_steps c.self.inside.number c.self.inside.admission c.self.inside.works c.self.inside.grants c.self.invariant.table job c.args.session task rows new row after outcome.messages (keys_of outcome.erase)
    found ((c.get_mut.follows.holds after).3 (ap is_some found)).0 passed
    (λ beside contents shown.
    subst (λ response. RowStep c.self.inside.number row beside contents (input.Call c.args.session (command.EndTask task)) (record { reply = response; posts = outcome.messages; erased = keys_of outcome.erase }) after (beside_after row task beside)) ok
    (c.in_ok-outcome.ensures.ok c.args.session beside contents shown)))))

pub returns-clause-bounded : goal.returns-clause-bounded
returns-clause-bounded c =
    let found = sym c.get_mut.ensures.value ∙ ap option_copied_mut c.in-Some-get_mut.is in
    subst (λ own. length c.with_ends.result.messages ≤ most_by_command own (command.EndTask c.args.task)) (sym found ∙ ap (λ (n : Hosted). row_at n c.args.job) c.self.view_is)
    (subst (λ posts. length posts ≤ 2 * length c.in-Some-get_mut.row.now.copies) (sym (ap (λ g. g.posts) c.with_ends.ensures.given)) c.in_ok-outcome.ensures.bounded)

pub returns-clause-grantees : goal.returns-clause-grantees
returns-clause-grantees c =
    let job = c.args.job in
    let task = c.args.task in
    let found = sym c.get_mut.ensures.value ∙ ap option_copied_mut c.in-Some-get_mut.is in
    let passed : end_task_check c.in-Some-get_mut.row.now task ≡ None =
    ap (λ o. task_refusal o task) (sym found) ∙ ap (λ (n : Hosted). task_refusal (row_at n job) task) c.self.view_is ∙ sym c.task_refusal.ensures ∙ c.in_default.is in
    let ok = ap (λ g. g.reply) c.with_ends.ensures.given ∙ c.in_ok-outcome.ensures.reply ∙ ap (λ o. option_map_or reply.Refused o reply.Ok) passed in
    subst (λ response. AreTakers c.args.self.now.grants (event.Call job c.args.session (command.EndTask task)) response (map (λ (note : Note). note.job) c.with_ends.result.notes)) (sym ok)
    (grantees_noted c.with_ends.result.notes c.grants-2.result.now (ap (λ g. g.notes) c.with_ends.ensures.given)
    ∙ ap grantees_in (c.grants-2.ensures ∙ ap grants_sorted c.in_ok-ends.ensures.found ∙ ap (λ (n : Hosted). grants_ended (is_of_task job.0 task) n.grants) c.self.view_is))

pub returns-in_err-ends-clause-memory_last : goal.returns-in_err-ends-clause-memory_last
returns-in_err-ends-clause-memory_last c =
    always_err c.from_residual.result (task_unrefused c.args.self.now c.args.job c.args.session c.args.task (sym c.task_refusal.ensures ∙ c.in_default.is))

pub returns-in_err-notes-clause-memory_last : goal.returns-in_err-notes-clause-memory_last
returns-in_err-notes-clause-memory_last c =
    always_err c.from_residual-in_err-notes.result (task_unrefused c.args.self.now c.args.job c.args.session c.args.task (sym c.task_refusal.ensures ∙ c.in_default.is))

pub returns-in_err-outcome-clause-memory_last : goal.returns-in_err-outcome-clause-memory_last
returns-in_err-outcome-clause-memory_last c =
    always_err c.from_residual-in_err-outcome.result (task_unrefused c.args.self.now c.args.job c.args.session c.args.task (sym c.task_refusal.ensures ∙ c.in_default.is))
