use Rattle.std.proofs.Common.{is_some, sym, ap, subst, ◌∙◌}
use Rattle.std.specs.Prelude.{option_map}
use Rattle.std.specs.Map.{lookup, set_value}
use Rattle.std.specs.Option.{option_copied_mut}
use Rattle.std.proofs.lemmas.Map.Steps.{set_value_same}
use Rattle.private_store.specs.rules.Jobs.{same_job}
use Rattle.private_store.specs.rules.Contents.{judge}
use Rattle.private_store.specs.declared.inputs.Input.TheVariants as input
use Rattle.private_store.specs.declared.schedules.NodeEvent.TheVariants.{Arrive}
use Rattle.row_steps.specs.Outcomes.{row_given_of}
use Rattle.node_core.specs.Hosted.{Hosted, Shows}
use Rattle.node_core.specs.Judged.{arrived}
use Rattle.node_core.specs.MemoryLast.{is_accepted, IsMemoryLast}
use Rattle.node_core.specs.Outcomes.{with_no_notes}
use Rattle.node_core.specs.Steps.{NodeGiven, answer_of_check, stale_unless, NodeStep}
use Rattle.store_facts.proofs.Tests.{false_true}
use Rattle.node_core.proofs.Arriving.{stale_steps, row_steps, row_judged}
use Rattle.node_core.proofs.Asking.{live-is}
use Rattle.node_core.proofs.Calling.{always_err}
use Rattle.node_core.proofs.Views.{node_of}
use Rattle.node_core.proofs.Node.arrive.Goals as goal

pub returns-in_default-clause-ok : goal.returns-in_default-clause-ok
returns-in_default-clause-ok c =
    let a = c.self.inside.admission in
    let line = c.self.inside.works in
    let rows = c.get_mut.follows.lender-at-none.entries in
    let same = ap (λ r. r.entries) c.get_mut.follows.holds-at-none in
    let absent = sym c.get_mut.ensures.value ∙ ap option_copied_mut c.in_default.is in
    let grants = c.self.inside.grants in
    let all = node_of c.self.inside.number a line grants in
    subst (λ given. NodeStep c.args.self.now (Arrive c.args.job c.args.arrival.now) given (all rows)) (sym (c.of_row.ensures.given ∙ ap with_no_notes c.only-outcome.ensures))
    (subst (λ old. NodeStep old (Arrive c.args.job c.args.arrival.now) _ (all rows)) (ap all same ∙ c.self.view_is)
    (stale_steps c.self.inside.number a line grants c.args.job c.args.arrival.now rows (ap (lookup (same_job c.args.job)) same ∙ absent)
    (sym (live-is a c.self.inside.rows.entries c.self.invariant.jobs c.args.job) ∙ ap is_some absent)))

pub returns-in_default-clause-judged : goal.returns-in_default-clause-judged
returns-in_default-clause-judged c view h =
    ap (λ (g : NodeGiven). option_map (judge c.args.self.now.number view) (arrived c.args.arrival.now g.reply)) (c.of_row.ensures.given ∙ ap with_no_notes c.only-outcome.ensures)
    ∙ sym c.of_row.ensures.judged

pub returns-in_default-clause-stale : goal.returns-in_default-clause-stale
returns-in_default-clause-stale c late =
    ap (node_of c.self.inside.number c.self.inside.admission c.self.inside.works c.self.inside.grants) (ap (λ r. r.entries) c.get_mut.follows.holds-at-none) ∙ c.self.view_is

pub returns-in_err-outcome-clause-memory_last : goal.returns-in_err-outcome-clause-memory_last
returns-in_err-outcome-clause-memory_last c =
    let found = sym c.get_mut.ensures.value ∙ ap option_copied_mut c.in-Some.is in
    always_err c.from_residual.result (subst (λ node. IsMemoryLast node (Arrive c.args.job c.args.arrival.now)) c.self.view_is (λ v shows.
    ap (λ b. is_accepted (answer_of_check (stale_unless b))) (sym (live-is c.self.inside.admission c.self.inside.rows.entries c.self.invariant.jobs c.args.job) ∙ ap is_some found)))

pub returns-in_err-outcome-clause-err : goal.returns-in_err-outcome-clause-err
returns-in_err-outcome-clause-err c =
    let rows = c.self.inside.rows.entries in
    let found = sym c.get_mut.ensures.value ∙ ap option_copied_mut c.in-Some.is in
    let wrote = c.get_mut.follows.holds c.deliver.new.row in
    always_err c.from_residual.result ((λ i. node_of c.self.inside.number c.self.inside.admission (c.in_err-outcome.ensures.works i) c.self.inside.grants
    ((wrote.0 ∙ ap (set_value (same_job c.args.job) rows) c.in_err-outcome.ensures.err ∙ set_value_same (same_job c.args.job) rows c.in-Some.row.now found) i)) ∙ c.self.view_is)

pub returns-clause-ok : goal.returns-clause-ok
returns-clause-ok c =
    let a = c.self.inside.admission in
    let line = c.self.inside.works in
    let x = input.Arrive c.args.arrival.now in
    let rows = c.self.inside.rows.entries in
    let new = (c.get_mut.follows.lender c.deliver.new.row).entries in
    let response = row_given_of c.in_ok-outcome.outcome in
    let found = sym c.get_mut.ensures.value ∙ ap option_copied_mut c.in-Some.is in
    let grants = c.self.inside.grants in
    let after = node_of c.self.inside.number a c.deliver.new.works grants new in
    subst (λ given. NodeStep c.args.self.now (Arrive c.args.job c.args.arrival.now) given after) (sym c.of_row-2.ensures.given)
    (subst (λ old. NodeStep old (Arrive c.args.job c.args.arrival.now) (with_no_notes response) after) c.self.view_is
    (row_steps c.self.inside.number a line grants c.self.invariant.table c.args.job c.args.arrival.now rows new c.in-Some.row.now c.deliver.new.row c.deliver.new.works response found ((c.get_mut.follows.holds c.deliver.new.row).3 (ap is_some found)).0
    c.in_ok-outcome.ensures.ok c.in_ok-outcome.ensures.line c.deliver.ensures.others
    (sym (live-is a rows c.self.invariant.jobs c.args.job) ∙ ap is_some found) c.in_ok-outcome.ensures.response))

pub returns-clause-judged : goal.returns-clause-judged
returns-clause-judged c view h =
    let a = c.self.inside.admission in
    let line = c.self.inside.works in
    let rows = c.self.inside.rows.entries in
    let new = (c.get_mut.follows.lender c.deliver.new.row).entries in
    let response = row_given_of c.in_ok-outcome.outcome in
    let found = sym c.get_mut.ensures.value ∙ ap option_copied_mut c.in-Some.is in
    let done = c.in_ok-outcome.ensures in
    ap (λ (g : NodeGiven). option_map (judge c.args.self.now.number view) (arrived c.args.arrival.now g.reply)) c.of_row-2.ensures.given
    ∙ ap (λ (n : Hosted). option_map (judge n.number view) (arrived c.args.arrival.now response.reply)) (sym c.self.view_is)
    ∙ row_judged c.self.inside.number a line c.self.inside.grants c.self.invariant.table c.args.job c.args.arrival.now rows new c.in-Some.row.now c.deliver.new.row c.deliver.new.works response found ((c.get_mut.follows.holds c.deliver.new.row).3 (ap is_some found)).0
    done.ok done.line c.deliver.ensures.others (sym (live-is a rows c.self.invariant.jobs c.args.job) ∙ ap is_some found) done.response
    c.in_ok-outcome.judged done.judged view (subst (λ n. Shows n c.args.job.0 view) (sym c.self.view_is) h)
    ∙ sym c.of_row-2.ensures.judged

pub returns-clause-stale : goal.returns-clause-stale
returns-clause-stale c late =
    false_true (ap is_accepted (sym (ap (λ (g : NodeGiven). g.reply) c.of_row-2.ensures.given ∙ c.in_ok-outcome.ensures.response) ∙ late))
