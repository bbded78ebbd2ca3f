use Rattle.std.proofs.Common.{is_some, sym, ap, subst, ◌∙◌}
use Rattle.std.specs.Map.{lookup, set_value}
use Rattle.std.specs.Option.{option_copied_mut}
use Rattle.std.proofs.lemmas.Map.Steps.{set_value_same}
use Rattle.private_store.specs.rules.Jobs.{same_job}
use Rattle.private_store.specs.declared.schedules.Event.TheVariants as event
use Rattle.row_steps.specs.Outcomes.{row_given_of}
use Rattle.node_core.specs.Calls.{takes_no_memory}
use Rattle.node_core.specs.Hosted.{row_at, bytes_here}
use Rattle.node_core.specs.OneJob.{NodeStepOne}
use Rattle.node_core.proofs.Calling.{if_ok_on, both_err, row_by_grants}
use Rattle.node_core.proofs.Giving.{unrefused}
use Rattle.node_core.proofs.Views.{node_of, call_steps, refused_steps}
use Rattle.node_core.proofs.Node.call_row.Goals as goal

pub returns-in_default-clause-ok : goal.returns-in_default-clause-ok
returns-in_default-clause-ok c =
    let rows = c.get_mut.follows.lender-at-none.entries in
    let same = ap (λ r. r.entries) c.get_mut.follows.holds-at-none in
    let none = ap (lookup (same_job c.args.job)) same ∙ sym c.get_mut.ensures.value ∙ ap option_copied_mut c.in_default.is in
    let all = node_of c.self.inside.number c.self.inside.admission c.self.inside.works c.self.inside.grants in
    subst (λ given. NodeStepOne c.args.self.now (event.Call c.args.job c.args.session c.args.command.now) given (all rows)) (sym c.only.ensures)
    (subst (λ old. NodeStepOne old (event.Call c.args.job c.args.session c.args.command.now) _ (all rows)) (ap all same ∙ c.self.view_is)
    (refused_steps c.self.inside.number c.self.inside.admission c.self.inside.works c.self.inside.grants c.args.job c.args.session c.args.command.now rows none))

pub returns-clause-ok : goal.returns-clause-ok
returns-clause-ok c =
    let rows = c.self.inside.rows.entries in
    let new = (c.get_mut.follows.lender c.carry_out.new.row).entries in
    let found = sym c.get_mut.ensures.value ∙ ap option_copied_mut c.in-Some.is in
    let wrote = c.get_mut.follows.holds c.carry_out.new.row in
    if_ok_on c.carry_out.result c.carry_out.ensures.ok c.carry_out.ensures.line (λ o h line.
    subst (λ old. NodeStepOne old (event.Call c.args.job c.args.session c.args.command.now) (row_given_of o) (node_of c.self.inside.number c.self.inside.admission c.carry_out.new.works c.self.inside.grants new)) c.self.view_is
    (call_steps c.self.inside.number c.self.inside.admission c.self.inside.works c.self.inside.grants c.args.job c.args.session c.args.command.now c.self.invariant.table rows new c.in-Some.row.now c.carry_out.new.row c.carry_out.new.works (row_given_of o)
    found (wrote.3 (ap is_some found)).0 line (h c.self.inside.grants (bytes_here rows)) c.carry_out.ensures.others))

pub returns-clause-err : goal.returns-clause-err
returns-clause-err c =
    let rows = c.self.inside.rows.entries in
    let found = sym c.get_mut.ensures.value ∙ ap option_copied_mut c.in-Some.is in
    let wrote = c.get_mut.follows.holds c.carry_out.new.row in
    both_err c.carry_out.result c.carry_out.ensures.err c.carry_out.ensures.works (λ same works.
    (λ i. node_of c.self.inside.number c.self.inside.admission (works i) c.self.inside.grants
    ((wrote.0 ∙ ap (set_value (same_job c.args.job) rows) same ∙ set_value_same (same_job c.args.job) rows c.in-Some.row.now found) i)) ∙ c.self.view_is)

pub returns-clause-without_memory : goal.returns-clause-without_memory
returns-clause-without_memory c frugal =
    let found = sym c.get_mut.ensures.value ∙ ap option_copied_mut c.in-Some.is in
    c.carry_out.ensures.without_memory (ap (λ o. takes_no_memory o c.args.command.now) (sym (ap (λ n. row_at n c.args.job) (sym c.self.view_is) ∙ found)) ∙ frugal)

pub returns-clause-memory_last : goal.returns-clause-memory_last
returns-clause-memory_last c =
    both_err c.carry_out.result c.carry_out.ensures.memory_last c.carry_out.ensures.room (λ late room.
    unrefused c.self.inside.number c.self.inside.admission c.self.inside.works c.self.inside.grants c.self.invariant.table c.args.job c.args.session c.args.command.now
    c.self.inside.rows.entries c.in-Some.row.now c.args.self.now c.self.view_is (sym c.get_mut.ensures.value ∙ ap option_copied_mut c.in-Some.is) late
    (row_by_grants (node_of c.self.inside.number c.self.inside.admission c.self.inside.works c.self.inside.grants c.self.inside.rows.entries) c.in-Some.row.now c.args.job.0 c.args.command.now c.requires) room)
