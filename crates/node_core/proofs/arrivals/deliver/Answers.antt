use Rattle.std.proofs.Common.{◌≡◌, ℕ, List, sym, ap, subst, ◌∙◌}
use Rattle.std.specs.Prelude.{IfOk}
use Rattle.obj_id.specs.declared.ids.ObjectId.{ObjectId}
use Rattle.obj_id.specs.declared.messages.Arrival.TheVariants as arrival
use Rattle.private_store.specs.declared.inputs.Input.TheVariants as input
use Rattle.private_store.specs.declared.inputs.Judged.TheVariants as judged
use Rattle.private_store.specs.rules.Contents.{Contents, judge, source_in}
use Rattle.private_store.specs.rules.Grants.{StandingGrant}
use Rattle.row_steps.specs.Outcomes.{row_given_of}
use Rattle.row_steps.specs.Shown.{seen, IsShown, RowStep}
use Rattle.node_core.proofs.arrivals.deliver.Goals as goal
use Rattle.row_steps.specs.Beside.{beside_of}

pub returns-in-Located-clause-ok : goal.returns-in-Located-clause-ok
returns-in-Located-clause-ok c grants bytes contents shown =
    let beside = beside_of c.args.works.now grants bytes c.args.row.now.job in
    subst (λ a. RowStep c.args.node c.args.row.now beside contents (input.Arrive a) (row_given_of c.only-outcome.result) c.located.new.row beside)
    (ap (arrival.Located c.in-Located.id c.in-Located.number) c.as_slice-entries.ensures ∙ sym c.in-Located.is)
    (subst (λ given. RowStep c.args.node c.args.row.now beside contents (input.Arrive (arrival.Located c.in-Located.id c.in-Located.number c.as_slice-entries.result.now)) given c.located.new.row beside) (sym c.only-outcome.ensures)
    (c.located.ensures beside contents shown))

pub returns-in-FromPeer-clause-ok : goal.returns-in-FromPeer-clause-ok
returns-in-FromPeer-clause-ok c =
    let row = c.args.row.now in
    subst (λ a. IfOk c.deliver_from.result (λ o. (grants : List StandingGrant) (bytes : ObjectId → List ℕ) (contents : Contents) → IsShown row (beside_of c.args.works.now grants bytes row.job) contents
    → RowStep c.args.node row (beside_of c.args.works.now grants bytes row.job) contents (input.Arrive a) (row_given_of o.0) c.deliver_from.new.row (beside_of c.deliver_from.new.works grants bytes row.job)))
    (sym c.in-FromPeer.is) c.deliver_from.ensures.ok

pub returns-in-Located-clause-judged : goal.returns-in-Located-clause-judged
returns-in-Located-clause-judged c grants bytes contents shown =
    let row = c.args.row.now in
    ap (judged.Located c.in-Located.id c.in-Located.number) (c.source_in.ensures ∙ ap (source_in c.args.node) c.as_slice-entries.ensures)
    ∙ ap (λ a. judge c.args.node (seen row (beside_of c.args.works.now grants bytes row.job) contents) (input.Arrive a)) (sym c.in-Located.is)

pub returns-in-FromPeer-clause-judged : goal.returns-in-FromPeer-clause-judged
returns-in-FromPeer-clause-judged c =
    let row = c.args.row.now in
    subst (λ a. IfOk c.deliver_from.result (λ o. (grants : List StandingGrant) (bytes : ObjectId → List ℕ) (contents : Contents) → IsShown row (beside_of c.args.works.now grants bytes row.job) contents
    → o.1 ≡ judge c.args.node (seen row (beside_of c.args.works.now grants bytes row.job) contents) (input.Arrive a)))
    (sym c.in-FromPeer.is) c.deliver_from.ensures.judged
