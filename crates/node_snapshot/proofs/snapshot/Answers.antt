use Rattle.std.proofs.Common.{sym, ap, map, ◌∙◌}
use Rattle.std.specs.Option.{option_copied}
use Rattle.grants.specs.Private.{as_given}
use Rattle.grants.specs.Table.{given_by}
use Rattle.room_commands.proofs.ForCallers.{each_ok}
use Rattle.node_snapshot.proofs.ReplayStates.{row_told, without_row_told}
use Rattle.node_snapshot.proofs.snapshot.Goals as goal
use Rattle.row_steps.specs.Beside.{beside_of, shape_of}

pub returns-in_default : goal.returns-in_default
returns-in_default c view h begun =
    let none = sym c.row.ensures ∙ ap option_copied c.in_default.is in
    c.without_row.ensures ∙ without_row_told c.args.node.now c.args.job view h none c.args.begun begun c.in_ok-received.received.entries c.in_ok-received.ensures

pub returns : goal.returns
returns c = each_ok c.plain_row.result (λ plain is view h begun.
    let found = sym c.row.ensures ∙ ap option_copied c.in-Some.is in
    let row = c.in-Some.row.now in
    let gave = c.in_ok-given-2.ensures ∙ ap (map as_given) (c.as_slice.ensures ∙ c.in_ok-given.ensures.grants ∙ ap (given_by c.args.job.0) c.grants.ensures) in
    row_told c.args.node.now c.args.job view h row found plain c.in_ok-given-2.given c.in_ok-received.received.entries gave c.in_ok-received.ensures
    (λ grants bytes g r. is grants bytes g r ∙ ap (λ works. record { shape = shape_of row (beside_of works grants bytes row.job); order = row.order }) c.works.ensures)) c.plain_row.ensures
