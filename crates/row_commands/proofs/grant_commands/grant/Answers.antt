use Rattle.std.proofs.Common.{sym, subst, ◌∙◌}
use Rattle.obj_id.specs.declared.commands.Command.TheVariants as command
use Rattle.obj_id.specs.declared.commands.Reply.TheVariants as reply
use Rattle.private_store.specs.declared.inputs.Input.TheVariants as input
use Rattle.row_commands.specs.Granting.{row_grant_check, grants_made}
use Rattle.row_steps.specs.Shown.{RowStep, only}
use Rattle.row_commands.proofs.Granting.{grant_refused, grant_done}
use Rattle.row_commands.proofs.grant_commands.grant.Goals as goal
use Rattle.row_steps.specs.Beside.{beside_of}

pub returns-in-Some-clause-step : goal.returns-in-Some-clause-step
returns-in-Some-clause-step c node session line grants bytes contents mine response h =
    let row = c.args.row.now in
    let id = c.args.id.now in
    let target = c.args.target in
    subst (λ g. RowStep node row (beside_of line grants bytes row.job) contents (input.Call session (command.Grant id target)) g row
    (beside_of line (grants_made (row_grant_check row id target.0 c.args.table) grants id row.job target.0) bytes row.job)) (sym c.only.ensures)
    (grant_refused node line grants bytes row contents session id target h mine c.args.table response c.in-Some.refusal (sym c.grant_check.ensures ∙ c.in-Some.is))

pub returns-clause-step : goal.returns-clause-step
returns-clause-step c node session line grants bytes contents mine response h =
    let row = c.args.row.now in
    let id = c.args.id.now in
    let target = c.args.target in
    let after = beside_of line (grants_made (row_grant_check row id target.0 c.args.table) grants id row.job target.0) bytes row.job in
    subst (λ g. RowStep node row (beside_of line grants bytes row.job) contents (input.Call session (command.Grant id target)) g c.apply.new.self after) (sym c.only-2.ensures)
    (subst (λ r. RowStep node row (beside_of line grants bytes row.job) contents (input.Call session (command.Grant id target)) (only reply.Ok) r after) (sym c.apply.ensures.row)
    (grant_done node line grants bytes row contents session id target h mine c.args.table response (sym c.grant_check.ensures ∙ c.in_default.is)))
