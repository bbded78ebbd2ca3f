use Rattle.std.proofs.Common.{[], sym, subst, ◌∙◌}
use Rattle.obj_id.specs.declared.commands.Command.TheVariants as command
use Rattle.obj_id.specs.declared.commands.Reply.TheVariants as reply
use Rattle.private_store.specs.declared.inputs.Input.TheVariants as input
use Rattle.private_store.specs.rules.Grants.{is_withdrawn}
use Rattle.job_row.specs.Dropping.{keys_settled}
use Rattle.row_copy.specs.CopyViews.{with_granted}
use Rattle.row_commands.specs.Notes.{beside_rest}
use Rattle.job_row.specs.Scope.{with_copy}
use Rattle.row_steps.specs.Shown.{RowStep}
use Rattle.row_commands.proofs.Granting.{withdraw_done}
use Rattle.row_commands.proofs.grant_commands.withdraw.Goals as goal
use Rattle.row_steps.specs.Beside.{beside_of}

pub returns-clause-step : goal.returns-clause-step
returns-clause-step c node session line grants bytes contents are mine stands says h =
    let row = c.args.row.now in
    let id = c.args.id.now in
    let target = c.args.target in
    let before = beside_of line grants bytes row.job in
    let x = input.Call session (command.Withdraw id target) in
    let after = beside_rest line (is_withdrawn row.job id target.0) grants bytes row.job in
    let row_marked = with_copy (with_granted c.args.granted) row id in
    subst (λ g. RowStep node row before contents x g c.apply_and_settle-erased.new.self after)
    (sym (c.done.ensures ∙ (λ i. record { reply = reply.Ok; posts = c.new.ensures i; erased = c.apply_and_settle-erased.ensures.keys i })))
    (subst (λ r. RowStep node row before contents x (record { reply = reply.Ok; posts = []; erased = keys_settled row_marked id }) r after)
    (sym c.apply_and_settle-erased.ensures.row)
    (withdraw_done node line grants bytes row contents session id target h mine stands are c.args.granted says
    c.apply_and_settle-erased.ensures.placed))
