use Rattle.std.proofs.Common.{[], sym, ap, subst, ◌∙◌}
use Rattle.obj_id.specs.declared.messages.Arrival.TheVariants as arrival
use Rattle.obj_id.specs.declared.messages.PeerMessage.TheVariants as peer
use Rattle.obj_id.specs.declared.commands.Reply.TheVariants as reply
use Rattle.private_store.specs.declared.inputs.Input.TheVariants as input
use Rattle.room_commands.specs.Asked.{HasAsked}
use Rattle.row_steps.specs.Outcomes.{row_given_of}
use Rattle.row_steps.specs.Shown.{RowStep}
use Rattle.room_commands.proofs.Serving.{own_restored, alive_restored, restored_done}
use Rattle.room_commands.proofs.pulls.restore_quietly.Goals as goal
use Rattle.row_steps.specs.Beside.{beside_of}

pub returns-clause-ok : goal.returns-clause-ok
returns-clause-ok c from number n digest indexes grants bytes contents e h =
    let old = c.args.row.now in
    let beside = beside_of c.args.works.now grants bytes old.job in
    let after = beside_of c.restore.new.works grants bytes old.job in
    let x = input.Arrive (arrival.FromPeer from (peer.Pull c.args.id.now number n digest indexes)) in
    let response = row_given_of c.in_ok-outcome.outcome in
    subst (λ g. RowStep c.args.node old beside contents x g c.put_spill_failed.new.self after) (sym c.answered.ensures)
    (subst (λ row. RowStep c.args.node old beside contents x (record { reply = reply.Ok; posts = response.posts; erased = [] }) row after)
    (sym (c.put_spill_failed.ensures ∙ ap (λ b. record c.restore.new.row { spill_failed = b }) c.spill_failed-spill_failed.ensures))
    (restored_done c.args.node old beside contents h from c.args.id.now number n digest indexes e 0 response c.restore.new.row after
    (c.in_ok-outcome.ensures.ok 0 grants bytes contents c.job-job.ensures (own_restored c.args.node old beside contents h from c.args.id.now number n digest indexes e)
    (alive_restored c.args.node old beside contents h from c.args.id.now number n digest indexes e) h)))

pub returns-clause-line : goal.returns-clause-line
returns-clause-line c = subst (λ j. HasAsked c.args.works.now j c.restore.new.works) c.job-job.ensures c.in_ok-outcome.ensures.line
