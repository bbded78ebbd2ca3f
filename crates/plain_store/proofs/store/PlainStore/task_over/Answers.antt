use Rattle.std.proofs.Common.{◌∙◌, sym, ap}
use Rattle.private_store.specs.rules.Tables.{ids_of}
use Rattle.private_store.specs.rules.Change.{doom}
use Rattle.private_store.specs.rules.Commands.{give_up_one, of_task}
use Rattle.plain_store.proofs.Each.{over-reply, over-shape, over-used, shapes, with_shape}
use Rattle.plain_store.proofs.store.PlainStore.task_over.Goals as goal

pub returns-clause-reply : goal.returns-clause-reply
returns-clause-reply c = over-reply c.args.self.now.shape c.args.task

pub returns-clause-store : goal.returns-clause-store
returns-clause-store c =
    let now = c.args.self.now in
    let all = ids_of now.shape.copies in
    let theirs = of_task c.args.task all in
    let ended = c.task_ended.new.self in
    let dooms = c.doom_each.new.self in
    c.give_up_each.ensures
    ∙ ap (λ ids. with_shape dooms (shapes (give_up_one c.args.task) dooms.shape ids)) (c.deref-3.ensures.value ∙ c.in_ok-ids.ensures)
    ∙ ap (λ replay_state. with_shape replay_state (shapes (give_up_one c.args.task) replay_state.shape all))
    (c.doom_each.ensures
    ∙ ap (λ ids. with_shape ended (shapes doom ended.shape ids)) (c.deref-2.ensures.value ∙ c.in_ok-own.ensures ∙ ap (of_task c.args.task) (c.deref.ensures.value ∙ c.in_ok-ids.ensures))
    ∙ ap (λ replay_state. with_shape replay_state (shapes doom replay_state.shape theirs)) c.in_ok-task_ended.ensures)
    ∙ ap (with_shape now) (sym (over-shape now.shape c.args.task))

pub returns-clause-used : goal.returns-clause-used
returns-clause-used c = over-used c.args.self.now.shape c.args.task
