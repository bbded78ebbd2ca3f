use Rattle.std.proofs.Common.{◌∙◌, sym, ap}
use Rattle.private_store.specs.rules.Commands.{leave_one}
use Rattle.plain_store.proofs.Each.{leave-reply, leave-shape, leave-used, shapes, with_shape}
use Rattle.plain_store.proofs.store.PlainStore.leave.Goals as goal

pub returns-clause-reply : goal.returns-clause-reply
returns-clause-reply c = sym (leave-reply c.args.self.now.shape c.args.session)

pub returns-clause-store : goal.returns-clause-store
returns-clause-store c =
    let now = c.args.self.now in
    c.leave_each.ensures
    ∙ ap (λ ids. with_shape now (shapes (leave_one c.args.session) now.shape ids)) (c.deref.ensures.value ∙ c.in_ok-ids.ensures)
    ∙ ap (with_shape now) (sym (leave-shape now.shape c.args.session))

pub returns-clause-used : goal.returns-clause-used
returns-clause-used c = leave-used c.args.self.now.shape c.args.session
