use Rattle.std.proofs.Common.{◌≡◌, ap, sym, ◌∙◌}
use Rattle.private_store.specs.rules.Replay.{ReplayState}
use Rattle.plain_store.specs.Steps.{own_command}
use Rattle.plain_store.proofs.store.PlainStore.plain_call.Goals as goal

pub returns-in-Withdraw-clause-reply : goal.returns-in-Withdraw-clause-reply
returns-in-Withdraw-clause-reply c = c.withdraw.ensures.reply ∙ sym (ap (λ x. (own_command c.args.self.now.order c.args.self.now.shape c.args.session x).reply) c.in-Withdraw.is)

pub returns-in-Withdraw-clause-used : goal.returns-in-Withdraw-clause-used
returns-in-Withdraw-clause-used c = ap (λ x. (own_command c.args.self.now.order c.args.self.now.shape c.args.session x).used) c.in-Withdraw.is ∙ c.withdraw.ensures.used

pub returns-in-Withdraw-clause-store : goal.returns-in-Withdraw-clause-store
returns-in-Withdraw-clause-store c =
    c.withdraw.ensures.store
    ∙ sym (ap {B = ReplayState} (λ x. record c.args.self.now { shape = (own_command c.args.self.now.order c.args.self.now.shape c.args.session x).shape }) c.in-Withdraw.is)
