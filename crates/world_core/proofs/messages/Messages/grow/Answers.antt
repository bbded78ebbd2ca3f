use Rattle.std.proofs.Common.{sym, ap, ◌∙◌}
use Rattle.std.specs.Option.{option_copied_mut}
use Rattle.private_store.specs.rules.Jobs.{same_job}
use Rattle.world_core.specs.Logs.{messages_of}
use Rattle.world_core.proofs.Logging.{messages_of-set_value}
use Rattle.world_core.proofs.messages.Messages.grow.Goals as goal

pub returns-in_err-reserve-clause-sent : goal.returns-in_err-reserve-clause-sent
returns-in_err-reserve-clause-sent c =
    let found = sym c.get_mut.ensures.value ∙ ap option_copied_mut c.in-Some.is in
    ap messages_of (c.get_mut.follows.holds c.reserve.new.self).0
    ∙ messages_of-set_value (same_job c.args.job) c.self.inside.logs.entries c.in-Some.log.now c.reserve.new.self found c.in_err-reserve.ensures.sent
    ∙ ap (λ m. messages_of m.logs) c.self.view_is

pub returns-in-Some-clause-sent : goal.returns-in-Some-clause-sent
returns-in-Some-clause-sent c =
    let found = sym c.get_mut.ensures.value ∙ ap option_copied_mut c.in-Some.is in
    ap messages_of (c.get_mut.follows.holds c.reserve.new.self).0
    ∙ messages_of-set_value (same_job c.args.job) c.self.inside.logs.entries c.in-Some.log.now c.reserve.new.self found c.in_ok-reserve.ensures.sent
    ∙ ap (λ m. messages_of m.logs) c.self.view_is
