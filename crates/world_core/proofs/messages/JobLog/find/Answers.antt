use Rattle.std.proofs.Common.{ap, ◌∙◌}
use Rattle.world_core.specs.Logs.{message_in}
use Rattle.world_core.proofs.Numbering.{found_by}
use Rattle.world_core.proofs.messages.JobLog.find.Goals as goal

pub returns : goal.returns
returns c =
    c.get.ensures.value ∙ found_by c.self.inside.messages.entries c.self.inside.counts.entries c.self.invariant (record { link = c.args.link; number = c.args.number })
    ∙ ap (λ l. message_in l.sent c.args.link.from c.args.link.to c.args.number) c.self.view_is
