use Rattle.std.proofs.Common.{sym, ap, ◌∙◌}
use Rattle.std.specs.Prelude.{unwrap_or, option_copied}
use Rattle.world_core.specs.Logs.{count_over}
use Rattle.world_core.proofs.Numbering.{counted_by}
use Rattle.world_core.proofs.messages.JobLog.count.Goals as goal

pub returns-in-Some : goal.returns-in-Some
returns-in-Some c =
    ap (λ o. unwrap_or o 0) (sym (ap option_copied c.in-Some.is) ∙ c.get.ensures.value) ∙ counted_by c.self.inside.messages.entries c.self.inside.counts.entries c.self.invariant c.args.link
    ∙ ap (λ l. count_over l.sent c.args.link.from c.args.link.to) c.self.view_is

pub returns-in-None : goal.returns-in-None
returns-in-None c =
    ap (λ o. unwrap_or o 0) (sym (ap option_copied c.in-None.is) ∙ c.get.ensures.value) ∙ counted_by c.self.inside.messages.entries c.self.inside.counts.entries c.self.invariant c.args.link
    ∙ ap (λ l. count_over l.sent c.args.link.from c.args.link.to) c.self.view_is
