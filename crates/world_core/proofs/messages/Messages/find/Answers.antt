use Rattle.std.proofs.Common.{sym, ap, ◌∙◌}
use Rattle.std.specs.Prelude.{option_copied}
use Rattle.world_core.specs.Logs.{messages_of, sent_of, message_in}
use Rattle.world_core.proofs.Logging.{sent_at, sent_by}
use Rattle.world_core.proofs.Numbering.{none_in_none}
use Rattle.world_core.proofs.messages.Messages.find.Goals as goal

pub returns-in_err-log : goal.returns-in_err-log
returns-in_err-log c =
    let none = sym c.get.ensures.value ∙ ap option_copied c.in_err-log.was in
    ap option_copied c.from_residual.ensures
    ∙ sym (none_in_none c.args.from c.args.to c.args.number)
    ∙ ap (λ sent. message_in sent c.args.from c.args.to c.args.number) (ap sent_by (sym none) ∙ sym (sent_at c.self.inside.logs.entries c.args.job) ∙ ap (λ m. sent_of (messages_of m.logs) c.args.job.0) c.self.view_is)

pub returns : goal.returns
returns c =
    let found = sym c.get.ensures.value ∙ ap option_copied c.in_ok-log.was in
    c.find.ensures
    ∙ ap (λ sent. message_in sent c.args.from c.args.to c.args.number) (ap sent_by (sym found) ∙ sym (sent_at c.self.inside.logs.entries c.args.job) ∙ ap (λ m. sent_of (messages_of m.logs) c.args.job.0) c.self.view_is)
