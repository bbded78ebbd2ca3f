use Rattle.std.proofs.Common.{sym, ap, ◌∙◌}
use Rattle.std.specs.Option.{option_copied}
use Rattle.node_journal.proofs.Logging.{journal_in}
use Rattle.node_journal.proofs.logs.Logs.list.Goals as goal

pub returns-in-Some : goal.returns-in-Some
returns-in-Some c =
    c.as_slice.ensures
    ∙ ap (λ o. (journal_in c.args.job.0 o).list) (sym (sym c.find.ensures ∙ ap option_copied c.in-Some.is))

pub returns-in-None : goal.returns-in-None
returns-in-None c =
    ap (λ o. (journal_in c.args.job.0 o).list) (sym (sym c.find.ensures ∙ ap option_copied c.in-None.is))
