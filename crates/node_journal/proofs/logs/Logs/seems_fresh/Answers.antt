use Rattle.std.proofs.Common.{sym, ap, ◌∙◌}
use Rattle.std.specs.Option.{option_copied}
use Rattle.node_journal.specs.Journals.{seems_fresh}
use Rattle.node_journal.proofs.Logging.{journal_in}
use Rattle.node_journal.proofs.logs.Logs.seems_fresh.Goals as goal

pub returns-in-Some : goal.returns-in-Some
returns-in-Some c =
    c.seems_fresh.ensures
    ∙ ap (λ o. seems_fresh (journal_in c.args.job.0 o)) (sym (sym c.find.ensures ∙ ap option_copied c.in-Some.is))

pub returns-in-None : goal.returns-in-None
returns-in-None c =
    ap (λ o. seems_fresh (journal_in c.args.job.0 o)) (sym (sym c.find.ensures ∙ ap option_copied c.in-None.is))
