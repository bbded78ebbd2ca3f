use Rattle.std.proofs.Common.{Bool, ◌||◌, sym, ap, ◌∙◌}
use Rattle.std.specs.List.{list_any}
use Rattle.std.specs.Option.{option_copied}
use Rattle.plain_store.specs.Parts.{has_begun}
use Rattle.node_journal.specs.Journals.{Journal, begins}
use Rattle.node_journal.proofs.Logging.{journal_in}
use Rattle.node_journal.proofs.logs.Logs.has_begun.Goals as goal

abbrev begun_by : Journal → Bool
begun_by journal = has_begun journal.base.store.shape.life || list_any begins journal.list

pub returns-in-Some : goal.returns-in-Some
returns-in-Some c =
    c.has_begun.ensures
    ∙ ap (λ o. begun_by (journal_in c.args.job.0 o)) (sym (sym c.find.ensures ∙ ap option_copied c.in-Some.is))

pub returns-in-None : goal.returns-in-None
returns-in-None c =
    ap (λ o. begun_by (journal_in c.args.job.0 o)) (sym (sym c.find.ensures ∙ ap option_copied c.in-None.is))
