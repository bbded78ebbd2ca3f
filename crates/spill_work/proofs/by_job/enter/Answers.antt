use Rattle.std.proofs.Common.{[], ◌∷◌, ◌++◌, ap, sym, ◌∙◌}
use Rattle.std.specs.Prelude.{if◌then◌else◌}
use Rattle.store_facts.proofs.Tests.{none_here}
use Rattle.indexmap.proofs.CallerLemmas.{insert_entry-new}
use Rattle.spill_work.specs.Line.{same_work_job}
use Rattle.spill_work.proofs.by_job.enter.Goals as goal

pub returns-in_ok-insert-clause-ok : goal.returns-in_ok-insert-clause-ok
returns-in_ok-insert-clause-ok c =
    let rows = c.args.rows.now.entries in
    let absent = c.if-not-contains_key.true in
    let none = none_here _ (sym c.contains_key.ensures ∙ absent) in
    c.in_ok-insert.ensures.entries
    ∙ insert_entry-new same_work_job c.args.rows.now c.args.job c.new.result none
    ∙ ap (λ row. rows ++ (c.args.job, row) ∷ []) c.new.ensures
    ∙ sym (ap (λ b. if b then rows else rows ++ (c.args.job, []) ∷ []) (sym c.contains_key.ensures ∙ absent))
