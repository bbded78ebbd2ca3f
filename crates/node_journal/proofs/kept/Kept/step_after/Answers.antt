use Rattle.std.proofs.Common.{◌≢◌, ◌==◌, refl, sym, ◌∙◌}
use Rattle.store_facts.proofs.Tests.{true_false}
use Rattle.node_journal.specs.declared.entries.Agreement.TheVariants.{No}
use Rattle.node_journal.specs.Journals.{agreement}
use Rattle.node_journal.specs.Logs.{journal_of}
use Rattle.node_journal.proofs.Numbering.{agreed_here, agreed_within, same_here, less_than_next}
use Rattle.node_journal.proofs.kept.Kept.step_after.Goals.{in-No, in_default}
use Rattle.node_journal.proofs.kept.Kept.step_after.Goals as goal

pub returns-clause-later : goal.returns-clause-later
returns-clause-later g c =
    let old = c.args.self.now in
    let shown = c.args.receipt.now in
    let here = shown.node == old.number in
    let journal = journal_of old.logs shown.job.0 in
    elim c.match-matches.branch [
      | in-No w ↦ true_false (sym c.if-matches.false ∙ w.matches-is)
      | in_default w ↦
          let agreed : agreement here shown.entry journal ≢ No = λ e. w.in_default.not-No (c.agrees.ensures ∙ e) in
          let response = c.in_ok-step.ensures.receipt in (
            response.0 ∙ sym (same_here shown.node old.number (agreed_here here shown.entry journal agreed)),
            less_than_next shown.entry.number old.count _ _
                (agreed_within old.count shown.entry here journal (old.numbered shown.job.0) agreed)
                response.2 refl,
          )
    ]
