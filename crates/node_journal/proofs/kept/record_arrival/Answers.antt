use Rattle.std.proofs.Common.{◌≡◌, ◌==◌, ◌+◌, ◌≤◌, [], ◌∷◌, ◌++◌, length, append-nil, refl, sym, ap, subst, ◌∙◌}
use Rattle.std.specs.Prelude.{if◌then◌else◌}
use Rattle.private_store.specs.declared.schedules.NodeEvent.TheVariants.{Arrive}
use Rattle.node_core.specs.Outcomes.{inputs_noted}
use Rattle.node_journal.specs.declared.entries.Line.TheVariants as line
use Rattle.node_journal.specs.Journals.{Journal, entry_for, event_name, notes_for, folded_if, list_is_full, is_folded_by, most_lines, with_lines}
use Rattle.node_journal.specs.Logs.{journal_of, list_of}
use Rattle.node_journal.proofs.Recording.{added}
use Rattle.node_journal.proofs.Rooms.{arrival_few}
use Rattle.node_journal.proofs.Telling.{told_alike}
use Rattle.node_journal.proofs.kept.record_arrival.Goals as goal

pub bases_of-requires-clause-response : goal.bases_of-requires-clause-response
bases_of-requires-clause-response g c = told_alike c.args.node.now _ _ _ refl c.in_ok-reserve.ensures.journals c.requires.response

pub bases_of-requires-clause-few : goal.bases_of-requires-clause-few
bases_of-requires-clause-few g c = λ job. subst (λ (j : Journal). length j.list ≤ most_lines) (sym (c.in_ok-reserve.ensures.journals job)) (c.requires.few job)

pub returns-clause-logs : goal.returns-clause-logs
returns-clause-logs g c = λ job.
    let number = c.args.count.now + 1 in
    let own = c.args.job.0 == job in
    let outcome = c.in_ok-outcome.outcome in
    let number_is = c.value-made.ensures ∙ c.in_ok-next.ensures.ok in
    let made = c.entry_of.ensures ∙ (λ i. entry_for (number_is i) (c.name_of_arrival-named.ensures i) outcome.judged outcome.reply) in
    let entry = line.Entry (entry_for number (event_name (Arrive c.args.job c.args.arrival.now)) outcome.judged outcome.reply) in
    let notes = notes_for number (inputs_noted outcome.notes) job in
    let kept = c.in_ok-reserve.ensures.journals job in
    let full = c.in_ok-bases.ensures.full job ∙ ap (λ (j : Journal). list_is_full c.args.job.0 [] job (length j.list)) kept in
    let first : Journal = journal_of c.fold_all.new.self job in
    let second : Journal = journal_of c.add.new.self job in
    let first_is : first ≡ folded_if (is_folded_by c.args.node.now (Arrive c.args.job c.args.arrival.now) job (list_of c.args.logs.now job)) (journal_of c.args.logs.now job) =
    c.fold_all.ensures.journal job ∙ (λ i. folded_if (full i) (kept i)) in
    added own first second second entry notes
    (c.add.ensures.journal job ∙ (λ i. if own then with_lines first (line.Entry (made i) ∷ []) else first))
    (sym (ap (λ ls. record second { list = ls }) (append-nil second.list)) ∙ ap (λ ns. with_lines second (notes_for number (inputs_noted ns) job)) (sym c.in_ok-outcome.ensures.silent))
    ∙ ap (λ j. with_lines j ((if own then entry ∷ [] else []) ++ notes)) first_is

pub returns-clause-few : goal.returns-clause-few
returns-clause-few g c = λ job.
    let number = c.args.count.now + 1 in
    let outcome = c.in_ok-outcome.outcome in
    arrival_few c.args.job.0 number job outcome.notes (journal_of c.args.logs.now job) (journal_of c.add.new.self job)
    (line.Entry (entry_for number (event_name (Arrive c.args.job c.args.arrival.now)) outcome.judged outcome.reply)) c.in_ok-outcome.ensures.silent (returns-clause-logs g c job)
