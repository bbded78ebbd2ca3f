use Rattle.std.proofs.Common.{◌≡◌, ℕ, ◌==◌, ◌<◌, ◌+◌, ◌≤◌, List, [], ◌∷◌, ◌++◌, length, map, refl, sym, ap, subst, ◌∙◌, arith}
use Rattle.std.specs.Prelude.{if◌then◌else◌}
use Rattle.obj_id.specs.declared.ids.JobNo.{JobNo}
use Rattle.private_store.specs.declared.schedules.NodeEvent.TheVariants.{Own}
use Rattle.node_core.specs.declared.outcome.Note.{Note}
use Rattle.node_core.specs.Foreseen.{AreTakers}
use Rattle.node_core.specs.Outcomes.{inputs_noted}
use Rattle.node_core.specs.Steps.{job_at}
use Rattle.node_journal.specs.declared.entries.Line.TheVariants as line
use Rattle.node_journal.specs.Journals.{Journal, entry_for, event_name, notes_for, folded_if, list_is_full, is_folded_by, most_lines, with_lines}
use Rattle.node_journal.specs.Logs.{journal_of, list_of, spare_of}
use Rattle.node_journal.proofs.Recording.{room_left, added, told_few}
use Rattle.node_journal.proofs.Rooms.{all_few}
use Rattle.node_journal.proofs.Telling.{told_alike}
use Rattle.node_journal.proofs.kept.record.Goals as goal

pub reserve-requires : goal.reserve-requires
reserve-requires g c =
    subst (λ (ts : List JobNo). length ts ≤ 4096) (sym c.as_slice.ensures)
    (told_few c.args.node.now (journal_of c.args.logs.now) c.in_ok-grantees.grantees c.in_ok-grantees.ensures.few c.requires.response)

pub bases_of-requires-clause-response : goal.bases_of-requires-clause-response
bases_of-requires-clause-response g c = told_alike c.args.node.now _ _ _ refl c.in_ok-reserve.ensures.journals c.requires.response

pub bases_of-requires-clause-few : goal.bases_of-requires-clause-few
bases_of-requires-clause-few g c = λ job. subst (λ (j : Journal). length j.list ≤ most_lines) (sym (c.in_ok-reserve.ensures.journals job)) (c.requires.few job)

pub bases_of-requires-clause-some : goal.bases_of-requires-clause-some
bases_of-requires-clause-some g c =
    let few = told_few c.args.node.now (journal_of c.args.logs.now) c.in_ok-grantees.grantees c.in_ok-grantees.ensures.few c.requires.response in
    subst (λ (ts : List JobNo). length ts < most_lines) (sym c.as_slice-2.ensures) (omega (arith, few))

pub add_notes-requires : goal.add_notes-requires
add_notes-requires g c =
    let e = c.args.event.now in
    let grants = c.args.node.now.grants in
    let reply = c.in-Ok.outcome.reply in
    room_left c.as_slice-3.result.now c.as_slice.result.now grants e reply (spare_of c.reserve.new.self) (spare_of c.add.new.self)
    (subst (λ notes. AreTakers grants e reply (map (λ (note : Note). note.job) notes)) (sym c.as_slice-3.ensures) c.in-Ok.ensures.grantees)
    (c.as_slice.ensures ∙ c.in_ok-grantees.ensures.grantees) c.in_ok-reserve.ensures.room
    (λ other. omega (arith, c.fold_all.ensures.spare other, c.add.ensures.spare other))

pub returns-clause-logs : goal.returns-clause-logs
returns-clause-logs g c = λ job.
    let number = c.args.count.now + 1 in
    let e = c.args.event.now in
    let outcome = c.in-Ok.outcome in
    let grantees = c.as_slice-2.ensures ∙ c.in_ok-grantees.ensures.grantees in
    let kept = c.in_ok-reserve.ensures.journals job in
    let own : ℕ = job_at c.args.node.now.works.works (Own e) in
    let number_is = c.value-made.ensures ∙ c.in_ok-next.ensures.ok in
    let made = c.entry_of.ensures ∙ (λ i. entry_for (number_is i) (c.name_of-named.ensures i) outcome.judged outcome.reply) in
    let full = c.in_ok-bases.ensures.full job ∙ (λ i. list_is_full (c.job_of-job.ensures i) (grantees i) job (length (kept i).list)) in
    let first : Journal = journal_of c.fold_all.new.self job in
    let first_is : first ≡ folded_if (is_folded_by c.args.node.now (Own e) job (list_of c.args.logs.now job)) (journal_of c.args.logs.now job) =
    c.fold_all.ensures.journal job ∙ (λ i. folded_if (full i) (kept i)) in
    added (own == job) first (journal_of c.add.new.self job) (journal_of c.add_notes.new.self job)
    (line.Entry (entry_for number (event_name (Own c.args.event.now)) outcome.judged outcome.reply)) (notes_for number (inputs_noted outcome.notes) job)
    (c.add.ensures.journal job
    ∙ (λ i. if c.job_of-job.ensures i == job
    then with_lines first (line.Entry (made i) ∷ [])
    else first))
    (c.add_notes.ensures job ∙ (λ i. with_lines (journal_of c.add.new.self job) (notes_for (number_is i) (inputs_noted (c.as_slice-3.ensures i)) job)))
    ∙ ap (λ j. with_lines j ((if own == job then line.Entry (entry_for number (event_name (Own c.args.event.now)) outcome.judged outcome.reply) ∷ [] else []) ++ notes_for number (inputs_noted outcome.notes) job)) first_is

pub returns-clause-few : goal.returns-clause-few
returns-clause-few g c = λ job.
    let number = c.args.count.now + 1 in
    let e = c.args.event.now in
    let outcome = c.in-Ok.outcome in
    let few = told_few c.args.node.now (journal_of c.args.logs.now) c.in_ok-grantees.grantees c.in_ok-grantees.ensures.few c.requires.response in
    let some = subst (λ (ts : List JobNo). length ts < most_lines) c.in_ok-grantees.ensures.grantees (omega (arith, few)) in
    all_few (job_at c.args.node.now.works.works (Own e)) c.args.node.now.grants e outcome.reply number job outcome.notes (journal_of c.args.logs.now job) (journal_of c.add_notes.new.self job)
    (line.Entry (entry_for number (event_name (Own c.args.event.now)) outcome.judged outcome.reply)) c.in-Ok.ensures.grantees some (returns-clause-logs g c job)
