-- A run whose journal was saved: its text replays.
use Rattle.std.proofs.Common.{◌≡◌, ℕ, ◌≤◌, true, false, List, [], ◌∷◌, Option, None, Some, Result, Ok, sym, subst, arith}
use Rattle.std.specs.Prelude.{nat_le, ◌&&◌}
use Rattle.std.proofs.lemmas.Bool.Decides.{nat_tests}
use Rattle.store_facts.proofs.Tests.{both_left, both_right}
use Rattle.journal_text.specs.declared.saved.JournalItem.{JournalItem}
use Rattle.journal_text.specs.Saved.{Saved, is_folded, saved_text, AreTyped}
use Rattle.journal_replay.specs.declared.fault.ReplayFault.{ReplayFault}
use Rattle.journal_replay.specs.declared.program.Verdict.{Verdict}
use Rattle.journal_replay.specs.Saved.{AreSound, SavedReplays, entries_saved, lines_after_first}
use Rattle.journal_replay.specs.Texts.{Replays}
use Rattle.journal_replay.proofs.ForCallers.{replays_saved}
use Rattle.world_core.specs.declared.ClusterSize.{ClusterSize}
use Rattle.world_core.specs.Worlds.{is_shape, most_nodes}
use Rattle.job_admission.specs.Admissions.{largest_memory}
use Rattle.schedule_runs.specs.SavedRuns.{IsSavedStep}
use Rattle.schedule_runs.specs.Lines.{AreHeard, LineRead, items_of_lines}
use Rattle.schedule_runs.specs.Runs.{AreKept, Ran}
use Rattle.journal_laws.specs.SavedRuns.{IsTextOf}
use Rattle.journal_laws.proofs.WorldTold.{all_told}

few_nodes : (nodes : ℕ) → nat_le nodes most_nodes ≡ true → nodes ≤ 8
few_nodes nodes e = grind (arith, nat_tests, e)

shape_few : (shape : ClusterSize) → is_shape shape ≡ true → shape.nodes ≤ 8
shape_few shape h = few_nodes shape.nodes (both_right (nat_le 1 shape.nodes) (nat_le shape.nodes most_nodes) (both_left (nat_le 1 shape.nodes && nat_le shape.nodes most_nodes) (nat_le shape.memory largest_memory) h))

entries_sound : (nodes memory : ℕ) → nodes ≤ 8 → (lines : List LineRead) → AreHeard nodes lines → AreKept nodes memory lines → AreSound (entries_saved (items_of_lines lines))
entries_sound nodes memory few [] heard kept = tt
entries_sound nodes memory few (line ∷ lines) heard kept = (all_told nodes memory few (line ∷ lines) kept.0 heard kept.1).0.sound

entries_typed : (journal : Option Saved) (marks : List JournalItem) → IsSavedStep true journal marks → is_folded marks ≡ false → AreTyped marks
entries_typed None marks kept whole = absurd kept
entries_typed (Some saved) marks kept whole = kept.typed whole

pub run_replays : (shape : ClusterSize) (journal : Option Saved) (read_old read_new printed_old printed_new : Option (List ℕ)) (text : List ℕ) → is_shape shape ≡ true
    → Ran shape.nodes shape.memory true journal read_old read_new printed_old printed_new (Ok tt) → IsTextOf journal text
    → (left written_old written_new : Option (List ℕ)) (result : Result Verdict ReplayFault) → Replays (Some text) left written_old written_new result → SavedReplays (lines_after_first text) written_old written_new result
run_replays shape journal read_old read_new printed_old printed_new text is ran saved left written_old written_new result replays =
    let marks : List JournalItem = items_of_lines ran.lines in
    let whole : (is_folded marks ≡ false) × (text ≡ saved_text marks) = saved marks ran.has_kept in
    subst (λ t. SavedReplays (lines_after_first t) written_old written_new result) (sym whole.1)
    (replays_saved marks (entries_typed journal marks ran.has_kept whole.0) (entries_sound shape.nodes shape.memory (shape_few shape is) ran.lines ran.heard ran.kept)
    left written_old written_new result (subst (λ t. Replays (Some t) left written_old written_new result) whole.1 replays))
