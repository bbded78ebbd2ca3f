-- How a run whose journal was folded ends.
use Rattle.std.proofs.Common.{◌≡◌, true, ℕ, List, Option, None, Some, Result, Ok, Err, is_some, sym, ap, ◌∙◌}
use Rattle.std.specs.Prelude.{if◌then◌else◌, IfOk}
use Rattle.store_facts.proofs.Tests.{true_false}
use Rattle.journal_text.specs.declared.saved.JournalItem.{JournalItem}
use Rattle.journal_text.specs.Saved.{Saved, is_folded, saved_text}
use Rattle.program_lines.specs.declared.fault.Fault.{Fault}
use Rattle.program_lines.specs.declared.fault.Fault.TheVariants.{Folded}
use Rattle.schedule_runs.specs.SavedRuns.{IsSavedStep}
use Rattle.schedules.specs.Transcripts.{IsJournalEnding, run_ending}

pub folded_ending : (journal : Option Saved) (fault : Fault) (text : List ℕ) → fault ≡ Folded → is_some journal ≡ true → ((marks : List JournalItem) → IsSavedStep true journal marks → is_folded marks ≡ true)
    → text ≡ run_ending fault → IsJournalEnding journal text
folded_ending None fault text is asked full response = true_false asked
folded_ending (Some saved) fault text is asked full response =
    λ marks h. response ∙ ap run_ending is ∙ sym (ap (λ b. if b then run_ending Folded else saved_text marks) (full marks h))

pub if_ok : {A E : Type 0} {P Q : A → Type 0} (r : Result A E) → IfOk r P → ((x : A) → P x → Q x) → IfOk r Q
if_ok (Ok x) h k = k x h
if_ok (Err e) h k = tt
