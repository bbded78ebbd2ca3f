-- What is made of a line that was read.
use Rattle.std.proofs.Common.{◌≡◌, ℕ, Bool, true, false, List, Option, Some, None, sym, ap, ◌∙◌}
use Rattle.private_store.specs.declared.schedules.Step.{Step}
use Rattle.private_store.specs.declared.schedules.Traced.{Traced}
use Rattle.store_facts.proofs.Tests.{true_false, none_some}
use Rattle.schedule_text.specs.Fields.{Reads}
use Rattle.schedule_text.specs.Reading.{IsLine, is_skipped}
use Rattle.schedule_text.specs.declared.line.Line.{Line}
use Rattle.schedule_text.specs.declared.line.Line.TheVariants as line
use Rattle.schedule_runs.specs.Lines.{IsSpelled, SpellsNone, stands, finishes}

-- which step a line is, if it is one
abbrev pub step_in : Option Line → Option Step
step_in (Some (line.Step step)) = Some step
step_in _ = None

-- and whether it finishes a work
abbrev pub is_finish : Option Line → Bool
is_finish (Some (line.Finish node job number outcome)) = true
is_finish _ = false

-- what is skipped, or isn't a line of a schedule, spells no step
pub no_step : (nodes : ℕ) (text : List ℕ) → is_skipped text ≡ false → (o : Option Line) → is_finish o ≡ false → step_in o ≡ None → Reads o (IsLine nodes text) → SpellsNone nodes text
no_step nodes text speaks o never none reads = record { speaks = speaks; none = λ u. by }
  where
    by : (history : List Traced) (other : Step) → IsSpelled nodes history text other → ⊥
    by history step (stands other l) = none_some other (sym none ∙ ap step_in (reads.whole (line.Step other) l))
    by history step (finishes n j m p l) = true_false (sym never ∙ ap is_finish (reads.whole (line.Finish n j m p) l))
