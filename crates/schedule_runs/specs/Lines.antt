-- What a line says to the program, and the lines of a run with their answers.
use Rattle.std.specs.Prelude.{◌≡◌, ◌≢◌, ℕ, true, false, List, [], ◌∷◌, ◌++◌, All, Option, Some, None, ⊤}
use Rattle.std.specs.Str.{IsUtf8}
use Rattle.obj_id.specs.declared.ids.JobNo.{JobNo}
use Rattle.private_store.specs.declared.schedules.Event.TheVariants as event
use Rattle.private_store.specs.declared.schedules.Step.{Step}
use Rattle.private_store.specs.declared.schedules.Step.TheVariants.{At}
use Rattle.private_store.specs.declared.schedules.Traced.{Traced}
use Rattle.schedule_text.specs.declared.line.Line.{Line}
use Rattle.schedule_text.specs.declared.line.Line.TheVariants as line
use Rattle.schedule_text.specs.declared.line.FinishWord.{FinishWord}
use Rattle.schedule_text.specs.Lines.{with_line_feed}
use Rattle.schedule_text.specs.Prefixes.{prefix_of}
use Rattle.schedule_text.specs.Printing.{line_text}
use Rattle.schedule_text.specs.Reading.{IsLine, is_skipped}
use Rattle.schedule_runs.specs.declared.lines.LineMeaning.{LineMeaning}
use Rattle.schedule_runs.specs.declared.lines.LineMeaning.TheVariants as said
use Rattle.journal_text.specs.declared.saved.JournalItem.{JournalItem}
use Rattle.schedule_runs.specs.SavedRuns.{SavedStep, with_step}
use Rattle.schedule_runs.specs.Workers.{device_answer_due}

-- a text spells a step as it stands, or says what is handed in for a work: what is due after the steps before it
pub data IsSpelled (nodes : ℕ) (history : List Traced) (text : List ℕ) : Step → Type 0 where
  stands : (step : Step) → IsLine nodes text (line.Step step) → IsSpelled nodes history text step
  finishes : (node : ℕ) (job : JobNo) (number : ℕ) (outcome : FinishWord) → IsLine nodes text (line.Finish node job number outcome)
      → IsSpelled nodes history text (At node (event.Finish job number (device_answer_due history node job number outcome)))

-- the text spells a step after these steps
pub record Spells (nodes : ℕ) (history : List Traced) (text : List ℕ) (step : Step) : Type 0 where
  pub speaks : is_skipped text ≡ false
  pub spelled : IsSpelled nodes history text step

-- the text says something, and it is this
pub record Says (nodes : ℕ) (text : List ℕ) (said : Line) : Type 0 where
  pub speaks : is_skipped text ≡ false
  pub spelled : IsLine nodes text said

-- it says something, but no step
pub record SpellsNone (nodes : ℕ) (text : List ℕ) : Type 0 where
  pub speaks : is_skipped text ≡ false
  pub none : IsUtf8 text → (history : List Traced) (step : Step) → IsSpelled nodes history text step → ⊥

-- what is made of a text is what it says
abbrev pub IsSaid : ℕ → List ℕ → LineMeaning → Type 0
IsSaid nodes text said.Nothing = is_skipped text ≡ true
IsSaid nodes text (said.Step step) = Says nodes text (line.Step step)
IsSaid nodes text (said.Finish node job number outcome) = Says nodes text (line.Finish node job number outcome)
IsSaid nodes text said.NoStep = SpellsNone nodes text

-- a line that was read, without its line feed, and the answered step of it, if it was one
pub record LineRead : Type 0 where
  pub text : List ℕ
  pub answered : Option Traced
  -- what that step was to the jobs
  pub kept : SavedStep

-- a line that says nothing has no answer; every other spells the step that was answered, after these steps
abbrev pub IsAnswered : ℕ → List Traced → List ℕ → Option Traced → Type 0
IsAnswered nodes history text None = is_skipped text ≡ true
IsAnswered nodes history text (Some entry) = Spells nodes history text entry.step

pub record IsLineRead (nodes : ℕ) (history : List Traced) (heard : LineRead) : Type 0 where
  pub whole : All (λ byte. byte ≢ 10) heard.text
  pub answered : IsAnswered nodes history heard.text heard.answered

-- with the entries and notes of a line, newest first
abbrev pub with_heard : Option Traced → SavedStep → List JournalItem → List JournalItem
with_heard None kept marks = marks
with_heard (Some entry) kept marks = with_step entry.step entry.answer kept marks

abbrev pub items_of_lines : List LineRead → List JournalItem
items_of_lines [] = []
items_of_lines (heard ∷ lines) = with_heard heard.answered heard.kept (items_of_lines lines)

-- the steps with their answers, of lines that stand newest first
abbrev pub with_answered : Option Traced → List Traced → List Traced
with_answered None history = history
with_answered (Some entry) history = entry ∷ history

abbrev pub history_of : List LineRead → List Traced
history_of [] = []
history_of (heard ∷ lines) = with_answered heard.answered (history_of lines)

abbrev pub AreHeard : ℕ → List LineRead → Type 0
AreHeard nodes [] = ⊤
AreHeard nodes (heard ∷ lines) = IsLineRead nodes (history_of lines) heard × AreHeard nodes lines

-- the bytes that were read
abbrev pub input_of : List LineRead → List ℕ
input_of [] = []
input_of (heard ∷ lines) = input_of lines ++ with_line_feed heard.text

-- what is printed for a line
abbrev pub printed : Option Traced → List ℕ
printed None = []
printed (Some entry) = line_text (prefix_of entry.step) entry.answer

-- what is printed for all of them
abbrev pub output_of : List LineRead → List ℕ
output_of [] = []
output_of (heard ∷ lines) = output_of lines ++ printed heard.answered

-- bytes that aren't a line of a schedule: its line feed is missing, or its text spells no step
pub record IsNoLine (nodes : ℕ) (bytes : List ℕ) : Type 0 where
  pub none : (text : List ℕ) → bytes ≡ with_line_feed text → SpellsNone nodes text
