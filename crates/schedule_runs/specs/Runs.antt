-- A run of a text: the lines that were read, a world that took their steps, and what was printed.
use Rattle.std.specs.Prelude.{◌≡◌, ℕ, suc, Bool, true, List, [], ◌∷◌, ◌++◌, length, Option, None, Some, IfSome, Result, Ok, Err, OnOk, ⊤}
use Rattle.std.specs.Io.KnownBytes.{Appends, Consumes, Keeps}
use Rattle.private_store.specs.declared.schedules.Step.{Step}
use Rattle.private_store.specs.declared.schedules.StepAnswer.{StepAnswer}
use Rattle.private_store.specs.declared.schedules.Traced.{Traced}
use Rattle.schedule_text.specs.Prefixes.{prefix_of}
use Rattle.schedule_text.specs.Printing.{line_text}
use Rattle.journal_text.specs.declared.saved.JournalItem.{JournalItem}
use Rattle.journal_text.specs.Saved.{Saved}
use Rattle.private_store.specs.rules.Trace.{is_no_memory}
use Rattle.world_core.specs.MemoryLast.{IsMemoryLastIn}
use Rattle.world_core.specs.Noting.{IsNoted}
use Rattle.world_core.specs.Worlds.{Hosting, IsAfter}
use Rattle.program_lines.specs.declared.fault.Fault.{Fault}
use Rattle.program_lines.specs.declared.fault.Fault.TheVariants.{NotAStep, Input, Output, Socket, Folded, NoMemory}
use Rattle.schedule_runs.specs.Workers.{Crew, IsCrewAfter, noted as crew_noted}
use Rattle.schedule_runs.specs.SavedRuns.{SavedStep, IsSavedStep, KeepsStep}
use Rattle.schedule_runs.specs.Lines.{LineRead, AreHeard, IsAnswered, IsNoLine, with_answered, with_heard, items_of_lines, history_of, input_of, output_of, printed}
use Rattle.schedule_text.specs.Lines.{IsNextLine, with_line_feed}

-- the step was answered that there is no memory only if no other refusal was due
abbrev pub IsLast : Hosting → Step → StepAnswer → Type 0
IsLast old step answer = (nodes memory : ℕ) (history : List Traced) → IsAfter nodes memory old history → is_no_memory answer ≡ true → IsMemoryLastIn old step

-- the world takes the step, the line is that of its answer, the workers note it, and the journal keeps what it was to the jobs
pub record Answers (old : Hosting) (crew_old : Crew) (journal_old : Option Saved) (step : Step) (line : List ℕ) (new : Hosting) (crew_new : Crew) (journal_new : Option Saved) : Type 0 where
  pub answer : StepAnswer
  pub is_line : line ≡ line_text (prefix_of step) answer
  pub after : (nodes memory : ℕ) (history : List Traced) → IsAfter nodes memory old history → IsAfter nodes memory new (record { step = step; answer = answer } ∷ history)
  pub last : IsLast old step answer
  pub noted : crew_new ≡ crew_noted step answer crew_old
  pub kept : SavedStep
  pub keeps : IsNoted old new kept.judged kept.notes step answer
  pub journal : KeepsStep journal_old step answer kept journal_new

-- the same, and the line is written
pub record RunsStep (old : Hosting) (crew_old : Crew) (journal_old : Option Saved) (step : Step) (new : Hosting) (crew_new : Crew) (journal_new : Option Saved) (written_old written_new : Option (List ℕ)) : Type 0 where
  pub answer : StepAnswer
  pub after : (nodes memory : ℕ) (history : List Traced) → IsAfter nodes memory old history → IsAfter nodes memory new (record { step = step; answer = answer } ∷ history)
  pub last : IsLast old step answer
  pub noted : crew_new ≡ crew_noted step answer crew_old
  pub kept : SavedStep
  pub keeps : IsNoted old new kept.judged kept.notes step answer
  pub journal : KeepsStep journal_old step answer kept journal_new
  pub written : Appends written_old written_new (line_text (prefix_of step) answer)

-- a step of which no answer is written, but perhaps a part if the output failed
abbrev pub StopsStep : Option (List ℕ) → Option (List ℕ) → Fault → Type 0
StopsStep written_old written_new (NotAStep n) = ⊥
StopsStep written_old written_new Input = ⊥
StopsStep written_old written_new Output = ⊤
StopsStep written_old written_new Socket = ⊥
StopsStep written_old written_new Folded = ⊥
StopsStep written_old written_new NoMemory = Keeps written_old written_new

-- what a line's step was to the jobs, if it has one, and why it found no memory, if it did; else the world is as it was
abbrev pub KeepsHeard : Hosting → Hosting → Option Traced → SavedStep → Type 0
KeepsHeard old new None kept = new ≡ old
KeepsHeard old new (Some entry) kept = IsNoted old new kept.judged kept.notes entry.step entry.answer × IsLast old entry.step entry.answer

-- a whole line is read, its step taken, and its answer written
pub record RunsLine (nodes : ℕ) (bytes : List ℕ) (old : Hosting) (crew_old : Crew) (journal_old : Option Saved) (new : Hosting) (crew_new : Crew) (journal_new : Option Saved) (written_old written_new : Option (List ℕ)) : Type 0 where
  pub heard : LineRead
  pub is_text : bytes ≡ with_line_feed heard.text
  pub is_answered : (history : List Traced) → IsCrewAfter nodes crew_old history → IsAnswered nodes history heard.text heard.answered
  pub after : (memory : ℕ) (history : List Traced) → IsAfter nodes memory old history → IsAfter nodes memory new (with_answered heard.answered history)
  pub crew : (history : List Traced) → IsCrewAfter nodes crew_old history → IsCrewAfter nodes crew_new (with_answered heard.answered history)
  pub keeps : KeepsHeard old new heard.answered heard.kept
  pub journal : (asked : Bool) (marks : List JournalItem) → IsSavedStep asked journal_old marks → IsSavedStep asked journal_new (with_heard heard.answered heard.kept marks)
  pub written : Appends written_old written_new (printed heard.answered)

-- a line at which the run stops: nothing is written, unless the output failed
abbrev pub StopsRun : ℕ → ℕ → List ℕ → Option (List ℕ) → Option (List ℕ) → Fault → Type 0
StopsRun nodes number bytes written_old written_new (NotAStep n) = (n ≡ number) × IsNoLine nodes bytes × Keeps written_old written_new
StopsRun nodes number bytes written_old written_new Input = ⊥
StopsRun nodes number bytes written_old written_new Output = ⊤
StopsRun nodes number bytes written_old written_new Socket = ⊥
StopsRun nodes number bytes written_old written_new Folded = ⊥
StopsRun nodes number bytes written_old written_new NoMemory = Keeps written_old written_new

-- the lines lead from a new world to this one: what the step of each was to the jobs is kept, and each step was taken in the world
-- to which the lines before it led
abbrev pub LeadTo : ℕ → ℕ → List LineRead → Hosting → Type 0
LeadTo nodes memory [] world = IsAfter nodes memory world []
LeadTo nodes memory (heard ∷ lines) world =
    IsAfter nodes memory world (history_of (heard ∷ lines)) × ((before : Hosting) × (KeepsHeard before world heard.answered heard.kept × LeadTo nodes memory lines before))

abbrev pub AreKept : ℕ → ℕ → List LineRead → Type 0
AreKept nodes memory [] = ⊤
AreKept nodes memory (heard ∷ lines) = (world : Hosting) × LeadTo nodes memory (heard ∷ lines) world

-- a run so far
pub record Progress (nodes memory number : ℕ) (world : Hosting) (workers : Crew) (asked : Bool) (journal : Option Saved) (read_old read_new written_old written_new : Option (List ℕ)) : Type 0 where
  -- newest first
  pub lines : List LineRead
  -- the number of the next line
  pub counted : suc (length lines) ≡ number
  pub heard : AreHeard nodes lines
  pub after : IsAfter nodes memory world (history_of lines)
  pub crew : IsCrewAfter nodes workers (history_of lines)
  pub kept : LeadTo nodes memory lines world
  pub has_kept : IsSavedStep asked journal (items_of_lines lines)
  pub consumed : Consumes read_old read_new (input_of lines)
  pub written : Appends written_old written_new (output_of lines)

-- a history is that of some world which took its steps, one after another, from a new one on
abbrev pub IsWorldly : ℕ → ℕ → List Traced → Type 0
IsWorldly nodes memory [] = ⊤
IsWorldly nodes memory (entry ∷ history) = (world : Hosting) × IsAfter nodes memory world (entry ∷ history)

-- a run ends without a fault once the lines are the whole input; and in this line by a fault for what it says
abbrev pub EndsAt : ℕ → ℕ → List ℕ → Option (List ℕ) → List ℕ → Result ⊤ Fault → Type 0
EndsAt nodes number bytes read_old input (Ok u) = IfSome read_old (λ all. all ≡ input)
EndsAt nodes number bytes read_old input (Err (NotAStep n)) = (n ≡ number) × IsNoLine nodes bytes × IsNextLine read_old input bytes
EndsAt nodes number bytes read_old input (Err Input) = ⊤
EndsAt nodes number bytes read_old input (Err Output) = ⊤
EndsAt nodes number bytes read_old input (Err Socket) = ⊥
EndsAt nodes number bytes read_old input (Err Folded) = ⊥
EndsAt nodes number bytes read_old input (Err NoMemory) = ⊤

-- what a run wrote; if the output failed, nobody knows
abbrev pub IsOutput : Option (List ℕ) → Option (List ℕ) → List ℕ → Result ⊤ Fault → Type 0
IsOutput written_old written_new text (Err Output) = ⊤
IsOutput written_old written_new text (Err (NotAStep n)) = Appends written_old written_new text
IsOutput written_old written_new text (Err Input) = Appends written_old written_new text
IsOutput written_old written_new text (Err Socket) = Appends written_old written_new text
IsOutput written_old written_new text (Err Folded) = Appends written_old written_new text
IsOutput written_old written_new text (Err NoMemory) = Appends written_old written_new text
IsOutput written_old written_new text (Ok u) = Appends written_old written_new text

-- a whole run
pub record Ran (nodes memory : ℕ) (asked : Bool) (journal : Option Saved) (read_old read_new written_old written_new : Option (List ℕ)) (result : Result ⊤ Fault) : Type 0 where
  -- newest first
  pub lines : List LineRead
  -- what was read of the line after them
  pub rest : List ℕ
  pub heard : AreHeard nodes lines
  pub worldly : IsWorldly nodes memory (history_of lines)
  -- the journal, if one is asked for, has what the steps were to the jobs, unless a fault ended the run
  pub kept : AreKept nodes memory lines
  pub has_kept : OnOk result (IsSavedStep asked journal (items_of_lines lines))
  pub consumed : Consumes read_old read_new (input_of lines ++ rest)
  pub written : IsOutput written_old written_new (output_of lines) result
  pub ends : EndsAt nodes (suc (length lines)) rest read_old (input_of lines) result
