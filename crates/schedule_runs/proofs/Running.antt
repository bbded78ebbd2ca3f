-- A run with one line more, and how it ends.
use Rattle.std.proofs.Common.{◌≡◌, ◌≢◌, ℕ, suc, ◌+◌, ◌-◌, Bool, true, List, [], ◌∷◌, length, take, Option, None, Some, IfSome, Result, Ok, Err, OnOk, refl, sym, ap, subst, ◌∙◌, arith}
use Rattle.std.specs.Prelude.{All, ⊤}
use Rattle.std.specs.Io.{StopsAt}
use Rattle.std.specs.Io.BufRead.{take_through}
use Rattle.std.specs.Io.KnownBytes.{Keeps, Consumes, IsAtEnd}
use Rattle.std.proofs.Math.Seq.{take-append_seam}
use Rattle.std.proofs.lemmas.List.{length-append}
use Rattle.obj_id.specs.declared.ids.JobNo.{JobNo}
use Rattle.obj_id.specs.declared.works.DeviceAnswer.{DeviceAnswer}
use Rattle.private_store.specs.declared.schedules.Event.TheVariants as event
use Rattle.private_store.specs.declared.schedules.Step.{Step}
use Rattle.private_store.specs.declared.schedules.Step.TheVariants.{At}
use Rattle.private_store.specs.declared.schedules.Traced.{Traced}
use Rattle.schedule_text.specs.Reading.{is_skipped}
use Rattle.schedule_text.specs.declared.line.Line.TheVariants as line
use Rattle.schedule_text.specs.declared.line.FinishWord.{FinishWord}
use Rattle.world_core.specs.Worlds.{Hosting, IsAfter}
use Rattle.program_lines.specs.declared.fault.Fault.{Fault}
use Rattle.program_lines.specs.declared.fault.Fault.TheVariants.{NotAStep, Input, Output, Socket, Folded, NoMemory}
use Rattle.program_lines.specs.Endings.{IsReadingFault}
use Rattle.program_lines.proofs.ForCallers.{next_line}
use Rattle.schedule_runs.specs.Lines.{LineRead, IsSpelled, Says, stands, finishes, items_of_lines, history_of, input_of, output_of}
use Rattle.schedule_text.specs.Lines.{with_line_feed}
use Rattle.journal_text.specs.Saved.{Saved}
use Rattle.schedule_runs.specs.SavedRuns.{SavedStep, IsSavedStep}
use Rattle.schedule_runs.specs.Workers.{Crew, IsCrewAfter, Calls, handed_in, held_by}
use Rattle.schedule_runs.specs.Runs.{RunsStep, RunsLine, StopsRun, AreKept, LeadTo, Progress, IsWorldly, IsOutput, Ran}
use Rattle.schedule_runs.proofs.Crews.{handed_due, after_handing, after_step}
use Rattle.schedule_runs.proofs.Within.{said_apart, finish_within}
use Rattle.store_facts.proofs.KnownBytes.{Appends-none, Appends-then, Appends-kept, Consumes-none, Consumes-then, Consumes-all}

-- ---- one line

nothing_kept : SavedStep
nothing_kept = record { judged = None; notes = [] }

pub nothing_line : (nodes : ℕ) (bytes text : List ℕ) (world : Hosting) (crew : Crew) (journal : Option Saved) (a : Option (List ℕ)) → bytes ≡ with_line_feed text → is_skipped text ≡ true → RunsLine nodes bytes world crew journal world crew journal a a
nothing_line nodes bytes text world crew journal a is skipped =
    record { heard = record { text = text; answered = None; kept = nothing_kept }; is_text = is; is_answered = λ history h. skipped; after = λ memory history h. h; crew = λ history h. h; keeps = refl; journal = λ asked marks k. k; written = Appends-none a }

module _ (nodes : ℕ) (bytes text : List ℕ) (old new : Hosting) (crew_old crew_new : Crew) (journal_old journal_new : Option Saved) (a b : Option (List ℕ)) (result : Result ⊤ Fault) (is : bytes ≡ with_line_feed text) where
  pub step_line : (step : Step) → Says nodes text (line.Step step) → OnOk result (RunsStep old crew_old journal_old step new crew_new journal_new a b) → OnOk result (RunsLine nodes bytes old crew_old journal_old new crew_new journal_new a b)
  step_line step said ran = on_ok result ran
    where
      on_ok : (r : Result ⊤ Fault) → OnOk r (RunsStep old crew_old journal_old step new crew_new journal_new a b) → OnOk r (RunsLine nodes bytes old crew_old journal_old new crew_new journal_new a b)
      on_ok (Err e) ran = tt
      on_ok (Ok u) ran =
          record {
            heard = record { text = text; answered = Some (record { step = step; answer = ran.answer }); kept = ran.kept };
            is_text = is;
            is_answered = λ history crew. record { speaks = said.speaks; spelled = stands step said.spelled };
            after = λ memory history h. ran.after nodes memory history h;
            crew = λ history crew.
                subst (λ c. IsCrewAfter nodes c (record { step = step; answer = ran.answer } ∷ history)) (sym ran.noted)
                (after_step nodes crew_old history crew ran.answer step (said_apart nodes text step said));
            keeps = (ran.keeps, ran.last);
            journal = ran.journal;
            written = ran.written;
          }

  -- the crew between: what is handed in is known, and the step not taken yet
  pub finish_line : (crew : Crew) (node : ℕ) (job : JobNo) (number : ℕ) (o : FinishWord) (answer : DeviceAnswer) → Says nodes text (line.Finish node job number o)
      → answer ≡ handed_in crew_old.taken (held_by crew_old.devices) node job number o → Calls crew_old node job number answer crew
      → OnOk result (RunsStep old crew journal_old (At node (event.Finish job number answer)) new crew_new journal_new a b) → OnOk result (RunsLine nodes bytes old crew_old journal_old new crew_new journal_new a b)
  finish_line crew node job number o answer said due calls ran = on_ok result ran
    where
      step : Step
      step = At node (event.Finish job number answer)

      spelled : (history : List Traced) → IsCrewAfter nodes crew_old history → IsSpelled nodes history text step
      spelled history is_crew =
          subst (λ x. IsSpelled nodes history text (At node (event.Finish job number x))) (sym (due ∙ handed_due nodes crew_old history is_crew node job number o (finish_within nodes text node job number o said)))
          (finishes node job number o said.spelled)

      on_ok : (r : Result ⊤ Fault) → OnOk r (RunsStep old crew journal_old step new crew_new journal_new a b) → OnOk r (RunsLine nodes bytes old crew_old journal_old new crew_new journal_new a b)
      on_ok (Err e) ran = tt
      on_ok (Ok u) ran =
          record {
            heard = record { text = text; answered = Some (record { step = step; answer = ran.answer }); kept = ran.kept };
            is_text = is;
            is_answered = λ history is_crew. record { speaks = said.speaks; spelled = spelled history is_crew };
            after = λ memory history h. ran.after nodes memory history h;
            crew = λ history is_crew.
                subst (λ c. IsCrewAfter nodes c (record { step = step; answer = ran.answer } ∷ history)) (sym ran.noted)
                (after_handing nodes crew_old history is_crew ran.answer node job number answer crew calls);
            keeps = (ran.keeps, ran.last);
            journal = ran.journal;
            written = ran.written;
          }

-- a line without its line feed has none
pub whole_text : (bytes text : List ℕ) → bytes ≡ with_line_feed text → StopsAt bytes 10 → All (λ byte. byte ≢ 10) text
whole_text bytes text is stops =
    let at : length bytes - 1 ≡ length text = ap (λ b. length b - 1) is ∙ ap (λ n. n - 1) (length-append text (10 ∷ [])) ∙ (omega arith) in
    subst (All (λ byte. byte ≢ 10)) (ap (λ b. take (length bytes - 1) b) is ∙ ap (λ n. take n (with_line_feed text)) at ∙ take-append_seam text (10 ∷ [])) stops

-- ---- the run so far

pub worldly : (nodes memory : ℕ) (world : Hosting) (history : List Traced) → IsAfter nodes memory world history → IsWorldly nodes memory history
worldly nodes memory world [] h = tt
worldly nodes memory world (entry ∷ history) h = (world, h)

all_kept : (nodes memory : ℕ) (world : Hosting) (lines : List LineRead) → LeadTo nodes memory lines world → AreKept nodes memory lines
all_kept nodes memory world [] h = tt
all_kept nodes memory world (heard ∷ lines) h = (world, h)

pub begun : (nodes memory : ℕ) (world : Hosting) (crew : Crew) (asked : Bool) (journal : Option Saved) (a b : Option (List ℕ)) → IsAfter nodes memory world [] → IsCrewAfter nodes crew [] → IsSavedStep asked journal [] → Progress nodes memory 1 world crew asked journal a a b b
begun nodes memory world crew asked journal a b h c k = record { lines = []; counted = refl; heard = tt; after = h; crew = c; kept = h; has_kept = k; consumed = Consumes-none a; written = Appends-none b }

pub no_world : (nodes memory : ℕ) (asked : Bool) (journal : Option Saved) (a b : Option (List ℕ)) → Ran nodes memory asked journal a a b b (Err NoMemory)
no_world nodes memory asked journal a b = record { lines = []; rest = []; heard = tt; worldly = tt; kept = tt; has_kept = tt; consumed = Consumes-none a; written = Appends-none b; ends = tt }

module _ (nodes memory number : ℕ) (world : Hosting) (workers : Crew) (asked : Bool) (journal : Option Saved) (a r b w : Option (List ℕ)) (so_far : Progress nodes memory number world workers asked journal a r b w) where
  module _ (r1 : Option (List ℕ)) (bytes : List ℕ) (read : Consumes r r1 bytes) where
    pub reading_failed : (fault : Fault) (now : Option Saved) → IsReadingFault fault → Ran nodes memory asked now a r1 b w (Err fault)
    reading_failed (NotAStep n) now is = absurd is
    reading_failed Output now is = absurd is
    reading_failed Socket now is = absurd is
    reading_failed Folded now is = absurd is
    reading_failed Input now is =
        record {
          lines = so_far.lines;
          rest = bytes;
          heard = so_far.heard;
          worldly = worldly nodes memory world (history_of so_far.lines) so_far.after;
          kept = all_kept nodes memory world so_far.lines so_far.kept;
          has_kept = tt;
          consumed = Consumes-then a r r1 (input_of so_far.lines) bytes so_far.consumed read;
          written = so_far.written;
          ends = tt;
        }
    reading_failed NoMemory now is =
        record {
          lines = so_far.lines;
          rest = bytes;
          heard = so_far.heard;
          worldly = worldly nodes memory world (history_of so_far.lines) so_far.after;
          kept = all_kept nodes memory world so_far.lines so_far.kept;
          has_kept = tt;
          consumed = Consumes-then a r r1 (input_of so_far.lines) bytes so_far.consumed read;
          written = so_far.written;
          ends = tt;
        }

    pub input_ended : IsAtEnd r → Ran nodes memory asked journal a r1 b w (Ok tt)
    input_ended end =
        record {
          lines = so_far.lines;
          rest = bytes;
          heard = so_far.heard;
          worldly = worldly nodes memory world (history_of so_far.lines) so_far.after;
          kept = all_kept nodes memory world so_far.lines so_far.kept;
          has_kept = so_far.has_kept;
          consumed = Consumes-then a r r1 (input_of so_far.lines) bytes so_far.consumed read;
          written = so_far.written;
          ends = Consumes-all a r (input_of so_far.lines) so_far.consumed end;
        }

    pub line_stopped : IfSome r (λ left. bytes ≡ take_through 10 left) → (w1 : Option (List ℕ)) (fault : Fault) (now : Option Saved) → StopsRun nodes number bytes w w1 fault → Ran nodes memory asked now a r1 b w1 (Err fault)
    line_stopped whole w1 (NotAStep n) now stops =
        record {
          lines = so_far.lines;
          rest = bytes;
          heard = so_far.heard;
          worldly = worldly nodes memory world (history_of so_far.lines) so_far.after;
          kept = all_kept nodes memory world so_far.lines so_far.kept;
          has_kept = tt;
          consumed = Consumes-then a r r1 (input_of so_far.lines) bytes so_far.consumed read;
          written = Appends-kept b w w1 (output_of so_far.lines) so_far.written stops.2;
          ends = (stops.0 ∙ sym so_far.counted, stops.1, next_line a r (input_of so_far.lines) bytes so_far.consumed whole);
        }
    line_stopped whole w1 Input now stops = absurd stops
    line_stopped whole w1 Socket now stops = absurd stops
    line_stopped whole w1 Folded now stops = absurd stops
    line_stopped whole w1 Output now stops =
        record {
          lines = so_far.lines;
          rest = bytes;
          heard = so_far.heard;
          worldly = worldly nodes memory world (history_of so_far.lines) so_far.after;
          kept = all_kept nodes memory world so_far.lines so_far.kept;
          has_kept = tt;
          consumed = Consumes-then a r r1 (input_of so_far.lines) bytes so_far.consumed read;
          written = tt;
          ends = tt;
        }
    line_stopped whole w1 NoMemory now stops =
        record {
          lines = so_far.lines;
          rest = bytes;
          heard = so_far.heard;
          worldly = worldly nodes memory world (history_of so_far.lines) so_far.after;
          kept = all_kept nodes memory world so_far.lines so_far.kept;
          has_kept = tt;
          consumed = Consumes-then a r r1 (input_of so_far.lines) bytes so_far.consumed read;
          written = Appends-kept b w w1 (output_of so_far.lines) so_far.written stops;
          ends = tt;
        }

    pub line_more : (new : Hosting) (crew : Crew) (now : Option Saved) (w1 : Option (List ℕ)) → StopsAt bytes 10 → RunsLine nodes bytes world workers journal new crew now w w1 → Progress nodes memory (number + 1) new crew asked now a r1 b w1
    line_more new crew now w1 one ran =
        let counted = so_far.counted in
        record {
          lines = ran.heard ∷ so_far.lines;
          counted = ap suc counted ∙ (omega arith);
          heard = (record { whole = whole_text bytes ran.heard.text ran.is_text one; answered = ran.is_answered (history_of so_far.lines) so_far.crew }, so_far.heard);
          after = ran.after memory (history_of so_far.lines) so_far.after;
          crew = ran.crew (history_of so_far.lines) so_far.crew;
          kept = (ran.after memory (history_of so_far.lines) so_far.after, (world, (ran.keeps, so_far.kept)));
          has_kept = ran.journal asked (items_of_lines so_far.lines) so_far.has_kept;
          consumed = Consumes-then a r r1 (input_of so_far.lines) (with_line_feed ran.heard.text) so_far.consumed (subst (Consumes r r1) ran.is_text read);
          written = Appends-then b w w1 (output_of so_far.lines) _ so_far.written ran.written;
        }

  pub too_many : Ran nodes memory asked journal a r b w (Err Input)
  too_many = reading_failed r [] (Consumes-none r) Input journal tt

-- ---- what the writer kept back

IsOutput-kept : (b w w1 : Option (List ℕ)) (text : List ℕ) (result : Result ⊤ Fault) → IsOutput b w text result → Keeps w w1 → IsOutput b w1 text result
IsOutput-kept b w w1 text (Ok u) p q = Appends-kept b w w1 text p q
IsOutput-kept b w w1 text (Err (NotAStep n)) p q = Appends-kept b w w1 text p q
IsOutput-kept b w w1 text (Err Input) p q = Appends-kept b w w1 text p q
IsOutput-kept b w w1 text (Err Output) p q = tt
IsOutput-kept b w w1 text (Err Socket) p q = Appends-kept b w w1 text p q
IsOutput-kept b w w1 text (Err Folded) p q = Appends-kept b w w1 text p q
IsOutput-kept b w w1 text (Err NoMemory) p q = Appends-kept b w w1 text p q

module _ (nodes memory : ℕ) (asked : Bool) (journal : Option Saved) (a r b w w1 : Option (List ℕ)) (result : Result ⊤ Fault) (ran : Ran nodes memory asked journal a r b w result) where
  pub flushed : Keeps w w1 → Ran nodes memory asked journal a r b w1 result
  flushed kept =
      record {
        lines = ran.lines;
        rest = ran.rest;
        heard = ran.heard;
        worldly = ran.worldly;
        kept = ran.kept;
        has_kept = ran.has_kept;
        consumed = ran.consumed;
        written = IsOutput-kept b w w1 (output_of ran.lines) result ran.written kept;
        ends = ran.ends;
      }

  pub not_flushed : Ran nodes memory asked journal a r b w1 (Err Output)
  not_flushed = record { lines = ran.lines; rest = ran.rest; heard = ran.heard; worldly = ran.worldly; kept = ran.kept; has_kept = tt; consumed = ran.consumed; written = tt; ends = tt }
