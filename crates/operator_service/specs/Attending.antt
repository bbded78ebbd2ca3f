-- The lines of a control connection, and their answers.
use Rattle.std.specs.Prelude.{◌≡◌, ℕ, suc, ◌<◌, ◌⊎◌, Bool, true, false, List, [], ◌∷◌, ◌++◌, length, Option, Some, None, IfSome, MatchOption, Result, Ok, Err, codes, decimal, ⊤}
use Rattle.std.specs.Io.KnownBytes.{Appends, Consumes, IsAtEnd}
use Rattle.std.specs.Str.{IsUtf8}
use Rattle.std.specs.String.{string_bytes}
use Rattle.obj_id.specs.declared.commands.Reply.{Reply}
use Rattle.obj_id.specs.declared.commands.Usage.{Usage}
use Rattle.obj_id.specs.declared.ids.JobNo.{JobNo}
use Rattle.obj_id.specs.declared.refusals.Refusal.{Refusal}
use Rattle.node_gate.specs.declared.journaled.LiveJob.{LiveJob}
use Rattle.private_store.specs.declared.schedules.StepAnswer.TheVariants.{Response}
use Rattle.schedule_text.specs.declared.prefixes.Prefix.TheVariants.{Operator}
use Rattle.schedule_text.specs.Printing.{line_text}
use Rattle.schedule_text.specs.Reading.{is_skipped}
use Rattle.shared_nodes.specs.declared.report.Report.{Report}
use Rattle.operator_service.specs.declared.attending.Closed.{Closed}
use Rattle.private_store.specs.declared.schedules.Event.{Event}
use Rattle.program_lines.specs.declared.operator.Change.{Change}
use Rattle.operator_service.specs.declared.attending.TheConstants.{ORDERS}
use Rattle.program_lines.specs.declared.taking.TheConstants.{LONGEST_LINE}
use Rattle.program_lines.specs.declared.control_lines.ControlLine.{ControlLine}
use Rattle.program_lines.specs.declared.control_lines.ControlLine.TheVariants as asked
use Rattle.operator_service.specs.declared.attending.Answer.{Answer}
use Rattle.program_lines.specs.declared.fault.Fault.{Fault}
use Rattle.program_lines.specs.declared.fault.Fault.TheVariants.{NotAStep, Input, Output, Socket, Folded, NoMemory}
use Rattle.program_lines.specs.declared.operator.Order.TheVariants as order
use Rattle.program_lines.specs.declared.taking.LineTaken.{LineTaken}
use Rattle.program_lines.specs.declared.taking.LineTaken.TheVariants.{Line, TooLong}
use Rattle.program_lines.specs.ControlLines.{IsControlLine, IsAskedWithin}
use Rattle.schedule_text.specs.Lines.{with_line_feed}
use Rattle.operator_service.specs.Looks.{IsLookText, IsKickText}
use Rattle.operator_service.specs.Servings.{IsCarriedOut, IsWritten, StepsEnded, event_of_change, report_line, steps_for}
use Rattle.program_lines.specs.TakenLines.{IsUnbroken}

-- ---- answers

-- to the line of this number, which is no order
abbrev pub no_order_line : ℕ → List ℕ
no_order_line number = with_line_feed (codes "line " ++ decimal number ++ codes ": not an order: the orders are " ++ ORDERS.now)

-- to a line that asks for a change: the node's, with the reply to this very change, and what was stepped for it
pub record IsChangeLine {T : Type 0} (ordered : ℕ → Event → Reply (List ℕ) → T → Type 0) (node : ℕ) (what : Change) (line : List ℕ) (events : List Event) : Type 0 where
  pub response : Reply (List ℕ)
  pub receipt : Option T
  pub carried : IsCarriedOut ordered node what response receipt
  pub steps : events ≡ steps_for what receipt
  pub is : line ≡ line_text (Operator node) (Response response)

-- to one that lets the server close: its report, or that a fault ended it
abbrev pub closing_line : Option Report → List ℕ
closing_line (Some report) = report_line report
closing_line None = with_line_feed (codes "not done: a fault ends the server")

-- the server of so many nodes was let close: the sessions of all of them were shut down if that was asked for, and what was counted, was at each of them
pub record IsClosed (nodes : ℕ) (now : Bool) (closed : Closed) : Type 0 where
  pub shut : MatchOption closed.shut (now ≡ false) (λ shut. (now ≡ true) × (shut.nodes ≡ nodes))
  pub counted : IfSome closed.report (λ report. report.nodes ≡ nodes)

pub record IsClosingLine (nodes : ℕ) (now : Bool) (line : List ℕ) : Type 0 where
  pub closed : Closed
  pub is_closed : IsClosed nodes now closed
  pub is : line ≡ closing_line closed.report

-- what is shown is shown by the node that was asked for, and the server is let close as it was asked for: `close now` ends the open sessions. Only a change is stepped
abbrev pub IsAnswer : {T : Type 0} → (ℕ → Event → Reply (List ℕ) → T → Type 0) → (ℕ → List LiveJob → Type 0) → (ℕ → JobNo → Result Usage Refusal → Type 0) → ℕ → ControlLine → List ℕ → List Event → Type 0
IsAnswer ordered are_live is_usage nodes (asked.Order (order.Change node c)) line events = IsChangeLine ordered node c line events
IsAnswer ordered are_live is_usage nodes (asked.Order order.Close) line events = IsClosingLine nodes false line × (events ≡ [])
IsAnswer ordered are_live is_usage nodes asked.CloseNow line events = IsClosingLine nodes true line × (events ≡ [])
IsAnswer ordered are_live is_usage nodes (asked.Look node what) line events = IsLookText are_live is_usage node what line × (events ≡ [])
IsAnswer ordered are_live is_usage nodes (asked.Kick node job session) line events = IsKickText node job.0 session line × (events ≡ [])

-- the event is the change that is asked for
pub record IsChangeOf (what : ControlLine) (e : Event) : Type 0 where
  pub node : ℕ
  pub change : Change
  pub is_asked : what ≡ asked.Order (order.Change node change)
  pub is : e ≡ event_of_change change

-- the text of a line asks for it
pub record IsAskedFor (nodes : ℕ) (text : List ℕ) (e : Event) : Type 0 where
  pub what : ControlLine
  pub spelled : IsControlLine nodes text what
  pub of : IsChangeOf what e

-- an actor has stepped some events, of which this is true
pub record HasStepped (is_true : List Event → Type 0) (before after : List Event) : Type 0 where
  pub events : List Event
  pub steps : after ≡ before ++ events
  pub is : is_true events

-- after it nothing more is read
abbrev pub is_closing : ControlLine → Bool
is_closing (asked.Order order.Close) = true
is_closing asked.CloseNow = true
is_closing _ = false

-- the text is no order for so many nodes, or it is longer than a line may be
pub record IsNoAsked (nodes count : ℕ) (text : List ℕ) : Type 0 where
  pub speaks : is_skipped text ≡ false
  pub none : IsUtf8 text → (a : ControlLine) → IsControlLine nodes text a → IsAskedWithin count a → ⊥

-- a line with this number, without its line feed, was answered so, what was stepped for it, and whether it was the last: what is skipped
-- has no answer, an order its own, and any other line is answered that it is none
pub data IsHandled (answers : ControlLine → List ℕ → List Event → Type 0) (nodes count number : ℕ) (text : List ℕ) : List ℕ → List Event → Bool → Type 0 where
  skipped : is_skipped text ≡ true → IsHandled answers nodes count number text [] [] false
  long : LONGEST_LINE < length text → IsHandled answers nodes count number text (no_order_line number) [] false
  none : IsNoAsked nodes count text → IsHandled answers nodes count number text (no_order_line number) [] false
  answered : (a : ControlLine) (line : List ℕ) (events : List Event) → IsControlLine nodes text a → answers a line events → IsHandled answers nodes count number text line events (is_closing a)

-- the answer that was made of it
abbrev pub IsAnswered : (ControlLine → List ℕ → List Event → Type 0) → ℕ → ℕ → ℕ → List ℕ → List Event → List Event → Answer → Type 0
IsAnswered answers nodes count number text before after a = HasStepped (λ events. IsHandled answers nodes count number text (string_bytes a.line) events a.is_last) before after

-- what was made of an order: its answer, or that it is none, since there is no such node
pub record IsNone (number : ℕ) (a : Answer) : Type 0 where
  pub line : string_bytes a.line ≡ no_order_line number
  pub further : a.is_last ≡ false

pub record IsAnswerOf (answers : ControlLine → List ℕ → List Event → Type 0) (what : ControlLine) (before after : List Event) (a : Answer) : Type 0 where
  pub line : HasStepped (answers what (string_bytes a.line)) before after
  pub last : a.is_last ≡ is_closing what

abbrev pub IsAnswerMade : (ControlLine → List ℕ → List Event → Type 0) → ℕ → ℕ → ControlLine → List Event → List Event → Answer → Type 0
IsAnswerMade answers count number what before after a = IsAnswerOf answers what before after a ⊎ ((IsAskedWithin count what → ⊥) × IsNone number a × (after ≡ before))

-- the text that was taken, of which only a line that isn't too long was kept
abbrev pub IsAnswerText : LineTaken → List ℕ → List ℕ → Type 0
IsAnswerText Line line text = text ≡ line
IsAnswerText TooLong line text = LONGEST_LINE < length text

-- a line is answered, and the answer written
pub record Replies (answers : ControlLine → List ℕ → List Event → Type 0) (nodes count number : ℕ) (text : List ℕ) (before after : List Event) (written_old written_new : Option (List ℕ)) (is_last : Bool) : Type 0 where
  pub answer : List ℕ
  pub handled : HasStepped (λ events. IsHandled answers nodes count number text answer events is_last) before after
  pub written : Appends written_old written_new answer

-- ---- the whole of a connection

-- a line, without its line feed, its answer, and what was stepped for it
pub record Attended : Type 0 where
  pub text : List ℕ
  pub answer : List ℕ
  pub events : List Event
  pub is_last : Bool

-- of lines that stand newest first: each is one, with the next number, and was answered
abbrev pub AreAttended : (ControlLine → List ℕ → List Event → Type 0) → ℕ → ℕ → List Attended → Type 0
AreAttended answers nodes count [] = ⊤
AreAttended answers nodes count (a ∷ lines) = IsUnbroken a.text × IsHandled answers nodes count (suc (length lines)) a.text a.answer a.events a.is_last × AreAttended answers nodes count lines

-- what was stepped for them, in its order
abbrev pub steps_of : List Attended → List Event
steps_of [] = []
steps_of (a ∷ lines) = steps_of lines ++ a.events

-- the bytes that were read
abbrev pub texts_of : List Attended → List ℕ
texts_of [] = []
texts_of (a ∷ lines) = texts_of lines ++ with_line_feed a.text

-- the bytes that were written
abbrev pub answers_of : List Attended → List ℕ
answers_of [] = []
answers_of (a ∷ lines) = answers_of lines ++ a.answer

-- the connection so far
pub record Attending (answers : ControlLine → List ℕ → List Event → Type 0) (nodes count number : ℕ) (before after : List Event) (read_old read_new written_old written_new : Option (List ℕ)) : Type 0 where
  -- newest first
  pub lines : List Attended
  -- the number of the next line
  pub counted : suc (length lines) ≡ number
  pub attended : AreAttended answers nodes count lines
  pub steps : after ≡ before ++ steps_of lines
  pub consumed : Consumes read_old read_new (texts_of lines)
  pub written : Appends written_old written_new (answers_of lines)

-- whether the newest let the server close
abbrev pub was_last : List Attended → Bool
was_last [] = false
was_last (a ∷ lines) = a.is_last

-- it ends without a fault after a line that lets the server close, or at the end of the input, of which a part of a line may be left
abbrev pub AttendingEnds : Option (List ℕ) → List Attended → List ℕ → Result ⊤ Fault → Type 0
AttendingEnds read_new lines rest (Ok u) = ((was_last lines ≡ true) × (rest ≡ [])) ⊎ (IsAtEnd read_new × IsUnbroken rest)
AttendingEnds read_new lines rest (Err (NotAStep n)) = ⊥
AttendingEnds read_new lines rest (Err Input) = ⊤
AttendingEnds read_new lines rest (Err Output) = ⊤
AttendingEnds read_new lines rest (Err Socket) = ⊥
AttendingEnds read_new lines rest (Err Folded) = ⊥
AttendingEnds read_new lines rest (Err NoMemory) = ⊤

-- the bytes after the last line that was answered are a line that asks for the event
pub record IsAskedLine (nodes : ℕ) (bytes : List ℕ) (e : Event) : Type 0 where
  pub text : List ℕ
  pub is_text : bytes ≡ with_line_feed text
  pub asks : IsAskedFor nodes text e

-- the whole of it
pub record HasAttended (answers : ControlLine → List ℕ → List Event → Type 0) (nodes count : ℕ) (before after : List Event) (read_old read_new written_old written_new : Option (List ℕ)) (result : Result ⊤ Fault) : Type 0 where
  -- newest first
  pub lines : List Attended
  -- what was read after them
  pub rest : List ℕ
  pub attended : AreAttended answers nodes count lines
  -- what was stepped is what they ask for, and perhaps what the line after them asks for, whose answer nobody got
  pub steps : StepsEnded (IsAskedLine nodes rest) (before ++ steps_of lines) after result
  pub consumed : Consumes read_old read_new (texts_of lines ++ rest)
  pub written : IsWritten written_old written_new (answers_of lines) result
  pub ends : AttendingEnds read_new lines rest result
