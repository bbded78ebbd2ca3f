-- The operator's lines that were carried out, and what was printed for them.
use Rattle.std.specs.Prelude.{◌≡◌, ◌⊎◌, ℕ, suc, false, true, Bool, List, [], ◌∷◌, ◌++◌, length, Option, IfSome, MatchOption, Result, Ok, Err, codes, decimal, ⊤}
use Rattle.std.specs.Option.{option_map_or}
use Rattle.std.specs.Io.KnownBytes.{Appends, Consumes, Keeps}
use Rattle.std.specs.Str.{IsUtf8}
use Rattle.obj_id.specs.declared.commands.Reply.{Reply}
use Rattle.obj_id.specs.declared.commands.Reply.TheVariants as reply
use Rattle.obj_id.specs.declared.refusals.Refusal.TheVariants as refusal
use Rattle.private_store.specs.declared.schedules.Event.{Event}
use Rattle.private_store.specs.declared.schedules.Event.TheVariants as event
use Rattle.private_store.specs.declared.schedules.StepAnswer.TheVariants.{Response}
use Rattle.schedule_text.specs.declared.prefixes.Prefix.TheVariants.{Operator}
use Rattle.schedule_text.specs.Printing.{line_text}
use Rattle.shared_nodes.specs.declared.report.Report.{Report}
use Rattle.program_lines.specs.declared.fault.Fault.{Fault}
use Rattle.program_lines.specs.declared.fault.Fault.TheVariants.{NotAStep, Input, Output, Socket, Folded, NoMemory}
use Rattle.program_lines.specs.declared.operator.Change.{Change}
use Rattle.program_lines.specs.declared.operator.Change.TheVariants as change
use Rattle.program_lines.specs.declared.operator.Order.{Order}
use Rattle.program_lines.specs.declared.operator.Order.TheVariants as order
use Rattle.operator_service.specs.declared.serving.LastLine.{LastLine}
use Rattle.operator_service.specs.declared.serving.LastLine.TheVariants.{Close, OfInput}
use Rattle.schedule_text.specs.Lines.{with_line_feed, IsNextLine}
use Rattle.program_lines.specs.Orders.{IsOrder, IsWithin}

-- the event that a change is
abbrev pub event_of_change : Change → Event
event_of_change (change.Admit job quota key) = event.Admit job quota key
event_of_change (change.Requota job quota) = event.Requota job quota
event_of_change (change.End job) = event.JobEnd job

-- the receipt is of a step at the node of this number, which was answered so
abbrev pub IsOrderedAt : {T : Type 0} → (Event → Reply (List ℕ) → T → Type 0) → (T → ℕ) → ℕ → Event → Reply (List ℕ) → T → Type 0
IsOrderedAt receipt_of made_at node e response receipt = receipt_of e response receipt × (made_at receipt ≡ node)

-- the reply is that of a step of this very change at this node, of which the receipt tells; without memory there was no step
abbrev pub IsCarriedOut : {T : Type 0} → (ℕ → Event → Reply (List ℕ) → T → Type 0) → ℕ → Change → Reply (List ℕ) → Option T → Type 0
IsCarriedOut ordered node asked response receipt = MatchOption receipt (response ≡ reply.Refused refusal.NoMemory) (ordered node (event_of_change asked) response)

-- what was stepped for a change: it alone, if there is a receipt
abbrev pub steps_for : {T : Type 0} → Change → Option T → List Event
steps_for asked receipt = option_map_or (λ _. event_of_change asked ∷ []) receipt []

-- nothing was stepped, or one event of those that were asked for
abbrev pub MayStep : (Event → Type 0) → List Event → List Event → Type 0
MayStep asks before after = (after ≡ before) ⊎ ((e : Event) × asks e × (after ≡ before ++ e ∷ []))

-- a line, without its line feed, and the answer to it, with the receipt of its step
pub record Obeyed (T : Type 0) : Type 0 where
  pub text : List ℕ
  pub node : ℕ
  pub change : Change
  pub reply : Reply (List ℕ)
  pub receipt : Option T

-- the bytes of a line that was answered
abbrev pub order_answer_text : {T : Type 0} → Obeyed T → List ℕ
order_answer_text o = line_text (Operator o.node) (Response o.reply)

-- of lines that stand newest first: each spells its change, which was carried out
abbrev pub AreObeyed : {T : Type 0} → (ℕ → Event → Reply (List ℕ) → T → Type 0) → ℕ → List (Obeyed T) → Type 0
AreObeyed ordered nodes [] = ⊤
AreObeyed ordered nodes (o ∷ lines) = IsOrder nodes o.text (order.Change o.node o.change) × IsCarriedOut ordered o.node o.change o.reply o.receipt × AreObeyed ordered nodes lines

-- what was stepped for them, in its order
abbrev pub steps_of : {T : Type 0} → List (Obeyed T) → List Event
steps_of [] = []
steps_of (o ∷ lines) = steps_of lines ++ steps_for o.change o.receipt

-- the bytes that were read
abbrev pub orders_of : {T : Type 0} → List (Obeyed T) → List ℕ
orders_of [] = []
orders_of (o ∷ lines) = orders_of lines ++ with_line_feed o.text

-- the bytes that were written
abbrev pub answers_of : {T : Type 0} → List (Obeyed T) → List ℕ
answers_of [] = []
answers_of (o ∷ lines) = answers_of lines ++ order_answer_text o

-- a change is carried out, and its answer written
pub record Replies {T : Type 0} (ordered : ℕ → Event → Reply (List ℕ) → T → Type 0) (node : ℕ) (asked : Change) (before after : List Event) (written_old written_new : Option (List ℕ)) : Type 0 where
  pub reply : Reply (List ℕ)
  pub receipt : Option T
  pub carried : IsCarriedOut ordered node asked reply receipt
  pub steps : after ≡ before ++ steps_for asked receipt
  pub written : Appends written_old written_new (line_text (Operator node) (Response reply))

-- a line is carried out, and its answer written
pub record CarriesOut {T : Type 0} (ordered : ℕ → Event → Reply (List ℕ) → T → Type 0) (nodes : ℕ) (bytes : List ℕ) (before after : List Event) (written_old written_new : Option (List ℕ)) : Type 0 where
  pub obeyed : Obeyed T
  pub is_text : bytes ≡ with_line_feed obeyed.text
  pub spelled : IsOrder nodes obeyed.text (order.Change obeyed.node obeyed.change)
  pub carried : IsCarriedOut ordered obeyed.node obeyed.change obeyed.reply obeyed.receipt
  pub steps : after ≡ before ++ steps_for obeyed.change obeyed.receipt
  pub written : Appends written_old written_new (order_answer_text obeyed)

-- the bytes of `close`
abbrev pub close_line : List ℕ
close_line = with_line_feed (codes "close")

-- a line after which it goes on, or doesn't
abbrev pub ServesLine : {T : Type 0} → (ℕ → Event → Reply (List ℕ) → T → Type 0) → ℕ → List ℕ → List Event → List Event → Option (List ℕ) → Option (List ℕ) → Bool → Type 0
ServesLine ordered nodes bytes before after written_old written_new true = CarriesOut ordered nodes bytes before after written_old written_new
ServesLine ordered nodes bytes before after written_old written_new false = (bytes ≡ close_line) × (after ≡ before) × Keeps written_old written_new

-- an answer that isn't written, but perhaps a part if the output failed
abbrev pub StopsReply : Option (List ℕ) → Option (List ℕ) → Fault → Type 0
StopsReply written_old written_new (NotAStep n) = ⊥
StopsReply written_old written_new Input = ⊥
StopsReply written_old written_new Output = ⊤
StopsReply written_old written_new Socket = ⊥
StopsReply written_old written_new Folded = ⊥
StopsReply written_old written_new NoMemory = Keeps written_old written_new

-- bytes that aren't a line of the operator's: its line feed is missing, or its text spells no order for so many nodes
pub record IsNoOrder (nodes count : ℕ) (bytes : List ℕ) : Type 0 where
  pub none : (text : List ℕ) → bytes ≡ with_line_feed text → IsUtf8 text → (asked : Order) → IsOrder nodes text asked → IsWithin count asked → ⊥

-- a line at which the serving stops: nothing is written, unless the output failed
abbrev pub StopsOrder : ℕ → ℕ → ℕ → List ℕ → Option (List ℕ) → Option (List ℕ) → Fault → Type 0
StopsOrder nodes count number bytes written_old written_new (NotAStep n) = (n ≡ number) × IsNoOrder nodes count bytes × Keeps written_old written_new
StopsOrder nodes count number bytes written_old written_new Input = ⊥
StopsOrder nodes count number bytes written_old written_new Output = ⊤
StopsOrder nodes count number bytes written_old written_new Socket = ⊥
StopsOrder nodes count number bytes written_old written_new Folded = ⊥
StopsOrder nodes count number bytes written_old written_new NoMemory = Keeps written_old written_new

-- the bytes spell the change that the event is
pub record IsSpelled (nodes : ℕ) (bytes : List ℕ) (e : Event) : Type 0 where
  pub text : List ℕ
  pub node : ℕ
  pub change : Change
  pub is_text : bytes ≡ with_line_feed text
  pub spelled : IsOrder nodes text (order.Change node change)
  pub is : e ≡ event_of_change change

-- what was stepped for a line at which the serving stops: nothing, or what was asked for, of which the answer could not be made or written
abbrev pub StepsStopped : (Event → Type 0) → List Event → List Event → Fault → Type 0
StepsStopped asks before after (NotAStep n) = after ≡ before
StepsStopped asks before after Input = after ≡ before
StepsStopped asks before after Output = MayStep asks before after
StepsStopped asks before after Socket = after ≡ before
StepsStopped asks before after Folded = after ≡ before
StepsStopped asks before after NoMemory = MayStep asks before after

-- the same of how it ends
abbrev pub StepsEnded : {A : Type 0} → (Event → Type 0) → List Event → List Event → Result A Fault → Type 0
StepsEnded asks before after (Ok u) = after ≡ before
StepsEnded asks before after (Err fault) = StepsStopped asks before after fault

-- the serving so far
pub record Serving {T : Type 0} (ordered : ℕ → Event → Reply (List ℕ) → T → Type 0) (nodes number : ℕ) (before after : List Event) (read_old read_new written_old written_new : Option (List ℕ)) : Type 0 where
  -- newest first
  pub lines : List (Obeyed T)
  -- the number of the next line
  pub counted : suc (length lines) ≡ number
  pub obeyed : AreObeyed ordered nodes lines
  pub steps : after ≡ before ++ steps_of lines
  pub consumed : Consumes read_old read_new (orders_of lines)
  pub written : Appends written_old written_new (answers_of lines)

-- it ends without a fault at `close`, or once the lines are the whole input, and tells which; a fault for a line tells its number, and
-- the line is the next one of the input, and none of the operator's
abbrev pub ServingEnds : ℕ → ℕ → ℕ → Option (List ℕ) → List ℕ → List ℕ → Result LastLine Fault → Type 0
ServingEnds nodes count number read_old input rest (Ok Close) = rest ≡ close_line
ServingEnds nodes count number read_old input rest (Ok OfInput) = IfSome read_old (λ all. all ≡ input)
ServingEnds nodes count number read_old input rest (Err (NotAStep n)) = (n ≡ number) × IsNoOrder nodes count rest × IsNextLine read_old input rest
ServingEnds nodes count number read_old input rest (Err Input) = ⊤
ServingEnds nodes count number read_old input rest (Err Output) = ⊤
ServingEnds nodes count number read_old input rest (Err Socket) = ⊥
ServingEnds nodes count number read_old input rest (Err Folded) = ⊥
ServingEnds nodes count number read_old input rest (Err NoMemory) = ⊤

-- what was written; if the output failed, nobody knows
abbrev pub IsWritten : {A : Type 0} → Option (List ℕ) → Option (List ℕ) → List ℕ → Result A Fault → Type 0
IsWritten written_old written_new text (Ok u) = Appends written_old written_new text
IsWritten written_old written_new text (Err (NotAStep n)) = Appends written_old written_new text
IsWritten written_old written_new text (Err Input) = Appends written_old written_new text
IsWritten written_old written_new text (Err Output) = ⊤
IsWritten written_old written_new text (Err Socket) = ⊥
IsWritten written_old written_new text (Err Folded) = ⊥
IsWritten written_old written_new text (Err NoMemory) = Appends written_old written_new text

-- the whole of it, at a cluster of so many nodes, which lines may name up to another number
pub record ServedText {T : Type 0} (ordered : ℕ → Event → Reply (List ℕ) → T → Type 0) (nodes count : ℕ) (before after : List Event) (read_old read_new written_old written_new : Option (List ℕ)) (result : Result LastLine Fault) : Type 0 where
  -- newest first
  pub lines : List (Obeyed T)
  -- what was read of the line after them
  pub rest : List ℕ
  pub obeyed : AreObeyed ordered nodes lines
  -- what was stepped is what they spell, and perhaps what the line after them spells, whose answer nobody got
  pub steps : StepsEnded (IsSpelled nodes rest) (before ++ steps_of lines) after result
  pub consumed : Consumes read_old read_new (orders_of lines ++ rest)
  pub written : IsWritten written_old written_new (answers_of lines) result
  pub ends : ServingEnds nodes count (suc (length lines)) read_old (orders_of lines) rest result

-- the line of a report
abbrev pub report_line : Report → List ℕ
report_line r =
    with_line_feed (codes "report " ++ decimal r.totals.entries ++ codes " " ++ decimal r.totals.receipts ++ codes " " ++ decimal r.totals.disagreeing ++ codes " " ++ decimal r.totals.lost ++ codes " " ++ decimal r.totals.erase_failures)
