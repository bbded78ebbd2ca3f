-- A frame in digits, and what it says.
use Rattle.std.specs.Prelude.{◌≡◌, ℕ, List, [], ◌∷◌, ◌++◌, ◌⊎◌, codes, Ok}
use Rattle.hex.specs.Hex.{encode_lower}
use Rattle.obj_id.specs.declared.ids.JobNo.{JobNo}
use Rattle.obj_id.specs.declared.works.JobKey.{JobKey}
use Rattle.obj_id.specs.declared.commands.Command.{Command}
use Rattle.obj_id.specs.declared.commands.Command.TheVariants as command
use Rattle.obj_id.specs.declared.commands.Reply.{Reply}
use Rattle.private_store.specs.declared.schedules.Event.TheVariants as event
use Rattle.private_store.specs.declared.schedules.Step.TheVariants as «step»
use Rattle.private_store.specs.declared.frames.Item.{Item}
use Rattle.private_store.specs.declared.frames.Item.TheVariants as item
use Rattle.private_store.specs.rules.Frames.{item_frame, reply_frame, tried}
use Rattle.schedule_text.specs.declared.line.Line.{Line}
use Rattle.schedule_text.specs.declared.line.Line.TheVariants as line
use Rattle.schedule_text.specs.Fields.{IsJob, fields_of}
use Rattle.schedule_text.specs.Printing.{reply_text}
use Rattle.schedule_text.specs.Reading.{IsLine}
use Rattle.wire_frames.specs.Reading.{fed, unfinished}

-- the job that speaks
abbrev pub vector_speaker : JobNo
vector_speaker = record { 0 = 1 }

-- this command of its session 1, at node 0
abbrev pub line_calling : Command (List ℕ) → Line
line_calling c = line.Step («step».At 0 (event.Call vector_speaker 1 c))

-- `cmd 0 1 1 TEXT` is a schedule's line of this command
pub record VectorCalls (text : List ℕ) (c : Command (List ℕ)) : Type 0 where
  pub spelled : IsLine 1 (codes "cmd 0 1 1 " ++ text) (line_calling c)

-- `JOB KEY`, each in its field
abbrev pub IsJobAndKey : List ℕ → List ℕ → JobNo × JobKey → Type 0
IsJobAndKey number digits x = IsJob number x.0 × (encode_lower x.1.0 ≡ digits)

-- `hello JOB KEY`, by its fields
abbrev pub IsHello : List (List ℕ) → JobNo × JobKey → Type 0
IsHello (word ∷ number ∷ digits ∷ []) x = (word ≡ codes "hello") × IsJobAndKey number digits x
IsHello _ x = ⊥

-- the text of that command, with `wait` after its word
pub record IsAwaitedVector (text : List ℕ) (c : Command (List ℕ)) : Type 0 where
  pub word : List ℕ
  pub rest : List ℕ
  pub waits : text ≡ word ++ codes "wait " ++ rest
  pub calling : VectorCalls (word ++ codes " " ++ rest) c

-- what a session of job 1 says by a text
abbrev pub VectorSays : List ℕ → Item → Type 0
VectorSays text (item.Hello job key) = IsHello (fields_of text) (job, key)
VectorSays text (item.Command c) = VectorCalls text c
VectorSays text (item.Wait a) = IsAwaitedVector text (tried a)
VectorSays text item.BadId = ⊥

-- there is one item, and the bytes are its frame
abbrev pub IsFrameAlone : List Item → List ℕ → Type 0
IsFrameAlone (x ∷ []) frame = item_frame x ≡ frame
IsFrameAlone _ frame = ⊥

-- what comes from the bytes is one item, and they are its frame
pub record IsReadBack (frame : List ℕ) : Type 0 where
  pub items : List Item
  pub given : (fed (unfinished []) frame).answer ≡ Ok items
  pub alone : IsFrameAlone items frame

-- the digits are those of the item's frame, and it is read as that: an item has one frame alone
pub record IsFrameOf (digits : List ℕ) (item : Item) : Type 0 where
  pub digits_are : encode_lower (item_frame item) ≡ digits
  pub back : IsReadBack (item_frame item)

-- the same, of what the text says
pub record IsCommandFrame (digits text : List ℕ) : Type 0 where
  pub item : Item
  pub said : VectorSays text item
  pub framed : IsFrameOf digits item

-- the digits are those of the frame of the reply that is printed so for job 1
pub record IsReplyFrame (digits text : List ℕ) : Type 0 where
  pub reply : Reply (List ℕ)
  pub text_is : reply_text 1 reply ≡ text
  pub digits_are : encode_lower (reply_frame reply) ≡ digits

-- `DIGITS TEXT`
pub record IsFrameLine (text : List ℕ) : Type 0 where
  pub digits : List ℕ
  pub said : List ℕ
  pub whole : text ≡ digits ++ codes " " ++ said
  pub agrees : IsCommandFrame digits said ⊎ IsReplyFrame digits said
