-- The texts of replies and of whole answers.
use Rattle.std.specs.Prelude.{ℕ, List, [], ◌∷◌, ◌++◌, codes, decimal}
use Rattle.hex.specs.Hex.{encode_lower}
use Rattle.obj_id.specs.declared.refusals.Refusal.{Refusal}
use Rattle.obj_id.specs.declared.commands.Kind.{Kind}
use Rattle.obj_id.specs.declared.commands.Kind.TheVariants.{Primary, Secondary}
use Rattle.obj_id.specs.declared.commands.CopyState.{CopyState}
use Rattle.obj_id.specs.declared.commands.CopyState.TheVariants.{Created, Sealed, Restoring, Fetching, Away}
use Rattle.obj_id.specs.declared.commands.OwnItem.{OwnItem}
use Rattle.obj_id.specs.declared.commands.GrantedItem.{GrantedItem}
use Rattle.obj_id.specs.declared.commands.Usage.{Usage}
use Rattle.obj_id.specs.declared.commands.Reply.{Reply}
use Rattle.obj_id.specs.declared.commands.Reply.TheVariants as reply
use Rattle.obj_id.specs.declared.works.Work.{Work}
use Rattle.obj_id.specs.declared.works.WorkKind.{WorkKind}
use Rattle.obj_id.specs.declared.works.WorkKind.TheVariants.{Write, Read}
use Rattle.obj_id.specs.Refusals.{number_of, name_of}
use Rattle.obj_id.specs.Texts.{id_text}
use Rattle.private_store.specs.declared.schedules.StepAnswer.{StepAnswer}
use Rattle.private_store.specs.declared.schedules.StepAnswer.TheVariants as answer
use Rattle.schedule_text.specs.declared.prefixes.Prefix.{Prefix}
use Rattle.schedule_text.specs.Prefixes.{prefix_text, speaker}

-- its number and its name
abbrev pub refusal_text : Refusal → List ℕ
refusal_text refusal = codes "refused " ++ decimal (number_of refusal) ++ codes " " ++ name_of refusal

-- two digits in lower case for each byte, `-` for no bytes
abbrev pub bytes_text : List ℕ → List ℕ
bytes_text [] = codes "-"
bytes_text (byte ∷ bytes) = encode_lower (byte ∷ bytes)

abbrev pub state_word : CopyState → List ℕ
state_word Created = codes "created"
state_word Sealed = codes "sealed"
state_word Restoring = codes "restoring"
state_word Fetching = codes "fetching"
state_word Away = codes "away"

abbrev pub kind_word : Kind → List ℕ
kind_word Primary = codes "primary"
kind_word Secondary = codes "secondary"

-- `ID:STATE:KIND:LEN`, for the job that speaks
abbrev pub own_item_text : ℕ → OwnItem → List ℕ
own_item_text job item = id_text job item.id ++ codes ":" ++ state_word item.state ++ codes ":" ++ kind_word item.kind ++ codes ":" ++ decimal item.length

-- `ID:granted:LEN:DEPTH`
abbrev pub granted_item_text : ℕ → GrantedItem → List ℕ
granted_item_text job item = id_text job item.id ++ codes ":granted:" ++ decimal item.length ++ codes ":" ++ decimal item.depth

-- each item after a space
abbrev pub own_items_text : ℕ → List OwnItem → List ℕ
own_items_text job [] = []
own_items_text job (item ∷ items) = codes " " ++ own_item_text job item ++ own_items_text job items

abbrev pub granted_items_text : ℕ → List GrantedItem → List ℕ
granted_items_text job [] = []
granted_items_text job (item ∷ items) = codes " " ++ granted_item_text job item ++ granted_items_text job items

-- six numbers
abbrev pub usage_text : Usage → List ℕ
usage_text usage =
    codes "usage " ++ decimal usage.window ++ codes " " ++ decimal usage.window_used ++ codes " " ++ decimal usage.device ++ codes " " ++ decimal usage.device_used
    ++ codes " " ++ decimal usage.copies ++ codes " " ++ decimal usage.works

abbrev pub work_word : WorkKind → List ℕ
work_word Write = codes "write"
work_word Read = codes "read"

-- `work JOB NUMBER write LEN`, or `read`
abbrev pub work_text : Work (List ℕ) → List ℕ
work_text work = codes "work " ++ decimal work.job.0 ++ codes " " ++ decimal work.number ++ codes " " ++ work_word work.kind ++ codes " " ++ decimal work.length

-- a reply to the job that speaks
abbrev pub reply_text : ℕ → Reply (List ℕ) → List ℕ
reply_text job reply.Ok = codes "ok"
reply_text job (reply.Placed offset extent) = codes "placed " ++ decimal offset ++ codes " " ++ decimal extent
reply_text job (reply.Got length) = codes "got " ++ decimal length
reply_text job (reply.Bytes bytes) = codes "bytes " ++ bytes_text bytes
reply_text job (reply.List own granted) = codes "list" ++ own_items_text job own ++ granted_items_text job granted
reply_text job (reply.Usage usage) = usage_text usage
reply_text job (reply.Work work) = work_text work
reply_text job reply.NoWork = codes "none"
reply_text job (reply.Refused refusal) = refusal_text refusal

-- the answer to a step: the reply, and of a delivery whether there was a message
abbrev pub answer_text : ℕ → StepAnswer → List ℕ
answer_text job (answer.Response reply) = reply_text job reply
answer_text job (answer.HandedOver message) = codes "ok"
answer_text job answer.NoMessage = codes "none"

-- the line of an answered step, with its line feed
abbrev pub line_text : Prefix → StepAnswer → List ℕ
line_text prefix answer = prefix_text prefix ++ codes " " ++ answer_text (speaker prefix) answer ++ codes "\n"
