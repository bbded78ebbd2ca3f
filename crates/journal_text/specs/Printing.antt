-- The line of an entry, field by field.
use Rattle.std.specs.Prelude.{ℕ, List, [], ◌∷◌, ◌++◌, codes, decimal, map}
use Rattle.hex.specs.Hex.{encode_lower}
use Rattle.obj_id.specs.Texts.{id_text, task_text}
use Rattle.obj_id.specs.declared.messages.Location.{Location}
use Rattle.obj_id.specs.declared.commands.Kind.{Kind}
use Rattle.obj_id.specs.declared.commands.Kind.TheVariants.{Primary, Secondary}
use Rattle.obj_id.specs.declared.commands.Command.{Command}
use Rattle.obj_id.specs.declared.commands.Command.TheVariants as command
use Rattle.obj_id.specs.declared.commands.GrantedItem.{GrantedItem}
use Rattle.obj_id.specs.declared.commands.Reply.{Reply}
use Rattle.obj_id.specs.declared.commands.Reply.TheVariants as reply
use Rattle.schedule_text.specs.Printing.{granted_items_text, own_items_text, refusal_text, usage_text}
use Rattle.journal_text.specs.declared.entry.Address.{Address}
use Rattle.journal_text.specs.declared.entry.Entry.{Entry}
use Rattle.journal_text.specs.declared.entry.LineInput.{LineInput}
use Rattle.journal_text.specs.declared.entry.LineInput.TheVariants as input
use Rattle.journal_text.specs.declared.entry.Version.{Version}
use Rattle.journal_text.specs.declared.entry.Version.TheVariants.{One, Two, Three}
use Rattle.journal_text.specs.Words.{chunk_verdict_text, match_text, work_verdict_text}

-- each field after a space
abbrev pub spaced_text : List (List ℕ) → List ℕ
spaced_text [] = []
spaced_text (field ∷ fields) = codes " " ++ field ++ spaced_text fields

-- `#N`
abbrev pub count_field : ℕ → List ℕ
count_field count = codes "#" ++ decimal count

-- what a new copy begins with
abbrev pub create_word : Kind → List ℕ
create_word Primary = codes "create"
create_word Secondary = codes "copy"

-- a command, where the job speaks
abbrev pub command_fields : ℕ → Command ℕ → List (List ℕ)
command_fields job (command.Create id kind length) = create_word kind ∷ id_text job id ∷ decimal length ∷ []
command_fields job (command.Write id offset count) = codes "write" ∷ id_text job id ∷ decimal offset ∷ count_field count ∷ []
command_fields job (command.Seal id) = codes "seal" ∷ id_text job id ∷ []
command_fields job (command.Get id) = codes "get" ∷ id_text job id ∷ []
command_fields job (command.Read id offset count) = codes "read" ∷ id_text job id ∷ decimal offset ∷ decimal count ∷ []
command_fields job (command.Release id) = codes "release" ∷ id_text job id ∷ []
command_fields job (command.Unpin id task) = codes "unpin" ∷ id_text job id ∷ task_text task ∷ []
command_fields job (command.Borrow id task) = codes "borrow" ∷ id_text job id ∷ task_text task ∷ []
command_fields job (command.GiveUp id task) = codes "giveup" ∷ id_text job id ∷ task_text task ∷ []
command_fields job (command.Delete id) = codes "delete" ∷ id_text job id ∷ []
command_fields job (command.EndTask task) = codes "endtask" ∷ task_text task ∷ []
command_fields job (command.Grant id target) = codes "grant" ∷ id_text job id ∷ decimal target.0 ∷ []
command_fields job (command.Withdraw id target) = codes "withdraw" ∷ id_text job id ∷ decimal target.0 ∷ []
command_fields job (command.Peek id offset count) = codes "peek" ∷ id_text job id ∷ decimal offset ∷ decimal count ∷ []
command_fields job command.List = codes "list" ∷ []
command_fields job command.Usage = codes "usage" ∷ []
command_fields job command.Leave = codes "leave" ∷ []

-- `NODE:LEN:DIGEST`
abbrev pub location_field : Location → List ℕ
location_field x = decimal x.node ++ codes ":" ++ decimal x.length ++ codes ":" ++ encode_lower x.digest.0

-- an input
abbrev pub input_fields : ℕ → LineInput → List (List ℕ)
input_fields job (input.Begin quota) = codes "begin" ∷ decimal quota.window ∷ decimal quota.device ∷ []
input_fields job (input.Requota quota) = codes "quota" ∷ decimal quota.window ∷ decimal quota.device ∷ []
input_fields job input.End = codes "end" ∷ []
input_fields job (input.Call session command) = (codes "s" ++ decimal session) ∷ command_fields job command
input_fields job (input.Answer number verdict) = codes "answer" ∷ decimal number ∷ work_verdict_text verdict ∷ []
input_fields job (input.Located id number entries) = codes "located" ∷ id_text job id ∷ decimal number ∷ map location_field entries
input_fields job (input.Chunk id number index from verdict) = codes "chunk" ∷ id_text job id ∷ decimal number ∷ decimal index ∷ decimal from ∷ chunk_verdict_text verdict ∷ []
input_fields job (input.Pull id number matched) = codes "pull" ∷ id_text job id ∷ decimal number ∷ match_text matched ∷ []
input_fields job (input.NotHere id number from) = codes "nothere" ∷ id_text job id ∷ decimal number ∷ decimal from ∷ []
input_fields job (input.Received id length grantor depth) = codes "received" ∷ id_text job id ∷ decimal length ∷ decimal grantor.0 ∷ decimal depth ∷ []
input_fields job (input.Withdrawn id grantor depth) = codes "withdrawn" ∷ id_text job id ∷ decimal grantor.0 ∷ decimal depth ∷ []

-- an answer as in a schedule, but bytes as their number; of the answers to a Take, which has no line, the word alone
abbrev pub reply_text_without_payload : ℕ → Reply ℕ → List ℕ
reply_text_without_payload job reply.Ok = codes "ok"
reply_text_without_payload job (reply.Placed offset extent) = codes "placed " ++ decimal offset ++ codes " " ++ decimal extent
reply_text_without_payload job (reply.Got length) = codes "got " ++ decimal length
reply_text_without_payload job (reply.Bytes count) = codes "bytes " ++ count_field count
reply_text_without_payload job (reply.List own granted) = codes "list" ++ own_items_text job own ++ granted_items_text job granted
reply_text_without_payload job (reply.Usage usage) = usage_text usage
reply_text_without_payload job (reply.Work work) = codes "work"
reply_text_without_payload job reply.NoWork = codes "none"
reply_text_without_payload job (reply.Refused refusal) = refusal_text refusal

-- `ID:granted:LEN`
abbrev pub first_grant_text : ℕ → GrantedItem → List ℕ
first_grant_text job item = id_text job item.id ++ codes ":granted:" ++ decimal item.length

-- each after a space
abbrev pub first_grants_text : ℕ → List GrantedItem → List ℕ
first_grants_text job [] = []
first_grants_text job (item ∷ items) = codes " " ++ first_grant_text job item ++ first_grants_text job items

-- an answer in version 1, which doesn't tell the depths of granted items
abbrev pub first_answer_text : ℕ → Reply ℕ → List ℕ
first_answer_text job (reply.List own granted) = codes "list" ++ own_items_text job own ++ first_grants_text job granted
first_answer_text job r = reply_text_without_payload job r

-- an answer in a journal of this form
abbrev pub journal_answer_text : Version → ℕ → Reply ℕ → List ℕ
journal_answer_text One job r = first_answer_text job r
journal_answer_text Two job r = reply_text_without_payload job r
journal_answer_text Three job r = reply_text_without_payload job r

-- `nNODE jJOB K`
abbrev pub address_text : Address → List ℕ
address_text x = codes "n" ++ decimal x.node ++ codes " j" ++ decimal x.job.0 ++ codes " " ++ decimal x.number

-- the line, without its line feed
abbrev pub entry_text : Entry → List ℕ
entry_text x = address_text x.address ++ spaced_text (input_fields x.address.job.0 x.input) ++ codes " = " ++ reply_text_without_payload x.address.job.0 x.reply
