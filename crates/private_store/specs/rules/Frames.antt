-- The frames of a session: what a stream of bytes says, and the bytes of a reply.
use Rattle.std.specs.Prelude.{ℕ, zero, suc, ◌+◌, ◌-◌, ◌==◌, nat_lt, nat_le, Bool, true, false, not, ◌&&◌, if◌then◌else◌, List, [], ◌∷◌, ◌++◌, length, take, drop, slice_index, flat_map, Option, Some, None, unwrap_or, option_map, option_and_then}
use Rattle.std.specs.Ordering.{nat_cmp}
use Rattle.std.specs.FinMap.{find}
use Rattle.std.specs.Int.{w32, w64, to_be_bytes, from_be_bytes}
use Rattle.obj_id.specs.declared.ids.TaskNo.{TaskNo}
use Rattle.obj_id.specs.declared.ids.ObjectId.{ObjectId}
use Rattle.obj_id.specs.declared.commands.Kind.{Kind}
use Rattle.obj_id.specs.declared.commands.Kind.TheVariants.{Primary, Secondary}
use Rattle.obj_id.specs.declared.commands.CopyState.{CopyState}
use Rattle.obj_id.specs.declared.commands.CopyState.TheVariants.{Created, Sealed, Restoring, Fetching, Away}
use Rattle.obj_id.specs.declared.commands.OwnItem.{OwnItem}
use Rattle.obj_id.specs.declared.commands.GrantedItem.{GrantedItem}
use Rattle.obj_id.specs.declared.commands.Command.{Command}
use Rattle.obj_id.specs.declared.commands.Command.TheVariants as command
use Rattle.obj_id.specs.declared.commands.Reply.{Reply}
use Rattle.obj_id.specs.declared.commands.Reply.TheVariants as reply
use Rattle.obj_id.specs.Ids.{id_bytes}
use Rattle.obj_id.specs.Refusals.{number_of}
use Rattle.private_store.specs.declared.frames.Awaited.{Awaited}
use Rattle.private_store.specs.declared.frames.Awaited.TheVariants as awaited
use Rattle.private_store.specs.declared.frames.Item.{Item}
use Rattle.private_store.specs.declared.frames.Item.TheVariants as item

abbrev pub be4 : ℕ → List ℕ
be4 n = to_be_bytes w32 n

abbrev pub be8 : ℕ → List ℕ
be8 n = to_be_bytes w64 n

abbrev pub frame : List ℕ → List ℕ
frame body = be4 (length body) ++ body

-- ---- a command's frame, as it is read

abbrev pub number_at : List ℕ → ℕ → ℕ
number_at body i = from_be_bytes w32 (take 4 (drop i body))

abbrev pub task_at : List ℕ → ℕ → TaskNo
task_at body i = record { 0 = take 20 (drop i body) }

abbrev pub id_at : List ℕ → ObjectId
id_at body = record { task = task_at body 0; job = record { 0 = number_at body 20 }; index = number_at body 24 }

abbrev pub is_id : ObjectId → Bool
is_id id = not (id.job.0 == 0) && not (id.index == 0)

abbrev pub kind_of : ℕ → Kind
kind_of zero = Primary
kind_of (suc _) = Secondary

abbrev pub of_length : List ℕ → ℕ → Item → Option Item
of_length body n x = if length body == n then Some x else None

-- the item, unless its id can't be
abbrev pub with_id : List ℕ → Item → Item
with_id body x = if is_id (id_at body) then x else item.BadId

abbrev pub id_item : List ℕ → ℕ → Command (List ℕ) → Option Item
id_item body n c = of_length body n (with_id body (item.Command c))

abbrev pub is_create : List ℕ → Bool
is_create body = nat_le (slice_index body 28) 1

-- how a body is read
abbrev pub Read : Type 0
Read = List ℕ → Option Item

abbrev pub hello : Read
hello body = of_length body 36 (item.Hello (record { 0 = number_at body 0 }) (record { 0 = drop 4 body }))

abbrev pub create : (ObjectId → Kind → ℕ → Item) → Read
create make body =
    if is_create body
    then of_length body 33 (with_id body (make (id_at body) (kind_of (slice_index body 28)) (number_at body 29)))
    else None

abbrev pub write : Read
write body =
    if nat_le 32 (length body) then Some (with_id body (item.Command (command.Write (id_at body) (number_at body 28) (drop 32 body)))) else None

abbrev pub of_id : (ObjectId → Command (List ℕ)) → Read
of_id make body = id_item body 28 (make (id_at body))

abbrev pub of_task : (ObjectId → TaskNo → Command (List ℕ)) → Read
of_task make body = id_item body 48 (make (id_at body) (task_at body 28))

abbrev pub of_job : (ObjectId → ℕ → Command (List ℕ)) → Read
of_job make body = id_item body 32 (make (id_at body) (number_at body 28))

abbrev pub of_range : (ObjectId → ℕ → ℕ → Command (List ℕ)) → Read
of_range make body = id_item body 36 (make (id_at body) (number_at body 28) (number_at body 32))

abbrev pub empty_body : Command (List ℕ) → Read
empty_body c body = of_length body 0 (item.Command c)

-- the table of kinds
abbrev pub kinds : List (ℕ × Read)
kinds =
    (0x01, hello)
    ∷ (0x02, create (λ id kind n. item.Command (command.Create id kind n)))
    ∷ (0x03, write)
    ∷ (0x04, of_id command.Seal)
    ∷ (0x05, of_id command.Get)
    ∷ (0x06, of_range command.Read)
    ∷ (0x07, of_id command.Release)
    ∷ (0x08, of_task command.Unpin)
    ∷ (0x09, of_task command.Borrow)
    ∷ (0x0a, of_task command.GiveUp)
    ∷ (0x0b, of_id command.Delete)
    ∷ (0x0c, λ body. of_length body 20 (item.Command (command.EndTask (task_at body 0))))
    ∷ (0x0d, of_job (λ id job. command.Grant id (record { 0 = job })))
    ∷ (0x0e, of_job (λ id job. command.Withdraw id (record { 0 = job })))
    ∷ (0x0f, of_range command.Peek)
    ∷ (0x10, empty_body command.List)
    ∷ (0x11, empty_body command.Usage)
    ∷ (0x12, empty_body command.Leave)
    ∷ (0x13, λ body. of_length body 28 (with_id body (item.Wait (awaited.Get (id_at body)))))
    ∷ (0x14, create (λ id kind n. item.Wait (awaited.Create id kind n)))
    ∷ []

-- what a frame's kind and body say, or nothing
abbrev pub item_of : ℕ → Read
item_of kind body = option_and_then (λ read. read body) (find nat_cmp kind kinds)

-- ---- a stream

pub data End : Type 0 where
  clean mid_frame malformed : End

pub record Stream : Type 0 where
  pub items : List Item
  pub rest : List ℕ
  pub end : End

abbrev pub stopped : List ℕ → End → Stream
stopped rest end = record { items = []; rest = rest; end = end }

abbrev pub after_item : Item → Stream → Stream
after_item x stream = record stream { items = x ∷ stream.items }

abbrev pub is_command_length : ℕ → Bool
is_command_length n = nat_le 1 n && nat_le n 65600

-- the whole frames at the head of the bytes, at most so many, and what is left
abbrev pub frames_of : ℕ → List ℕ → Stream
frames_of zero bytes = stopped bytes mid_frame
frames_of (suc n) [] = stopped [] clean
frames_of (suc n) (b ∷ bs) =
    let bytes = b ∷ bs in
    let size = number_at bytes 0 in
    elim (nat_lt (length bytes) 4) [
      | true ↦ stopped bytes mid_frame
      | false ↦ elim (is_command_length size) [
        | false ↦ stopped bytes malformed
        | true ↦ elim (nat_lt (length bytes) (4 + size)) [
          | true ↦ stopped bytes mid_frame
          | false ↦ elim (item_of (slice_index bytes 4) (take (size - 1) (drop 5 bytes))) [
            | None ↦ stopped bytes malformed
            | Some x ↦ after_item x (frames_of n (drop (4 + size) bytes))
          ]
        ]
      ]
    ]

-- the frames of a stream
abbrev pub stream_of : List ℕ → Stream
stream_of bytes = frames_of (suc (length bytes)) bytes

-- ---- a command's frame, as it is written

abbrev pub kind_byte : Kind → ℕ
kind_byte Primary = 0
kind_byte Secondary = 1

abbrev pub create_body : ObjectId → Kind → ℕ → List ℕ
create_body id kind n = id_bytes id ++ kind_byte kind ∷ be4 n

abbrev pub range_body : ObjectId → ℕ → ℕ → List ℕ
range_body id offset n = id_bytes id ++ be4 offset ++ be4 n

abbrev pub command_body : Command (List ℕ) → List ℕ
command_body (command.Create id kind n) = 0x02 ∷ create_body id kind n
command_body (command.Write id offset bytes) = 0x03 ∷ id_bytes id ++ be4 offset ++ bytes
command_body (command.Seal id) = 0x04 ∷ id_bytes id
command_body (command.Get id) = 0x05 ∷ id_bytes id
command_body (command.Read id offset n) = 0x06 ∷ range_body id offset n
command_body (command.Release id) = 0x07 ∷ id_bytes id
command_body (command.Unpin id task) = 0x08 ∷ id_bytes id ++ task.0
command_body (command.Borrow id task) = 0x09 ∷ id_bytes id ++ task.0
command_body (command.GiveUp id task) = 0x0a ∷ id_bytes id ++ task.0
command_body (command.Delete id) = 0x0b ∷ id_bytes id
command_body (command.EndTask task) = 0x0c ∷ task.0
command_body (command.Grant id target) = 0x0d ∷ id_bytes id ++ be4 target.0
command_body (command.Withdraw id target) = 0x0e ∷ id_bytes id ++ be4 target.0
command_body (command.Peek id offset n) = 0x0f ∷ range_body id offset n
command_body command.List = 0x10 ∷ []
command_body command.Usage = 0x11 ∷ []
command_body command.Leave = 0x12 ∷ []

-- the command that is tried again while its answer is Pending
abbrev pub tried : Awaited → Command (List ℕ)
tried (awaited.Get id) = command.Get id
tried (awaited.Create id kind n) = command.Create id kind n

abbrev pub awaited_body : Awaited → List ℕ
awaited_body (awaited.Get id) = 0x13 ∷ id_bytes id
awaited_body (awaited.Create id kind n) = 0x14 ∷ create_body id kind n

-- the kind and body of an item's frame; an id that can't be has none
abbrev pub item_body : Item → Option (List ℕ)
item_body (item.Hello job key) = Some (0x01 ∷ be4 job.0 ++ key.0)
item_body (item.Command c) = Some (command_body c)
item_body (item.Wait c) = Some (awaited_body c)
item_body item.BadId = None

abbrev pub item_frame : Item → List ℕ
item_frame x = unwrap_or (option_map frame (item_body x)) []

-- ---- a reply's frame

abbrev pub state_byte : CopyState → ℕ
state_byte Created = 0
state_byte Sealed = 1
state_byte Restoring = 2
state_byte Fetching = 3
state_byte Away = 4

abbrev pub own_bytes : OwnItem → List ℕ
own_bytes i = id_bytes i.id ++ state_byte i.state ∷ kind_byte i.kind ∷ be4 i.length

abbrev pub granted_bytes : GrantedItem → List ℕ
granted_bytes i = id_bytes i.id ++ be4 i.length ++ i.depth ∷ []

-- the body of a reply's frame, if it has one
abbrev pub reply_body : Reply (List ℕ) → Option (List ℕ)
reply_body reply.Ok = Some (0x80 ∷ [])
reply_body (reply.Placed offset n) = Some (0x81 ∷ be4 offset ++ be4 n)
reply_body (reply.Got n) = Some (0x82 ∷ be4 n)
reply_body (reply.Bytes bytes) = Some (0x83 ∷ bytes)
reply_body (reply.List own granted) = Some (0x84 ∷ be4 (length own) ++ flat_map own_bytes own ++ be4 (length granted) ++ flat_map granted_bytes granted)
reply_body (reply.Usage u) = Some (0x85 ∷ be8 u.window ++ be8 u.window_used ++ be8 u.device ++ be8 u.device_used ++ be8 u.copies ++ be8 u.works)
reply_body (reply.Work work) = None
reply_body reply.NoWork = None
reply_body (reply.Refused r) = Some (0x8f ∷ number_of r ∷ [])

abbrev pub reply_frame : Reply (List ℕ) → List ℕ
reply_frame r = unwrap_or (option_map frame (reply_body r)) []

-- the frames of the replies, in order
abbrev pub replies_bytes : List (Reply (List ℕ)) → List ℕ
replies_bytes replies = flat_map reply_frame replies
