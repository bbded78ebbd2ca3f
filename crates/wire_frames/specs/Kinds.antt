-- The kinds of frames that a session sends: their bytes, and the forms of their bodies.
use Rattle.std.specs.Prelude.{ℕ, Bool, false, ◌==◌, ◌&&◌, nat_le, if◌then◌else◌, List, length, slice_index, drop, Some, None}
use Rattle.obj_id.specs.declared.ids.ObjectId.{ObjectId}
use Rattle.obj_id.specs.declared.commands.Command.TheVariants as command
use Rattle.private_store.specs.declared.frames.Awaited.TheVariants as awaited
use Rattle.private_store.specs.declared.frames.Item.{Item}
use Rattle.private_store.specs.declared.frames.Item.TheVariants as item
use Rattle.private_store.specs.rules.Frames.{Read, empty_body, hello, id_at, is_create, kind_of, number_at, of_length, task_at, with_id}
use Rattle.command_kinds.specs.declared.command_kind.CommandKind.{CommandKind}
use Rattle.command_kinds.specs.declared.command_kind.CommandKind.TheVariants as kinds
use Rattle.wire_frames.specs.declared.kinds.FrameKind.{FrameKind}
use Rattle.wire_frames.specs.declared.kinds.FrameKind.TheVariants as frame

abbrev pub command_byte : CommandKind → ℕ
command_byte kinds.Create = 0x02
command_byte kinds.Write = 0x03
command_byte kinds.Seal = 0x04
command_byte kinds.Get = 0x05
command_byte kinds.Read = 0x06
command_byte kinds.Release = 0x07
command_byte kinds.Unpin = 0x08
command_byte kinds.Borrow = 0x09
command_byte kinds.GiveUp = 0x0a
command_byte kinds.Delete = 0x0b
command_byte kinds.EndTask = 0x0c
command_byte kinds.Grant = 0x0d
command_byte kinds.Withdraw = 0x0e
command_byte kinds.Peek = 0x0f
command_byte kinds.List = 0x10
command_byte kinds.Usage = 0x11
command_byte kinds.Leave = 0x12
command_byte kinds.GetWait = 0x13
command_byte kinds.CreateWait = 0x14

abbrev pub byte_of : FrameKind → ℕ
byte_of frame.Hello = 0x01
byte_of (frame.Of kind) = command_byte kind

-- whether a body begins with an object's id, and has the form of its kind
abbrev pub fits_kind : CommandKind → List ℕ → Bool
fits_kind kinds.Create body = is_create body && (length body == 33)
fits_kind kinds.Write body = nat_le 32 (length body)
fits_kind kinds.Seal body = length body == 28
fits_kind kinds.Get body = length body == 28
fits_kind kinds.Read body = length body == 36
fits_kind kinds.Release body = length body == 28
fits_kind kinds.Unpin body = length body == 48
fits_kind kinds.Borrow body = length body == 48
fits_kind kinds.GiveUp body = length body == 48
fits_kind kinds.Delete body = length body == 28
fits_kind kinds.EndTask body = false
fits_kind kinds.Grant body = length body == 32
fits_kind kinds.Withdraw body = length body == 32
fits_kind kinds.Peek body = length body == 36
fits_kind kinds.List body = false
fits_kind kinds.Usage body = false
fits_kind kinds.Leave body = false
fits_kind kinds.GetWait body = length body == 28
fits_kind kinds.CreateWait body = is_create body && (length body == 33)

-- what is said of an object, of the kinds that name one
abbrev pub said : CommandKind → ObjectId → List ℕ → Item
said kinds.Create id body = item.Command (command.Create id (kind_of (slice_index body 28)) (number_at body 29))
said kinds.Write id body = item.Command (command.Write id (number_at body 28) (drop 32 body))
said kinds.Seal id body = item.Command (command.Seal id)
said kinds.Get id body = item.Command (command.Get id)
said kinds.Read id body = item.Command (command.Read id (number_at body 28) (number_at body 32))
said kinds.Release id body = item.Command (command.Release id)
said kinds.Unpin id body = item.Command (command.Unpin id (task_at body 28))
said kinds.Borrow id body = item.Command (command.Borrow id (task_at body 28))
said kinds.GiveUp id body = item.Command (command.GiveUp id (task_at body 28))
said kinds.Delete id body = item.Command (command.Delete id)
said kinds.EndTask id body = item.BadId
said kinds.Grant id body = item.Command (command.Grant id (record { 0 = number_at body 28 }))
said kinds.Withdraw id body = item.Command (command.Withdraw id (record { 0 = number_at body 28 }))
said kinds.Peek id body = item.Command (command.Peek id (number_at body 28) (number_at body 32))
said kinds.List id body = item.BadId
said kinds.Usage id body = item.BadId
said kinds.Leave id body = item.BadId
said kinds.GetWait id body = item.Wait (awaited.Get id)
said kinds.CreateWait id body = item.Wait (awaited.Create id (kind_of (slice_index body 28)) (number_at body 29))

abbrev pub read_about : CommandKind → Read
read_about kind body = if fits_kind kind body then Some (with_id body (said kind (id_at body) body)) else None

abbrev pub end_task_item : Read
end_task_item body = of_length body 20 (item.Command (command.EndTask (task_at body 0)))

-- how a body of this kind of command is read
abbrev pub read_command : CommandKind → Read
read_command kinds.EndTask = end_task_item
read_command kinds.List = empty_body command.List
read_command kinds.Usage = empty_body command.Usage
read_command kinds.Leave = empty_body command.Leave
read_command kind = read_about kind

-- how a body of this kind is read
abbrev pub read_of : FrameKind → Read
read_of frame.Hello = hello
read_of (frame.Of kind) = read_command kind
