-- What a body says, with the payload of a write.
use Rattle.std.specs.Prelude.{ℕ, ◌≤◌, List, length, drop, Option, Some, None}
use Rattle.obj_id.specs.declared.commands.Command.TheVariants as command
use Rattle.private_store.specs.declared.frames.Item.{Item}
use Rattle.private_store.specs.declared.frames.Item.TheVariants as item
use Rattle.wire_frames.specs.declared.bodies.FrameBody.{FrameBody}
use Rattle.wire_frames.specs.declared.bodies.FrameBody.TheVariants as said

-- the item; a write has what stands after the first 32 bytes of its body
abbrev pub filled_item : FrameBody → List ℕ → Item
filled_item (said.Item x) body = x
filled_item (said.Write id offset) body = item.Command (command.Write id offset (drop 32 body))

abbrev pub option_filled : Option FrameBody → List ℕ → Option Item
option_filled None body = None
option_filled (Some s) body = Some (filled_item s body)

-- a write's payload stands in the body
abbrev pub HasPayload : FrameBody → List ℕ → Type 0
HasPayload (said.Item x) body = Unit {0}
HasPayload (said.Write id offset) body = 32 ≤ length body
