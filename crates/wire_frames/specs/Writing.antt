-- What has a frame.
use Rattle.std.specs.Prelude.{ℕ, Bool, true, false, ◌&&◌, nat_lt, nat_le, List, length, Option, Some, None}
use Rattle.std.specs.List.{list_all}
use Rattle.obj_id.specs.declared.commands.Reply.{Reply}
use Rattle.obj_id.specs.declared.commands.Reply.TheVariants as reply
use Rattle.private_store.specs.declared.frames.Item.{Item}
use Rattle.private_store.specs.rules.Frames.{is_command_length, item_body, reply_body}

abbrev pub is_some_of_length : (ℕ → Bool) → Option (List ℕ) → Bool
is_some_of_length fits (Some body) = fits (length body)
is_some_of_length fits None = false

-- an item that isn't BadId, and no more bytes than a command's frame holds
abbrev pub has_command_frame : Item → Bool
has_command_frame x = is_some_of_length is_command_length (item_body x)

abbrev pub is_reply_length : ℕ → Bool
is_reply_length n = nat_le 1 n && nat_le n 262144

-- a depth is one byte
abbrev pub has_byte_depths : Reply (List ℕ) → Bool
has_byte_depths (reply.List own granted) = list_all (λ i. nat_lt i.depth 256) granted
has_byte_depths _ = true

-- a reply that isn't a device worker's, and no more bytes than a reply's frame holds
abbrev pub has_reply_frame : Reply (List ℕ) → Bool
has_reply_frame r = is_some_of_length is_reply_length (reply_body r) && has_byte_depths r
