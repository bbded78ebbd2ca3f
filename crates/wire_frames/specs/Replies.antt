-- What a program's replies are, of those that have a frame.
use Rattle.std.specs.Prelude.{ℕ, ◌<◌, ◌^◌, All, List, length}
use Rattle.obj_id.specs.Ids.{IsId}
use Rattle.obj_id.specs.declared.commands.OwnItem.{OwnItem}
use Rattle.obj_id.specs.declared.commands.GrantedItem.{GrantedItem}
use Rattle.obj_id.specs.declared.commands.Usage.{Usage}
use Rattle.obj_id.specs.declared.commands.Reply.{Reply}
use Rattle.obj_id.specs.declared.commands.Reply.TheVariants as reply

pub record IsOwnItemBytes (i : OwnItem) : Type 0 where
  pub id : IsId i.id
  pub length_fits : i.length < 2 ^ 32

-- the depth is one byte
pub record IsGrantedItemBytes (i : GrantedItem) : Type 0 where
  pub id : IsId i.id
  pub length_fits : i.length < 2 ^ 32
  pub depth_fits : i.depth < 256

pub record IsUsageBytes (u : Usage) : Type 0 where
  pub window : u.window < 2 ^ 64
  pub window_used : u.window_used < 2 ^ 64
  pub device : u.device < 2 ^ 64
  pub device_used : u.device_used < 2 ^ 64
  pub copies : u.copies < 2 ^ 64
  pub works : u.works < 2 ^ 64

pub record IsList (own : List OwnItem) (granted : List GrantedItem) : Type 0 where
  pub own_count : length own < 2 ^ 32
  pub granted_count : length granted < 2 ^ 32
  pub own_items : All IsOwnItemBytes own
  pub granted_items : All IsGrantedItemBytes granted

-- numbers of 32 and of 64 bits; nothing that a device worker is answered
abbrev pub IsReplyBytes : Reply (List ℕ) → Type 0
IsReplyBytes reply.Ok = Unit {0}
IsReplyBytes (reply.Placed offset n) = (offset < 2 ^ 32) × (n < 2 ^ 32)
IsReplyBytes (reply.Got n) = n < 2 ^ 32
IsReplyBytes (reply.Bytes bytes) = Unit {0}
IsReplyBytes (reply.List own granted) = IsList own granted
IsReplyBytes (reply.Usage u) = IsUsageBytes u
IsReplyBytes (reply.Work work) = ⊥
IsReplyBytes reply.NoWork = ⊥
IsReplyBytes (reply.Refused r) = Unit {0}
