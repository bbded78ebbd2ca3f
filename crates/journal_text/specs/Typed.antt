-- What the types of an entry's parts say of it: each number fits its field, and each id is one. And what they don't say of an entry
-- with a line.
use Rattle.std.specs.Prelude.{◌≡◌, ℕ, ◌<◌, ◌≤◌, List, All, true, ⊤}
use Rattle.obj_id.specs.Ids.{IsId}
use Rattle.obj_id.specs.declared.commands.GrantedItem.{GrantedItem}
use Rattle.obj_id.specs.declared.commands.OwnItem.{OwnItem}
use Rattle.obj_id.specs.declared.commands.Reply.{Reply}
use Rattle.obj_id.specs.declared.commands.Reply.TheVariants as reply
use Rattle.journal_text.specs.declared.entry.Entry.{Entry}
use Rattle.journal_text.specs.declared.entry.LineInput.{LineInput}
use Rattle.journal_text.specs.declared.entry.LineInput.TheVariants as input
use Rattle.journal_text.specs.Reading.{is_fitting}
use Rattle.journal_text.specs.Writable.{Fits32, Fits64, FitsInput, FitsLocation, FitsReply}

abbrev pub FitsOwn : OwnItem → Type 0
FitsOwn x = IsId x.id × Fits32 x.length

abbrev pub FitsGranted : GrantedItem → Type 0
FitsGranted x = IsId x.id × Fits32 x.length × Fits32 x.depth

-- a grantor and a depth may be 0 by their types
abbrev pub IsTypedInput : LineInput → Type 0
IsTypedInput (input.Located id number entries) = IsId id × Fits64 number × All FitsLocation entries
IsTypedInput (input.Received id n grantor depth) = IsId id × Fits32 n × Fits32 grantor.0 × Fits32 depth
IsTypedInput (input.Withdrawn id grantor depth) = IsId id × Fits32 grantor.0 × Fits32 depth
IsTypedInput x = FitsInput x

-- and an answer one to a Take
abbrev pub IsTypedReply : Reply ℕ → Type 0
IsTypedReply (reply.List own granted) = All FitsOwn own × All FitsGranted granted
IsTypedReply (reply.Work work) = ⊤
IsTypedReply reply.NoWork = ⊤
IsTypedReply x = FitsReply x

pub record IsTyped (x : Entry) : Type 0 where
  pub job : Fits32 x.address.job.0
  pub number : Fits32 x.address.number
  pub asked : IsTypedInput x.input
  pub answered : IsTypedReply x.reply

-- ---- what types don't say

-- a depth is at least 1; and so is a grantor, if the object's job is
abbrev pub IsProperInput : LineInput → Type 0
IsProperInput (input.Received id n grantor depth) = (1 ≤ id.job.0 → 1 ≤ grantor.0) × (1 ≤ depth)
IsProperInput (input.Withdrawn id grantor depth) = (1 ≤ id.job.0 → 1 ≤ grantor.0) × (1 ≤ depth)
IsProperInput _ = ⊤

-- an answer isn't one to a Take
abbrev pub IsProperReply : Reply ℕ → Type 0
IsProperReply (reply.List own granted) = All (λ x. 1 ≤ x.depth) granted
IsProperReply (reply.Work work) = ⊥
IsProperReply reply.NoWork = ⊥
IsProperReply _ = ⊤

pub record IsProper (x : Entry) : Type 0 where
  pub node : x.address.node < 8
  pub job : 1 ≤ x.address.job.0
  pub asked : IsProperInput x.input
  pub answered : IsProperReply x.reply
  pub fitting : is_fitting x.input x.reply ≡ true
