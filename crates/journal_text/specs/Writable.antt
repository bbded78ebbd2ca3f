-- The entries whose written lines are read back: each number fits its field, each id is one, and the answer is one to the input.
use Rattle.std.specs.Prelude.{◌≡◌, ℕ, ◌^◌, ◌<◌, ◌≤◌, List, [], ◌∷◌, true, ⊤}
use Rattle.obj_id.specs.Ids.{IsId, IsTask}
use Rattle.obj_id.specs.declared.commands.Command.{Command}
use Rattle.obj_id.specs.declared.commands.Command.TheVariants as command
use Rattle.obj_id.specs.declared.commands.GrantedItem.{GrantedItem}
use Rattle.obj_id.specs.declared.commands.OwnItem.{OwnItem}
use Rattle.obj_id.specs.declared.commands.Reply.{Reply}
use Rattle.obj_id.specs.declared.commands.Reply.TheVariants as reply
use Rattle.obj_id.specs.declared.commands.Usage.{Usage}
use Rattle.obj_id.specs.declared.messages.Location.{Location}
use Rattle.obj_id.specs.declared.works.Quota.{Quota}
use Rattle.journal_text.specs.declared.entry.Address.{Address}
use Rattle.journal_text.specs.declared.entry.Entry.{Entry}
use Rattle.journal_text.specs.declared.entry.LineInput.{LineInput}
use Rattle.journal_text.specs.declared.entry.LineInput.TheVariants as input
use Rattle.journal_text.specs.Locations.{IsDigest}
use Rattle.journal_text.specs.Reading.{is_fitting}

-- numbers of 32 and of 64 bits
abbrev pub Fits32 : ℕ → Type 0
Fits32 n = n < 2 ^ 32

abbrev pub Fits64 : ℕ → Type 0
Fits64 n = n < 2 ^ 64

-- one of 32 bits that is at least 1
abbrev pub FitsPositive : ℕ → Type 0
FitsPositive n = (1 ≤ n) × (n < 2 ^ 32)

abbrev pub FitsAddress : Address → Type 0
FitsAddress x = (x.node < 8) × FitsPositive x.job.0 × Fits32 x.number

abbrev pub FitsCommand : Command ℕ → Type 0
FitsCommand (command.Create id kind n) = IsId id × Fits32 n
FitsCommand (command.Write id offset count) = IsId id × Fits32 offset × Fits64 count
FitsCommand (command.Seal id) = IsId id
FitsCommand (command.Get id) = IsId id
FitsCommand (command.Read id offset count) = IsId id × Fits32 offset × Fits32 count
FitsCommand (command.Release id) = IsId id
FitsCommand (command.Unpin id task) = IsId id × IsTask task
FitsCommand (command.Borrow id task) = IsId id × IsTask task
FitsCommand (command.GiveUp id task) = IsId id × IsTask task
FitsCommand (command.Delete id) = IsId id
FitsCommand (command.EndTask task) = IsTask task
FitsCommand (command.Grant id target) = IsId id × Fits32 target.0
FitsCommand (command.Withdraw id target) = IsId id × Fits32 target.0
FitsCommand (command.Peek id offset count) = IsId id × Fits32 offset × Fits32 count
FitsCommand command.List = ⊤
FitsCommand command.Usage = ⊤
FitsCommand command.Leave = ⊤

abbrev pub FitsLocation : Location → Type 0
FitsLocation x = Fits32 x.node × Fits32 x.length × IsDigest x.digest

abbrev pub FitLocations : List Location → Type 0
FitLocations [] = ⊤
FitLocations (x ∷ xs) = FitsLocation x × FitLocations xs

abbrev pub FitsQuota : Quota → Type 0
FitsQuota quota = Fits64 quota.window × Fits64 quota.device

abbrev pub FitsInput : LineInput → Type 0
FitsInput (input.Begin quota) = FitsQuota quota
FitsInput (input.Requota quota) = FitsQuota quota
FitsInput input.End = ⊤
FitsInput (input.Call session c) = Fits32 session × FitsCommand c
FitsInput (input.Answer number verdict) = Fits64 number
FitsInput (input.Located id number entries) = IsId id × Fits64 number × FitLocations entries
FitsInput (input.Chunk id number index from verdict) = IsId id × Fits64 number × Fits32 index × Fits32 from
FitsInput (input.Pull id number matched) = IsId id × Fits64 number
FitsInput (input.NotHere id number from) = IsId id × Fits64 number × Fits32 from
FitsInput (input.Received id n grantor depth) = IsId id × Fits32 n × FitsPositive grantor.0 × FitsPositive depth
FitsInput (input.Withdrawn id grantor depth) = IsId id × FitsPositive grantor.0 × FitsPositive depth

abbrev pub FitOwn : List OwnItem → Type 0
FitOwn [] = ⊤
FitOwn (x ∷ xs) = IsId x.id × Fits32 x.length × FitOwn xs

abbrev pub FitGranted : List GrantedItem → Type 0
FitGranted [] = ⊤
FitGranted (x ∷ xs) = IsId x.id × Fits32 x.length × FitsPositive x.depth × FitGranted xs

abbrev pub FitsUsage : Usage → Type 0
FitsUsage x = Fits64 x.window × Fits64 x.window_used × Fits64 x.device × Fits64 x.device_used × Fits64 x.copies × Fits64 x.works

-- the answers to a Take have no line
abbrev pub FitsReply : Reply ℕ → Type 0
FitsReply reply.Ok = ⊤
FitsReply (reply.Placed offset extent) = Fits32 offset × Fits32 extent
FitsReply (reply.Got n) = Fits32 n
FitsReply (reply.Bytes count) = Fits64 count
FitsReply (reply.List own granted) = FitOwn own × FitGranted granted
FitsReply (reply.Usage usage) = FitsUsage usage
FitsReply (reply.Work work) = ⊥
FitsReply reply.NoWork = ⊥
FitsReply (reply.Refused refusal) = ⊤

pub record IsWritable (x : Entry) : Type 0 where
  pub address : FitsAddress x.address
  pub asked : FitsInput x.input
  pub answered : FitsReply x.reply
  pub fitting : is_fitting x.input x.reply ≡ true
