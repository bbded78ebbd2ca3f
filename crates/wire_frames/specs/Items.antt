-- What a program's items are, and which of them have a frame.
use Rattle.std.specs.Prelude.{◌≡◌, ℕ, ◌<◌, ◌^◌, Bool, true, false, List, length, slice_index}
use Rattle.obj_id.specs.Ids.{IsId, IsTask}
use Rattle.obj_id.specs.declared.commands.Command.{Command}
use Rattle.obj_id.specs.declared.commands.Command.TheVariants as command
use Rattle.private_store.specs.declared.frames.Awaited.{Awaited}
use Rattle.private_store.specs.declared.frames.Awaited.TheVariants as awaited
use Rattle.private_store.specs.declared.frames.Item.{Item}
use Rattle.private_store.specs.declared.frames.Item.TheVariants as item
use Rattle.wire_frames.specs.Writing.{has_command_frame}

-- ids with a job and an index of at least 1, tasks of 20 bytes, numbers of 32 bits
abbrev pub IsCommandBytes : Command (List ℕ) → Type 0
IsCommandBytes (command.Create id kind n) = IsId id × (n < 2 ^ 32)
IsCommandBytes (command.Write id offset bytes) = IsId id × (offset < 2 ^ 32)
IsCommandBytes (command.Seal id) = IsId id
IsCommandBytes (command.Get id) = IsId id
IsCommandBytes (command.Read id offset n) = IsId id × (offset < 2 ^ 32) × (n < 2 ^ 32)
IsCommandBytes (command.Release id) = IsId id
IsCommandBytes (command.Unpin id task) = IsId id × IsTask task
IsCommandBytes (command.Borrow id task) = IsId id × IsTask task
IsCommandBytes (command.GiveUp id task) = IsId id × IsTask task
IsCommandBytes (command.Delete id) = IsId id
IsCommandBytes (command.EndTask task) = IsTask task
IsCommandBytes (command.Grant id target) = IsId id × (target.0 < 2 ^ 32)
IsCommandBytes (command.Withdraw id target) = IsId id × (target.0 < 2 ^ 32)
IsCommandBytes (command.Peek id offset n) = IsId id × (offset < 2 ^ 32) × (n < 2 ^ 32)
IsCommandBytes command.List = Unit {0}
IsCommandBytes command.Usage = Unit {0}
IsCommandBytes command.Leave = Unit {0}

abbrev pub IsAwaited : Awaited → Type 0
IsAwaited (awaited.Get id) = IsId id
IsAwaited (awaited.Create id kind n) = IsId id × (n < 2 ^ 32)

-- what a program's item is, of those that say something
abbrev pub IsItemBytes : Item → Type 0
IsItemBytes (item.Hello job key) = (job.0 < 2 ^ 32) × (length key.0 ≡ 32)
IsItemBytes (item.Command c) = IsCommandBytes c
IsItemBytes (item.Wait c) = IsAwaited c
IsItemBytes item.BadId = ⊥

-- what has a frame
pub record HasFrame (x : Item) : Type 0 where
  pub well : IsItemBytes x
  pub fits : has_command_frame x ≡ true

-- numbers of 8 bits
abbrev pub AreBytes : List ℕ → Type 0
AreBytes bytes = (i : ℕ) → slice_index bytes i < 256

-- whether the item doesn't say what its frame was
abbrev pub is_bad_id : Item → Bool
is_bad_id item.BadId = true
is_bad_id _ = false
