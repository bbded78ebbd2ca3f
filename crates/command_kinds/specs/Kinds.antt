-- What is known of a command by its kind.
use Rattle.std.specs.Prelude.{ℕ, true, false, List, codes, Option, Some, None, unwrap_or}
use Rattle.obj_id.specs.declared.commands.Command.{Command}
use Rattle.obj_id.specs.declared.commands.Command.TheVariants as command
use Rattle.private_store.specs.declared.frames.Awaited.{Awaited}
use Rattle.private_store.specs.declared.frames.Awaited.TheVariants as awaited
use Rattle.command_kinds.specs.declared.command_kind.Carrier.TheVariants as by
use Rattle.command_kinds.specs.declared.command_kind.CommandKind.{CommandKind}
use Rattle.command_kinds.specs.declared.command_kind.CommandKind.TheVariants as kinds
use Rattle.command_kinds.specs.declared.command_kind.MostSent.TheVariants as sent
use Rattle.command_kinds.specs.declared.command_kind.Moved.TheVariants as moved
use Rattle.command_kinds.specs.declared.command_kind.Prepares.{Prepares}
use Rattle.command_kinds.specs.declared.command_kind.Prepares.TheVariants as prepares
use Rattle.command_kinds.specs.declared.command_kind.Traits.{Traits}
use Rattle.command_kinds.specs.declared.outline.Subject.{Subject}
use Rattle.command_kinds.specs.declared.outline.Subject.TheVariants as subject
use Rattle.command_kinds.specs.declared.preparation.Preparation.{Preparation}
use Rattle.command_kinds.specs.declared.preparation.Preparation.TheVariants as preparation

-- the kind of a command, whatever it has for the bytes that are written
abbrev pub kind_of : {P : Type 0} → Command P → CommandKind
kind_of (command.Create id kind n) = kinds.Create
kind_of (command.Write id offset bytes) = kinds.Write
kind_of (command.Seal id) = kinds.Seal
kind_of (command.Get id) = kinds.Get
kind_of (command.Read id offset n) = kinds.Read
kind_of (command.Release id) = kinds.Release
kind_of (command.Unpin id task) = kinds.Unpin
kind_of (command.Borrow id task) = kinds.Borrow
kind_of (command.GiveUp id task) = kinds.GiveUp
kind_of (command.Delete id) = kinds.Delete
kind_of (command.EndTask task) = kinds.EndTask
kind_of (command.Grant id target) = kinds.Grant
kind_of (command.Withdraw id target) = kinds.Withdraw
kind_of (command.Peek id offset n) = kinds.Peek
kind_of command.List = kinds.List
kind_of command.Usage = kinds.Usage
kind_of command.Leave = kinds.Leave

abbrev pub awaited_kind_of : Awaited → CommandKind
awaited_kind_of (awaited.Get id) = kinds.GetWait
awaited_kind_of (awaited.Create id kind n) = kinds.CreateWait

-- what a command is about
abbrev pub subject_of : {P : Type 0} → Command P → Subject
subject_of (command.Create id kind n) = subject.OwnObject id
subject_of (command.Write id offset bytes) = subject.OwnObject id
subject_of (command.Seal id) = subject.OwnObject id
subject_of (command.Get id) = subject.OwnObject id
subject_of (command.Read id offset n) = subject.OwnObject id
subject_of (command.Release id) = subject.OwnObject id
subject_of (command.Unpin id task) = subject.OwnObject id
subject_of (command.Borrow id task) = subject.OwnObject id
subject_of (command.GiveUp id task) = subject.OwnObject id
subject_of (command.Delete id) = subject.OwnObject id
subject_of (command.EndTask task) = subject.Task task
subject_of (command.Grant id target) = subject.AnyObject id
subject_of (command.Withdraw id target) = subject.AnyObject id
subject_of (command.Peek id offset n) = subject.AnyObject id
subject_of command.List = subject.All
subject_of command.Usage = subject.All
subject_of command.Leave = subject.All

-- what a command has written
abbrev pub payload_of : {P : Type 0} → Command P → Option P
payload_of (command.Create id kind n) = None
payload_of (command.Write id offset bytes) = Some bytes
payload_of (command.Seal id) = None
payload_of (command.Get id) = None
payload_of (command.Read id offset n) = None
payload_of (command.Release id) = None
payload_of (command.Unpin id task) = None
payload_of (command.Borrow id task) = None
payload_of (command.GiveUp id task) = None
payload_of (command.Delete id) = None
payload_of (command.EndTask task) = None
payload_of (command.Grant id target) = None
payload_of (command.Withdraw id target) = None
payload_of (command.Peek id offset n) = None
payload_of command.List = None
payload_of command.Usage = None
payload_of command.Leave = None

-- how many bytes the copy of a Create is to have
abbrev pub length_of : {P : Type 0} → Command P → Option ℕ
length_of (command.Create id kind n) = Some n
length_of (command.Write id offset bytes) = None
length_of (command.Seal id) = None
length_of (command.Get id) = None
length_of (command.Read id offset n) = None
length_of (command.Release id) = None
length_of (command.Unpin id task) = None
length_of (command.Borrow id task) = None
length_of (command.GiveUp id task) = None
length_of (command.Delete id) = None
length_of (command.EndTask task) = None
length_of (command.Grant id target) = None
length_of (command.Withdraw id target) = None
length_of (command.Peek id offset n) = None
length_of command.List = None
length_of command.Usage = None
length_of command.Leave = None

-- what is best made before a command's step
abbrev pub preparation_of : {P : Type 0} → Command P → Preparation
preparation_of (command.Create id kind n) = preparation.NewExtent id n
preparation_of (command.Write id offset bytes) = preparation.Nothing
preparation_of (command.Seal id) = preparation.Digest id
preparation_of (command.Get id) = preparation.CopyExtent id
preparation_of (command.Read id offset n) = preparation.Nothing
preparation_of (command.Release id) = preparation.Nothing
preparation_of (command.Unpin id task) = preparation.Nothing
preparation_of (command.Borrow id task) = preparation.Nothing
preparation_of (command.GiveUp id task) = preparation.Nothing
preparation_of (command.Delete id) = preparation.Nothing
preparation_of (command.EndTask task) = preparation.Nothing
preparation_of (command.Grant id target) = preparation.Nothing
preparation_of (command.Withdraw id target) = preparation.Nothing
preparation_of (command.Peek id offset n) = preparation.Nothing
preparation_of command.List = preparation.Nothing
preparation_of command.Usage = preparation.Nothing
preparation_of command.Leave = preparation.Nothing

-- what a kind that prepares so has made for this, of which a copy may have so many bytes: for an own object alone
abbrev pub prepared : Prepares → Subject → Option ℕ → Preparation
prepared prepares.Nothing (subject.OwnObject id) n = preparation.Nothing
prepared prepares.Digest (subject.OwnObject id) n = preparation.Digest id
prepared prepares.NewExtent (subject.OwnObject id) n = preparation.NewExtent id (unwrap_or n 0)
prepared prepares.CopyExtent (subject.OwnObject id) n = preparation.CopyExtent id
prepared how (subject.AnyObject id) n = preparation.Nothing
prepared how (subject.Task task) n = preparation.Nothing
prepared how subject.All n = preparation.Nothing

-- of a kind that the row carries out, and that does nothing of the sort
abbrev quiet : Traits
quiet = record { by = by.Row; prepares = prepares.Nothing; removes = false; meets_seals = false; reaches_others = false; moved = moved.Nothing; sends = sent.Nothing }

-- the table: a kind that is new has to be put somewhere
abbrev pub traits_of : CommandKind → Traits
traits_of kinds.Create = record quiet { by = by.RowAndWorks; prepares = prepares.NewExtent; removes = true; sends = sent.EachCopy }
traits_of kinds.CreateWait = record quiet { by = by.RowAndWorks; prepares = prepares.NewExtent; removes = true; sends = sent.EachCopy }
traits_of kinds.Get = record quiet { by = by.RowAndWorks; prepares = prepares.CopyExtent; removes = true; sends = sent.EachCopyAndOne }
traits_of kinds.GetWait = record quiet { by = by.RowAndWorks; prepares = prepares.CopyExtent; removes = true; sends = sent.EachCopyAndOne }
traits_of kinds.Write = record quiet { meets_seals = true }
traits_of kinds.Seal = record quiet { prepares = prepares.Digest; moved = moved.Copies; sends = sent.One }
traits_of kinds.Read = quiet
traits_of kinds.Release = record quiet { removes = true; moved = moved.Copies }
traits_of kinds.Unpin = record quiet { removes = true; meets_seals = true; moved = moved.Copies; sends = sent.One }
traits_of kinds.Borrow = quiet
traits_of kinds.GiveUp = record quiet { removes = true; meets_seals = true; moved = moved.Copies; sends = sent.One }
traits_of kinds.Delete = record quiet { removes = true; meets_seals = true; moved = moved.Fetches; sends = sent.One }
traits_of kinds.EndTask = record quiet { by = by.Grants; removes = true; meets_seals = true; moved = moved.Fetches; sends = sent.EachCopyTwice }
traits_of kinds.Grant = record quiet { by = by.Grants; reaches_others = true }
traits_of kinds.Withdraw = record quiet { by = by.Grants; removes = true; moved = moved.Copies }
traits_of kinds.Peek = record quiet { by = by.Node }
traits_of kinds.List = record quiet { by = by.Node }
traits_of kinds.Usage = quiet
traits_of kinds.Leave = record quiet { removes = true; moved = moved.Copies }

-- the word of a kind, in the lines of schedules and journals and in the counts that an operator is shown
abbrev pub kind_word : CommandKind → List ℕ
kind_word kinds.Create = codes "create"
kind_word kinds.Write = codes "write"
kind_word kinds.Seal = codes "seal"
kind_word kinds.Get = codes "get"
kind_word kinds.Read = codes "read"
kind_word kinds.Release = codes "release"
kind_word kinds.Unpin = codes "unpin"
kind_word kinds.Borrow = codes "borrow"
kind_word kinds.GiveUp = codes "giveup"
kind_word kinds.Delete = codes "delete"
kind_word kinds.EndTask = codes "endtask"
kind_word kinds.Grant = codes "grant"
kind_word kinds.Withdraw = codes "withdraw"
kind_word kinds.Peek = codes "peek"
kind_word kinds.List = codes "list"
kind_word kinds.Usage = codes "usage"
kind_word kinds.Leave = codes "leave"
kind_word kinds.GetWait = codes "get-wait"
kind_word kinds.CreateWait = codes "create-wait"
