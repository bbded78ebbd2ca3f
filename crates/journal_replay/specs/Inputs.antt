-- What a line of a saved journal is to the store of its job.
use Rattle.std.specs.Prelude.{ℕ, ◌==◌, if◌then◌else◌}
use Rattle.obj_id.specs.declared.commands.Command.{Command}
use Rattle.obj_id.specs.declared.commands.Command.TheVariants as command
use Rattle.private_store.specs.declared.inputs.Judged.{Judged}
use Rattle.private_store.specs.declared.inputs.Judged.TheVariants as judged
use Rattle.private_store.specs.rules.Contents.{source_in}
use Rattle.private_store.specs.rules.Replay.{Line}
use Rattle.journal_text.specs.declared.entry.Address.{Address}
use Rattle.journal_text.specs.declared.entry.Entry.{Entry}
use Rattle.journal_text.specs.declared.entry.LineInput.{LineInput}
use Rattle.journal_text.specs.declared.entry.LineInput.TheVariants as input
use Rattle.journal_text.specs.declared.entry.Version.{Version}
use Rattle.journal_text.specs.declared.entry.Version.TheVariants.{One, Two, Three}

-- version 1 knows no grants of what others granted: such a Grant is refused like any other command on a foreign object
abbrev pub first_form : ℕ → Command ℕ → Command ℕ
first_form job (command.Grant id target) = if id.job.0 == job then command.Grant id target else command.Release id
first_form job c = c

-- a command, as a journal of this form means it
abbrev pub command_meant : Version → ℕ → Command ℕ → Command ℕ
command_meant One job c = first_form job c
command_meant Two job c = c
command_meant Three job c = c

-- the input of a line that stands there: of a directory's entries the first of another node
abbrev pub judged_of : Version → Address → LineInput → Judged
judged_of version address (input.Begin quota) = judged.Begin quota
judged_of version address (input.Requota quota) = judged.Requota quota
judged_of version address input.End = judged.End
judged_of version address (input.Call session c) = judged.Call session (command_meant version address.job.0 c)
judged_of version address (input.Answer number verdict) = judged.Answer number verdict
judged_of version address (input.Located id number entries) = judged.Located id number (source_in address.node entries)
judged_of version address (input.Chunk id number index from verdict) = judged.Chunk id number index from verdict
judged_of version address (input.Pull id number matched) = judged.Pull id number matched
judged_of version address (input.NotHere id number from) = judged.NotHere id number from
judged_of version address (input.Received id length grantor depth) = judged.Received id length grantor depth
judged_of version address (input.Withdrawn id grantor depth) = judged.Withdrawn id grantor depth

-- the line, as the replay of its job takes it
abbrev pub read_line_of : Version → Entry → Line
read_line_of version x = record { input = judged_of version x.address x.input; reply = x.reply }
