use Rattle.schedule_text.proofs.PlainCommands.{Reads-command_without_payload, Reads-command_without_payload-copy}
use Rattle.schedule_text.proofs.commands.command_of.Goals as goal

pub returns-in-Copy : goal.returns-in-Copy
returns-in-Copy c = Reads-command_without_payload-copy _ c.args.word _ _ c.in-Copy.is c.command_without_payload.ensures

pub returns-in_default : goal.returns-in_default
returns-in_default c = Reads-command_without_payload _ c.args.word _ _ _ c.in-Of.is c.in_default.not-Write c.command_without_payload-in_default.ensures
