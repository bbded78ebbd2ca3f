use Rattle.row_commands.proofs.Notes.{ends_of, received_is}
use Rattle.row_commands.proofs.laws.notes_go_to_grantees.Goals as goal

pub returns-clause-ended : goal.returns-clause-ended
returns-clause-ended c job ended = ends_of job ended

pub returns-clause-given : goal.returns-clause-given
returns-clause-given c bytes grants id grantor grantee = received_is bytes grants id grantor grantee
