use Rattle.row_commands.proofs.Notes.{row_receives, bare_receives, same_given, others_stand}
use Rattle.row_commands.proofs.laws.what_is_granted_stands_beside.Goals as goal

pub returns-clause-row : goal.returns-clause-row
returns-clause-row c node line grants bytes row contents id grantor other h = row_receives node line grants bytes row contents id grantor other h

pub returns-clause-bare : goal.returns-clause-bare
returns-clause-bare c node grants bytes job life id grantor other = bare_receives node grants bytes job life id grantor other

pub returns-clause-given : goal.returns-clause-given
returns-clause-given c grants id grantor grantee job other = same_given grants id grantor grantee job other

pub returns-clause-other : goal.returns-clause-other
returns-clause-other c line grants bytes id grantor grantee job from to = others_stand line grants bytes id grantor grantee job from to
