-- What gives a grant or may end some, of which those are notified as well to whom objects are granted.
use Rattle.std.specs.Prelude.{ℕ, Bool, List, Option, Some, None, is_some}
use Rattle.obj_id.specs.declared.commands.Command.{Command}
use Rattle.obj_id.specs.declared.commands.Command.TheVariants as command
use Rattle.obj_id.specs.declared.ids.JobNo.{JobNo}
use Rattle.private_store.specs.declared.schedules.Event.{Event}
use Rattle.private_store.specs.declared.schedules.Event.TheVariants as event
use Rattle.node_core.specs.declared.grant_move.GrantMove.{GrantMove}
use Rattle.node_core.specs.declared.grant_move.GrantMove.TheVariants as grant_move

-- what a command of a session moves of grants, if it is accepted
abbrev pub grant_move_by : JobNo → ℕ → Command (List ℕ) → Option GrantMove
grant_move_by job session (command.EndTask task) = Some (grant_move.EndTask job session task)
grant_move_by job session (command.Grant id target) = Some (grant_move.Grant job session id target)
grant_move_by job session (command.Withdraw id target) = Some (grant_move.Withdraw job session id target)
grant_move_by job session _ = None

-- what an event moves of them
abbrev pub grant_move_of : Event → Option GrantMove
grant_move_of (event.Admit job quota key) = None
grant_move_of (event.Requota job quota) = None
grant_move_of (event.JobEnd job) = Some (grant_move.JobEnd job)
grant_move_of event.Take = None
grant_move_of (event.Finish job number a) = None
grant_move_of (event.Call job session c) = grant_move_by job session c

-- whether it may give a grant or end some
abbrev pub moves_grants : Event → Bool
moves_grants e = is_some (grant_move_of e)

-- the event that moves so
abbrev pub event_of : GrantMove → Event
event_of (grant_move.JobEnd job) = event.JobEnd job
event_of (grant_move.EndTask job session task) = event.Call job session (command.EndTask task)
event_of (grant_move.Grant job session id target) = event.Call job session (command.Grant id target)
event_of (grant_move.Withdraw job session id target) = event.Call job session (command.Withdraw id target)
