-- One copy changed, and what that does to it.
use Rattle.std.specs.Prelude.{if◌then◌else◌}
use Rattle.std.specs.Option.{option_map_or}
use Rattle.obj_id.specs.declared.ids.ObjectId.{ObjectId}
use Rattle.obj_id.specs.declared.ids.TaskNo.{TaskNo}
use Rattle.private_store.specs.rules.Tables.{at, ids_of}
use Rattle.private_store.specs.rules.Shape.{Copy, Shape, Change}
use Rattle.private_store.specs.rules.Copies.{in_scope}
use Rattle.private_store.specs.rules.Room.{set_copy}
use Rattle.private_store.specs.rules.Change.{done, doom, doomed}
use Rattle.private_store.specs.rules.Commands.{at_each, give_up_one, of_task, task_ended}

-- another copy in place of the id's own, if there is one
abbrev pub store_changed : (Copy → Copy) → Shape → ObjectId → Shape
store_changed f store id = option_map_or (λ copy. set_copy store id (f copy)) (at store.copies id) store

-- and doomed, if it is out of scope then
abbrev pub scoped_by : (Copy → Copy) → Shape → ObjectId → Shape
scoped_by f store id =
    option_map_or (λ copy. if in_scope (f copy) then set_copy store id (f copy) else doomed (set_copy store id (f copy)) id) (at store.copies id) store

-- what EndTask of a task does that hasn't ended
abbrev pub task_over : Shape → TaskNo → Change
task_over store task =
    at_each (give_up_one task) (ids_of store.copies) (at_each doom (of_task task (ids_of store.copies)) (done (task_ended store task)))
