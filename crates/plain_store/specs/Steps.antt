-- A command as what it does to an object of the job's own, and what is refused since the object is another job's.
use Rattle.std.specs.Prelude.{ℕ, ◌==◌, Bool, true, false, not, List, Option, Some, None}
use Rattle.std.specs.Option.{option_map_or}
use Rattle.obj_id.specs.declared.ids.ObjectId.{ObjectId}
use Rattle.obj_id.specs.declared.commands.Command.{Command}
use Rattle.obj_id.specs.declared.commands.Command.TheVariants as command
use Rattle.private_store.specs.declared.inputs.Judged.{Judged}
use Rattle.private_store.specs.declared.inputs.Judged.TheVariants as judged
use Rattle.private_store.specs.rules.Shape.{Shape, Change}
use Rattle.private_store.specs.rules.Commands.{create, write, seal, get, read, release, unpin, borrow, give_up, delete, end_task, grant, withdraw, peek, list, usage, leave}

-- the object of a command that is refused for another job's
abbrev pub own_id : Command ℕ → Option ObjectId
own_id (command.Create id kind n) = Some id
own_id (command.Write id offset n) = Some id
own_id (command.Seal id) = Some id
own_id (command.Get id) = Some id
own_id (command.Read id offset n) = Some id
own_id (command.Release id) = Some id
own_id (command.Unpin id task) = Some id
own_id (command.Borrow id task) = Some id
own_id (command.GiveUp id task) = Some id
own_id (command.Delete id) = Some id
own_id (command.EndTask task) = None
own_id (command.Grant id target) = None
own_id (command.Withdraw id target) = None
own_id (command.Peek id offset n) = None
own_id command.List = None
own_id command.Usage = None
own_id command.Leave = None

abbrev pub is_foreign : Shape → Command ℕ → Bool
is_foreign store c = option_map_or (λ id. not (id.job.0 == store.job)) (own_id c) false

-- what a command does whose object is the job's own
abbrev pub own_command : List ObjectId → Shape → ℕ → Command ℕ → Change
own_command order store session (command.Create id kind n) = create order store id kind n
own_command order store session (command.Write id offset n) = write store id offset n
own_command order store session (command.Seal id) = seal store id
own_command order store session (command.Get id) = get order store session id
own_command order store session (command.Read id offset n) = read store session id offset n
own_command order store session (command.Release id) = release store session id
own_command order store session (command.Unpin id task) = unpin store id task
own_command order store session (command.Borrow id task) = borrow store id task
own_command order store session (command.GiveUp id task) = give_up store id task
own_command order store session (command.Delete id) = delete store id
own_command order store session (command.EndTask task) = end_task store task
own_command order store session (command.Grant id target) = grant store id target.0
own_command order store session (command.Withdraw id target) = withdraw store id target.0
own_command order store session (command.Peek id offset n) = peek store id offset n
own_command order store session command.List = list store
own_command order store session command.Usage = usage store
own_command order store session command.Leave = leave store session

-- whether it makes no copy the most recently used one, whatever the store
abbrev pub uses_none : Command ℕ → Bool
uses_none (command.Create id kind n) = false
uses_none (command.Get id) = false
uses_none _ = true

-- whether it is told to live jobs alone
abbrev pub is_timely : Judged → Bool
is_timely (judged.Requota quota) = true
is_timely (judged.Located id number source) = true
is_timely (judged.Chunk id number index from verdict) = true
is_timely (judged.Pull id number matches) = true
is_timely (judged.NotHere id number from) = true
is_timely judged.End = true
is_timely _ = false
