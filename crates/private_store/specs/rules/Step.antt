-- One input of one job's store, without contents, and the order of use after it.
use Rattle.std.specs.Prelude.{ℕ, ◌==◌, Bool, false, not, ◌&&◌, List, [], ◌∷◌, ◌++◌, filter, Option, Some, None, is_some, option_to_list}
use Rattle.obj_id.specs.declared.ids.ObjectId.{ObjectId}
use Rattle.obj_id.specs.declared.commands.Command.{Command}
use Rattle.obj_id.specs.declared.commands.Command.TheVariants as command
use Rattle.obj_id.specs.declared.refusals.Refusal.TheVariants.{NotAdmitted, NotGranted, Stale}
use Rattle.obj_id.specs.Ids.{same_id}
use Rattle.private_store.specs.declared.inputs.Judged.{Judged}
use Rattle.private_store.specs.declared.inputs.Judged.TheVariants as judged
use Rattle.private_store.specs.rules.Tables.{ById, at}
use Rattle.private_store.specs.rules.Shape.{Shape, Change}
use Rattle.private_store.specs.rules.Change.{checked, erasing}
use Rattle.private_store.specs.rules.Commands.{create, write, seal, get, read, release, unpin, borrow, give_up, delete, end_task, grant, withdraw, peek, list, usage, leave}
use Rattle.private_store.specs.rules.Events.{is_live, begin, requota, end_job_here, answer, located, chunk_arrived, not_here_arrived, pull_arrived, received, withdrawn}

-- another job's object is refused, whether or not there is one
abbrev pub owned : Shape → ObjectId → Change → Change
owned store id c = checked store ((not (id.job.0 == store.job), NotGranted) ∷ []) c

-- a command of a live job's session
abbrev pub commanded : List ObjectId → Shape → ℕ → Command ℕ → Change
commanded order store session (command.Create id kind n) = owned store id (create order store id kind n)
commanded order store session (command.Write id offset n) = owned store id (write store id offset n)
commanded order store session (command.Seal id) = owned store id (seal store id)
commanded order store session (command.Get id) = owned store id (get order store session id)
commanded order store session (command.Read id offset n) = owned store id (read store session id offset n)
commanded order store session (command.Release id) = owned store id (release store session id)
commanded order store session (command.Unpin id task) = owned store id (unpin store id task)
commanded order store session (command.Borrow id task) = owned store id (borrow store id task)
commanded order store session (command.GiveUp id task) = owned store id (give_up store id task)
commanded order store session (command.Delete id) = owned store id (delete store id)
commanded order store session (command.EndTask task) = end_task store task
commanded order store session (command.Grant id target) = grant store id target.0
commanded order store session (command.Withdraw id target) = withdraw store id target.0
commanded order store session (command.Peek id offset n) = peek store id offset n
commanded order store session command.List = list store
commanded order store session command.Usage = usage store
commanded order store session command.Leave = leave store session

-- what comes too late, or too early, is answered so
abbrev pub if_live : Shape → Change → Change
if_live store c = checked store ((not (is_live store), Stale) ∷ []) c

-- what one input does
abbrev pub step : List ObjectId → Shape → Judged → Change
step order store (judged.Begin quota) = begin store quota
step order store (judged.Requota quota) = if_live store (requota store quota)
step order store (judged.Call session c) =
    checked store ((not (is_live store), NotAdmitted) ∷ []) (erasing store (commanded order store session c))
step order store (judged.Answer number verdict) = answer store number verdict
step order store (judged.Located id number source) = if_live store (located store id number source)
step order store (judged.Chunk id number index from verdict) = if_live store (chunk_arrived store id number index from verdict)
step order store (judged.Pull id number matches) = if_live store (pull_arrived order store id matches)
step order store (judged.NotHere id number from) = if_live store (not_here_arrived store id number from)
step order store (judged.Received id n grantor depth) = received store id n grantor.0 depth
step order store (judged.Withdrawn id grantor depth) = withdrawn store id grantor.0 depth
step order store judged.End = if_live store (erasing store (end_job_here store))

-- ---- the order of use

abbrev pub is_used : Option ObjectId → ObjectId → Bool
is_used None id = false
is_used (Some used) id = same_id used id

-- of the copies that are there, least recently used first: what was used now stands last
abbrev pub reordered : {X : Type 0} → List ObjectId → ById X → Option ObjectId → List ObjectId
reordered order copies used = filter (λ id. is_some (at copies id) && not (is_used used id)) order ++ option_to_list used

abbrev pub order_after : List ObjectId → Change → List ObjectId
order_after order c = reordered order c.shape.copies c.used
