-- Why a command can't be carried out, in the order of its checks; its own job's object is meant.
use Rattle.std.specs.Prelude.{ℕ, nat_lt, Bool, ◌||◌, length, if◌then◌else◌, List, Option, Some, None, Result, Ok, Err, false}
use Rattle.std.specs.Option.{option_map_or, option_and_then}
use Rattle.obj_id.specs.declared.ids.ObjectId.{ObjectId}
use Rattle.obj_id.specs.declared.commands.Command.{Command}
use Rattle.obj_id.specs.declared.commands.Command.TheVariants as command
use Rattle.obj_id.specs.declared.commands.CopyState.{CopyState}
use Rattle.obj_id.specs.declared.refusals.Refusal.{Refusal}
use Rattle.obj_id.specs.declared.refusals.Refusal.TheVariants.{BadSize, Gone, Absent}
use Rattle.obj_id.specs.declared.ids.TaskNo.{TaskNo}
use Rattle.obj_id.specs.Ids.{same_task}
use Rattle.private_store.specs.rules.Limits.{most_bytes}
use Rattle.private_store.specs.rules.Tables.{ById, at}
use Rattle.private_store.specs.rules.Extents.{is_size}
use Rattle.private_store.specs.rules.Shape.{Copy, Phase, sized}
use Rattle.private_store.specs.rules.Commands.{create_checks, write_checks, seal_checks, fetch_checks, bytes_checks, read_checks, release_checks, unpin_checks, borrow_checks, give_up_checks, delete_checks, end_task_checks}
use Rattle.private_store.specs.rules.Shared.{first_refusal}
use Rattle.private_store.specs.declared.faults.Fault.{Fault}
use Rattle.private_store.specs.laws.Invariants.{is_remembered}
use Rattle.row_copy.specs.CopyViews.{CopyView}
use Rattle.job_row.specs.Row.{Row}
use Rattle.row_copy.specs.Checks.{unless_doomed}

-- by the checks of the id's copy
abbrev pub check_at : {X : Type 0} → ById X → ObjectId → (X → List (Bool × Refusal)) → Option Refusal
check_at copies id checks = elim (at copies id) [ None ↦ Some Absent | Some kept ↦ first_refusal (checks kept) ]

abbrev pub write_check : ById CopyView → ObjectId → ℕ → ℕ → Option Refusal
write_check copies id offset n =
    if nat_lt most_bytes n then Some BadSize else check_at copies id (λ kept. unless_doomed kept (write_checks kept.copy offset n))

abbrev pub seal_check : ById CopyView → ObjectId → Option Refusal
seal_check copies id = check_at copies id (λ kept. unless_doomed kept (seal_checks kept.copy))

abbrev pub read_check : ById CopyView → ℕ → ObjectId → ℕ → ℕ → Option Refusal
read_check copies session id offset n =
    if nat_lt most_bytes n then Some BadSize else check_at copies id (λ kept. read_checks kept.copy session offset n)

-- where the bytes are lent whole
abbrev pub lend_check : ById Copy → ℕ → ObjectId → Option Refusal
lend_check copies session id = check_at copies id (λ copy. bytes_checks copy session)

abbrev pub release_check : ById CopyView → ℕ → ObjectId → Option Refusal
release_check copies session id = check_at copies id (λ kept. release_checks kept.copy session)

-- whether another copy is too many, or no number is left for its fetch
abbrev pub fetch_check : ById CopyView → ℕ → Option Refusal
fetch_check copies begun = first_refusal (fetch_checks (length copies) begun)

-- ---- scope

abbrev pub unpin_check : ById CopyView → ObjectId → TaskNo → Option Refusal
unpin_check copies id task = check_at copies id (λ kept. unless_doomed kept (unpin_checks kept.copy (same_task task id.task)))

-- where neither task has ended
abbrev pub borrow_check : ById CopyView → ObjectId → TaskNo → Option Refusal
borrow_check copies id task = check_at copies id (λ kept. unless_doomed kept (borrow_checks kept.copy task))

abbrev pub row_borrow_check : Row → ObjectId → TaskNo → Option Refusal
row_borrow_check row id task =
    if is_remembered row.ended_tasks id.task || is_remembered row.ended_tasks task then Some Gone else borrow_check row.copies id task

abbrev pub give_up_check : ById CopyView → ObjectId → TaskNo → Option Refusal
give_up_check copies id task = check_at copies id (λ kept. unless_doomed kept (give_up_checks kept.copy task))

abbrev pub delete_check : ById CopyView → ObjectId → Option Refusal
delete_check copies id = check_at copies id (λ kept. unless_doomed kept (delete_checks kept.granted))

-- why a task can't end
abbrev pub end_task_check : Row → TaskNo → Option Refusal
end_task_check row task = first_refusal (end_task_checks row.ended_tasks task)

-- why no copy of n bytes can be made under the id, before room is looked for
abbrev pub create_check : Row → ObjectId → ℕ → Option Refusal
create_check row id n = first_refusal (create_checks row.window.quota row.ended_tasks row.copies id n)

-- why a command on the job's own object that waits for no room is refused before anything grows
abbrev pub early_check : Row → ℕ → Command (List ℕ) → Option Refusal
early_check row session (command.Seal id) = seal_check row.copies id
early_check row session (command.Read id offset n) = read_check row.copies session id offset n
early_check row session (command.Unpin id task) = unpin_check row.copies id task
early_check row session (command.Borrow id task) = row_borrow_check row id task
early_check row session (command.GiveUp id task) = give_up_check row.copies id task
early_check row session (command.Delete id) = delete_check row.copies id
early_check row session (command.EndTask task) = end_task_check row task
early_check row session _ = None

-- the state of a copy that is asked for, if there is one
abbrev pub visible_state : Option CopyView → Result (Option CopyState) Refusal
visible_state None = Ok None
visible_state (Some kept) = if kept.copy.doomed then Err Absent else Ok (Some kept.copy.state)

-- what the copy that is asked for has to tell of its last restore
abbrev pub fault_at : ById CopyView → ObjectId → Option Fault
fault_at copies id = option_and_then (λ kept. kept.copy.fault) (at copies id)

-- whether the source of the copy's fetch is known, and the window may have its length
abbrev pub can_pull : ℕ → Copy → Phase → Bool
can_pull window copy (sized source) = is_size window copy.length
can_pull window copy _ = false

abbrev pub can_pull_at : Row → ObjectId → Bool
can_pull_at row id =
    option_map_or (λ kept. option_map_or (λ fetch. can_pull row.window.quota kept.copy fetch.phase) kept.copy.fetch false) (at row.copies id) false
