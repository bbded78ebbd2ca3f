-- When a step may want memory: not if there is nothing to do, and not if a refusal is all that it comes to.
use Rattle.std.specs.Prelude.{◌≡◌, ℕ, Bool, true, false, List, length, Option, Some, None, is_some}
use Rattle.obj_id.specs.declared.commands.Command.{Command}
use Rattle.obj_id.specs.declared.commands.Command.TheVariants as command
use Rattle.std.specs.Option.{option_map_or}
use Rattle.obj_id.specs.declared.refusals.Refusal.{Refusal}
use Rattle.obj_id.specs.declared.refusals.Refusal.TheVariants.{NotAdmitted}
use Rattle.obj_id.specs.declared.commands.Reply.{Reply}
use Rattle.obj_id.specs.declared.commands.Reply.TheVariants as reply
use Rattle.private_store.specs.declared.inputs.Input.TheVariants as input
use Rattle.private_store.specs.declared.schedules.Event.{Event}
use Rattle.private_store.specs.declared.schedules.Event.TheVariants as event
use Rattle.private_store.specs.declared.schedules.NodeEvent.{NodeEvent}
use Rattle.private_store.specs.declared.schedules.NodeEvent.TheVariants.{Own, Arrive}
use Rattle.private_store.specs.rules.Contents.{View}
use Rattle.private_store.specs.rules.Private.{view_step}
use Rattle.obj_id.specs.declared.ids.JobNo.{JobNo}
use Rattle.obj_id.specs.declared.ids.TaskNo.{TaskNo}
use Rattle.job_admission.specs.Admissions.{live_at, admit_check}
use Rattle.spill_work.specs.declared.queue.IoRequest.{IoRequest}
use Rattle.spill_work.specs.Line.{WorkLine, front_of}
use Rattle.grants.specs.Table.{grant_check, withdraw_check}
use Rattle.job_row.specs.Row.{Row}
use Rattle.job_row.specs.Checks.{early_check, end_task_check}
use Rattle.row_commands.specs.Granting.{peek_check}
use Rattle.row_steps.specs.MemoryLast.{may_grow, IsDueMore}
use Rattle.node_core.specs.Hosted.{Hosted, row_at, Shows, ShowsAll, bytes_here}
use Rattle.node_core.specs.Calls.{is_own, takes_no_memory}
use Rattle.node_core.specs.Granting.{grant_refusal}
use Rattle.node_core.specs.Steps.{is_taken, answer_of_check, end_check, requota_check, stale_unless, take_response}

-- the answer that an event is due
abbrev pub response_by : Hosted → (ℕ → View) → NodeEvent → Reply (List ℕ)
response_by node v (Own (event.Admit job quota key)) = answer_of_check (admit_check node.admissions job quota)
response_by node v (Own (event.Requota job quota)) = answer_of_check (requota_check node.admissions (v job.0) job quota)
response_by node v (Own (event.JobEnd job)) = answer_of_check (end_check node.admissions job)
response_by node v (Own event.Take) = take_response node.works.works v
response_by node v (Own (event.Finish job number a)) = answer_of_check (stale_unless (is_taken node.works.works job.0 number))
response_by node v (Own (event.Call job session c)) = (view_step node.number (v job.0) (input.Call session c)).reply
response_by node v (Arrive job a) = answer_of_check (stale_unless (is_some (live_at node.admissions job)))

-- whether there is something to do
abbrev pub is_accepted : Reply (List ℕ) → Bool
is_accepted (reply.Refused refusal) = false
is_accepted reply.NoWork = false
is_accepted _ = true

-- whether an event may want memory
abbrev pub may_want : Hosted → (ℕ → View) → NodeEvent → Bool
may_want node v (Own (event.Call job session c)) = may_grow (v job.0) (view_step node.number (v job.0) (input.Call session c))
may_want node v e = is_accepted (response_by node v e)

-- what an error is: no other refusal was all that was due
abbrev pub IsMemoryLast : Hosted → NodeEvent → Type 0
IsMemoryLast old e = (v : ℕ → View) → ShowsAll old v → may_want old v e ≡ true

-- ---- the same, by the checks

-- a command on a row that passed every check, and grows something
pub record IsUnrefused (row : Row) (job session : ℕ) (c : Command (List ℕ)) : Type 0 where
  pub own : is_own job c ≡ true
  pub passed : early_check row session c ≡ None
  pub grows : takes_no_memory (Some row) c ≡ false

-- the same of a command on a row, whatever job it is of
pub record IsMemoryLastOnRow (row : Row) (session : ℕ) (c : Command (List ℕ)) : Type 0 where
  pub passed : early_check row session c ≡ None
  pub grows : takes_no_memory (Some row) c ≡ false

-- of a command that waits for room: that it is due more than a refusal
abbrev pub IsRoomDue : ℕ → Row → WorkLine → Command (List ℕ) → Type 0
IsRoomDue node row line (command.Create id kind n) = IsDueMore node row line (command.Create id kind n)
IsRoomDue node row line (command.Get id) = IsDueMore node row line (command.Get id)
IsRoomDue node row line _ = Unit {0}

-- why a command of the job with this row is refused by the grants that stand
abbrev pub grants_check : Hosted → Row → ℕ → Command (List ℕ) → Option Refusal
grants_check node row job (command.Grant id target) = grant_refusal row job id target.0 (grant_check node.grants job id target.0)
grants_check node row job (command.Withdraw id target) = withdraw_check node.grants job id target.0
grants_check node row job (command.Peek id offset n) = peek_check node.grants job id (length (bytes_here node.rows id)) offset n
grants_check node row job _ = None

-- why a task of a job with this row, or none, can't end
abbrev pub task_refusal : Option Row → TaskNo → Option Refusal
task_refusal own task = option_map_or (λ row. end_task_check row task) own (Some NotAdmitted)

-- on the row of a live job
pub record IsCallUnrefused (node : Hosted) (job : JobNo) (session : ℕ) (c : Command (List ℕ)) : Type 0 where
  pub row : Row
  pub found : row_at node job ≡ Some row
  pub unrefused : IsUnrefused row job.0 session c
  pub by_grants : grants_check node row job.0 c ≡ None
  pub by_room : row.job ≡ job.0 → IsRoomDue node.number row node.works c

-- a work that nobody has taken, of a job that has a row
pub record IsFront (node : Hosted) : Type 0 where
  pub asked : IoRequest
  pub first : front_of node.works.works ≡ Some asked
  pub row : Row
  pub found : row_at node asked.job ≡ Some row

abbrev pub IsEventUnrefused : Hosted → Event → Type 0
IsEventUnrefused node (event.Admit job quota key) = admit_check node.admissions job quota ≡ None
IsEventUnrefused node (event.JobEnd job) = end_check node.admissions job ≡ None
IsEventUnrefused node (event.Requota job quota) = (view : View) → Shows node job.0 view → requota_check node.admissions view job quota ≡ None
IsEventUnrefused node event.Take = IsFront node
IsEventUnrefused node (event.Call job session c) = IsCallUnrefused node job session c
IsEventUnrefused node (event.Finish job number a) = ⊥
