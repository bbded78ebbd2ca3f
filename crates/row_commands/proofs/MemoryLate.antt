-- A command whose checks let it pass, and that needs no room, is due more than a refusal.
use Rattle.std.proofs.Common.{◌≡◌, ℕ, Bool, true, ◌==◌, List, [], ◌∷◌, map, fold, None, refl, sym, ap, ◌∙◌}
use Rattle.std.specs.Option.{option_map_or}
use Rattle.obj_id.specs.declared.ids.ObjectId.{ObjectId}
use Rattle.obj_id.specs.declared.ids.TaskNo.{TaskNo}
use Rattle.obj_id.specs.declared.refusals.Refusal.TheVariants.{Absent}
use Rattle.obj_id.specs.declared.commands.CopyState.TheVariants.{Sealed}
use Rattle.obj_id.specs.declared.commands.Command.{Command}
use Rattle.obj_id.specs.declared.commands.Command.TheVariants as command
use Rattle.obj_id.specs.declared.commands.Reply.TheVariants as reply
use Rattle.private_store.specs.declared.inputs.Input.{Input}
use Rattle.private_store.specs.declared.inputs.Input.TheVariants as input
use Rattle.private_store.specs.rules.Tables.{ids_of}
use Rattle.private_store.specs.rules.Shape.{Shape, Change, add_location}
use Rattle.private_store.specs.rules.Room.{set_copy}
use Rattle.private_store.specs.rules.Change.{refused, replied, done, sending, erasing}
use Rattle.private_store.specs.rules.Commands.{granted_items}
use Rattle.private_store.specs.rules.Contents.{Contents, View}
use Rattle.private_store.specs.rules.Private.{view_step}
use Rattle.job_row.specs.Row.{Row}
use Rattle.job_row.specs.Checks.{seal_check, unpin_check, row_borrow_check, give_up_check, delete_check, end_task_check, read_check}
use Rattle.row_steps.specs.MemoryLast.{is_more, work_has_begun}
use Rattle.row_steps.specs.Shown.{seen, IsShown}
use Rattle.row_copy.specs.Usages.{own_item_of}
use Rattle.row_steps.proofs.ForCallers.{unless_refused, called, own, read-by, seal-by, seal_done, sending-is, seal_passed, list_done, IsLate, more_by, late_by, late_if_ok}
use Rattle.job_row.proofs.ForCallers.{at-copies_found}
use Rattle.row_commands.proofs.EndingTasks.{end_task_ok}
use Rattle.row_commands.proofs.LeavingEach.{left_shape, leaves-each}
use Rattle.row_commands.proofs.Scoping.{unpin_ok, borrow_ok, give_up_ok, delete_ok}
use Rattle.row_steps.specs.Beside.{SharedTables, shape_of}

module _ (node : ℕ) (row : Row) (beside : SharedTables) (contents : Contents) (session : ℕ) (h : IsShown row beside contents) where
  abbrev s : Shape
  s = shape_of row beside

  abbrev w : View
  w = seen row beside contents

  abbrev asks : Command (List ℕ) → Input
  asks c = input.Call session c

  abbrev is_late : Command (List ℕ) → Type 0
  is_late = IsLate node row beside contents session h

  abbrev grows_by : Command (List ℕ) → Change → Bool
  grows_by = more_by node row beside contents session h

  pub unpin_late : (id : ObjectId) (task : TaskNo) → (id.job.0 == row.job) ≡ true → unpin_check row.copies id task ≡ None → is_late (command.Unpin id task)
  unpin_late id task mine passed = late_if_ok node row beside contents session h (command.Unpin id task) (unpin_ok node row beside contents session id mine h task passed)

  pub borrow_late : (id : ObjectId) (task : TaskNo) → (id.job.0 == row.job) ≡ true → row_borrow_check row id task ≡ None → is_late (command.Borrow id task)
  borrow_late id task mine passed = late_if_ok node row beside contents session h (command.Borrow id task) (borrow_ok node row beside contents session id mine h task passed)

  pub give_up_late : (id : ObjectId) (task : TaskNo) → (id.job.0 == row.job) ≡ true → give_up_check row.copies id task ≡ None → is_late (command.GiveUp id task)
  give_up_late id task mine passed = late_if_ok node row beside contents session h (command.GiveUp id task) (give_up_ok node row beside contents session id mine h task passed)

  pub delete_late : (id : ObjectId) → (id.job.0 == row.job) ≡ true → delete_check row.copies id ≡ None → is_late (command.Delete id)
  delete_late id mine passed = late_if_ok node row beside contents session h (command.Delete id) (delete_ok node row beside contents session id mine h passed)

  pub end_task_late : (task : TaskNo) → end_task_check row task ≡ None → is_late (command.EndTask task)
  end_task_late task passed = late_if_ok node row beside contents session h (command.EndTask task) (end_task_ok node row beside contents session task h passed)

  pub seal_late : (id : ObjectId) → (id.job.0 == row.job) ≡ true → seal_check row.copies id ≡ None → is_late (command.Seal id)
  seal_late id mine passed =
      let k = seal_passed row.copies id passed in
      late_by node row beside contents session h (command.Seal id) (seal_done row beside id)
      (called row beside session (command.Seal id) ∙ ap (erasing s) (own row beside id _ mine ∙ seal-by row beside id ∙ ap (λ o. unless_refused s o (seal_done row beside id)) passed))
      (ap (λ o. grows_by (command.Seal id) (erasing s (option_map_or (λ copy. sending (add_location id ∷ []) (done (set_copy s id (record copy { state = Sealed })))) o (refused s Absent)))) (at-copies_found row.copies id k.copy k.found)
      ∙ ap (λ d. grows_by (command.Seal id) (erasing s d)) (sending-is _ _))

  pub read_late : (id : ObjectId) (offset n : ℕ) → (id.job.0 == row.job) ≡ true → read_check row.copies session id offset n ≡ None → is_late (command.Read id offset n)
  read_late id offset n mine passed =
      late_by node row beside contents session h (command.Read id offset n) (replied s (reply.Bytes n))
      (called row beside session (command.Read id offset n) ∙ ap (erasing s) (own row beside id _ mine ∙ read-by row beside id session offset n ∙ ap (λ o. unless_refused s o (replied s (reply.Bytes n))) passed))
      refl

  pub list_late : is_late command.List
  list_late = ap (is_more (work_has_begun w (view_step node w (asks command.List)))) (sym (list_done node row beside contents session h (map own_item_of row.copies) (granted_items s) refl refl).reply)

  pub leave_late : is_late command.Leave
  leave_late =
      late_by node row beside contents session h command.Leave (done (fold (left_shape session) s (ids_of s.copies)))
      (called row beside session command.Leave ∙ ap (erasing s) (leaves-each session (ids_of s.copies) s)) refl
