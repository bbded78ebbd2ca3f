-- A step that passed every check is due more than a refusal.
use Rattle.std.proofs.Common.{◌≡◌, ℕ, true, List, length, take, drop, None, sym, ap, subst, ◌∙◌}
use Rattle.std.specs.Option.{option_map_or}
use Rattle.obj_id.specs.declared.commands.Command.{Command}
use Rattle.obj_id.specs.declared.commands.Command.TheVariants as command
use Rattle.obj_id.specs.declared.commands.Reply.TheVariants as reply
use Rattle.obj_id.specs.declared.ids.JobNo.{JobNo}
use Rattle.obj_id.specs.declared.ids.ObjectId.{ObjectId}
use Rattle.private_store.specs.declared.inputs.Input.TheVariants as input
use Rattle.private_store.specs.declared.schedules.Event.{Event}
use Rattle.private_store.specs.declared.schedules.Event.TheVariants as event
use Rattle.private_store.specs.declared.schedules.NodeEvent.TheVariants.{Own}
use Rattle.private_store.specs.rules.Contents.{Contents}
use Rattle.private_store.specs.rules.Private.{view_step}
use Rattle.private_store.specs.rules.Grants.{StandingGrant}
use Rattle.spill_work.specs.Line.{WorkLine}
use Rattle.row_commands.specs.Granting.{peek_check}
use Rattle.job_row.specs.Row.{Row}
use Rattle.row_steps.specs.MemoryLast.{is_more, work_has_begun, may_grow, IsDueMore}
use Rattle.row_steps.specs.Shown.{seen, IsShown}
use Rattle.row_commands.proofs.ForCallers.{seal_late, read_late, list_late, leave_late, unpin_late, borrow_late, give_up_late, delete_late, end_task_late, peeks}
use Rattle.node_core.specs.Hosted.{Hosted, IsRowView, IsViewBy, bytes_here, beside_at}
use Rattle.node_core.specs.MemoryLast.{is_accepted, grants_check, IsMemoryLast, IsRoomDue, IsUnrefused, IsEventUnrefused}
use Rattle.node_core.specs.Steps.{answer_of_check}
use Rattle.node_core.proofs.GrantCommands.{IsGrowing, grant_late, withdraw_late}
use Rattle.node_core.proofs.Taking.{front_given}
use Rattle.node_core.proofs.Views.{view_is}
use Rattle.row_steps.specs.Beside.{SharedTables, beside_of}

-- a Peek that passed its check
peek_late : (node : ℕ) (line : WorkLine) (grants : List StandingGrant) (bytes : ObjectId → List ℕ) (row : Row) (contents : Contents) (session : ℕ) (id : ObjectId) (offset n : ℕ) → IsShown row (beside_of line grants bytes row.job) contents
    → peek_check grants row.job id (length (bytes id)) offset n ≡ None
    → IsGrowing node row (beside_of line grants bytes row.job) contents session (command.Peek id offset n)
peek_late node line grants bytes row contents session id offset n h passed =
    let before = seen row (beside_of line grants bytes row.job) contents in
    ap (is_more (work_has_begun before (view_step node before (input.Call session (command.Peek id offset n)))))
    (sym (peeks node line grants bytes row contents session id offset n h).reply ∙ ap (λ o. option_map_or reply.Refused o (reply.Bytes (take n (drop offset (bytes id))))) passed)

module _ (node : ℕ) (row : Row) (beside : SharedTables) (contents : Contents) (session : ℕ) (h : IsShown row beside contents) where
  -- that a command is due more than a refusal, where it is the grants that say so, or the plan for room
  abbrev pub IsLateBeside : Command (List ℕ) → Type 0
  IsLateBeside (command.Create id kind n) = IsGrowing node row beside contents session (command.Create id kind n)
  IsLateBeside (command.Get id) = IsGrowing node row beside contents session (command.Get id)
  IsLateBeside (command.Grant id target) = IsGrowing node row beside contents session (command.Grant id target)
  IsLateBeside (command.Withdraw id target) = IsGrowing node row beside contents session (command.Withdraw id target)
  IsLateBeside (command.Peek id offset n) = IsGrowing node row beside contents session (command.Peek id offset n)
  IsLateBeside _ = Unit {0}

  row_late : (c : Command (List ℕ)) → IsUnrefused row row.job session c → IsLateBeside c → IsGrowing node row beside contents session c
  row_late (command.Create id kind n) u p = p
  row_late (command.Seal id) u p = seal_late node row beside contents session h id u.own u.passed
  row_late (command.Get id) u p = p
  row_late (command.Read id offset n) u p = read_late node row beside contents session h id offset n u.own u.passed
  row_late command.List u p = list_late node row beside contents session h
  row_late (command.Write id offset bytes) u p = absurd (let g = u.grows in cc)
  row_late (command.Release id) u p = absurd (let g = u.grows in cc)
  row_late command.Usage u p = absurd (let g = u.grows in cc)
  row_late command.Leave u p = leave_late node row beside contents session h
  row_late (command.Unpin id task) u p = unpin_late node row beside contents session h id task u.own u.passed
  row_late (command.Borrow id task) u p = borrow_late node row beside contents session h id task u.own u.passed
  row_late (command.GiveUp id task) u p = give_up_late node row beside contents session h id task u.own u.passed
  row_late (command.Delete id) u p = delete_late node row beside contents session h id u.own u.passed
  row_late (command.EndTask task) u p = end_task_late node row beside contents session h task u.passed
  row_late (command.Grant id target) u p = p
  row_late (command.Withdraw id target) u p = p
  row_late (command.Peek id offset n) u p = p

-- what a row is due beside its own job's works is due beside the works of a job of that number
due_beside : (node : ℕ) (line : WorkLine) (grants : List StandingGrant) (bytes : ObjectId → List ℕ) (job : ℕ) (row : Row) (contents : Contents) (session : ℕ) → row.job ≡ job → IsShown row (beside_of line grants bytes job) contents
    → (c : Command (List ℕ)) → IsDueMore node row line c → IsGrowing node row (beside_of line grants bytes job) contents session c
due_beside node line grants bytes job row contents session own h c due =
    subst (λ j. IsGrowing node row (beside_of line grants bytes j) contents session c) own
    (due session grants bytes contents (subst (λ j. IsShown row (beside_of line grants bytes j) contents) (sym own) h))

-- whatever the command is
late_beside : (node : Hosted) (job : JobNo) (row : Row) (contents : Contents) (session : ℕ) (h : IsShown row (beside_at node job.0) contents) → row.job ≡ job.0
    → (c : Command (List ℕ)) → grants_check node row job.0 c ≡ None → IsRoomDue node.number row node.works c → IsLateBeside node.number row (beside_at node job.0) contents session h c
late_beside node job row contents session h own (command.Create id kind n) passed due = due_beside node.number node.works node.grants (bytes_here node.rows) job.0 row contents session own h (command.Create id kind n) due
late_beside node job row contents session h own (command.Get id) passed due = due_beside node.number node.works node.grants (bytes_here node.rows) job.0 row contents session own h (command.Get id) due
late_beside node job row contents session h own (command.Grant id target) passed due = grant_late node.number node.works node.grants (bytes_here node.rows) job row contents session id target own h passed
late_beside node job row contents session h own (command.Withdraw id target) passed due = withdraw_late node.number node.works node.grants (bytes_here node.rows) job row contents session id target own h passed
late_beside node job row contents session h own (command.Peek id offset n) passed due =
    subst (λ j. IsGrowing node.number row (beside_at node j) contents session (command.Peek id offset n)) own
    (peek_late node.number node.works node.grants (bytes_here node.rows) row contents session id offset n
    (subst (λ j. IsShown row (beside_at node j) contents) (sym own) h) (subst (λ j. peek_check node.grants j id (length (bytes_here node.rows id)) offset n ≡ None) (sym own) passed))
late_beside node job row contents session h own _ passed due = tt

pub event_late : (node : Hosted) (e : Event) → IsEventUnrefused node e → IsMemoryLast node (Own e)
event_late node (event.Admit job quota key) u v shows = ap (λ check. is_accepted (answer_of_check check)) u
event_late node (event.JobEnd job) u v shows = ap (λ check. is_accepted (answer_of_check check)) u
event_late node (event.Call job session c) u v shows =
    let beside = beside_at node job.0 in
    let r : IsRowView u.row beside job.0 (v job.0) = subst (IsViewBy node.admissions.greatest beside job.0 (v job.0)) u.found (shows job.0).by_row in
    subst (λ w. may_grow w (view_step node.number w (input.Call session c)) ≡ true) (sym (view_is u.row beside job.0 (v job.0) r))
    (row_late node.number u.row beside (v job.0).contents session r.shown c (subst (λ n. IsUnrefused u.row n session c) (sym r.own) u.unrefused)
    (late_beside node job u.row (v job.0).contents session r.shown r.own c u.by_grants (u.by_room r.own)))
event_late node (event.Requota job quota) u v shows = ap (λ check. is_accepted (answer_of_check check)) (u (v job.0) (shows job.0))
event_late node event.Take u v shows = ap is_accepted (front_given node u.asked u.first u.row u.found v shows).1
event_late node (event.Finish job number a) u v shows = absurd u
