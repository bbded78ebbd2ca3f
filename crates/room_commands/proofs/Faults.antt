-- A row takes Get of a copy that is away, and tells of its fault.
use Rattle.std.proofs.Common.{◌≡◌, ℕ, true, false, ◌==◌, ◌||◌, map, Option, Some, None, is_some, refl, sym, ap, ◌∙◌}
use Rattle.obj_id.specs.declared.ids.ObjectId.{ObjectId}
use Rattle.obj_id.specs.declared.commands.CopyState.TheVariants.{Away}
use Rattle.obj_id.specs.declared.commands.Command.TheVariants as command
use Rattle.obj_id.specs.declared.commands.Reply.TheVariants as reply
use Rattle.private_store.specs.declared.faults.Fault.{Fault}
use Rattle.private_store.specs.declared.inputs.Input.{Input}
use Rattle.private_store.specs.declared.inputs.Input.TheVariants as input
use Rattle.private_store.specs.rules.Tables.{at}
use Rattle.private_store.specs.rules.Shape.{Copy, Shape, Change}
use Rattle.private_store.specs.rules.Copies.{is_away}
use Rattle.private_store.specs.rules.Room.{set_copy}
use Rattle.private_store.specs.rules.Change.{refused, erasing}
use Rattle.private_store.specs.rules.Commands.{refusal_of, restore}
use Rattle.private_store.specs.rules.Contents.{Contents, judge}
use Rattle.private_store.specs.rules.Private.{key_of}
use Rattle.private_store.specs.rules.Step.{step}
use Rattle.private_store.specs.laws.Invariants.{is_remembered, is_restoring}
use Rattle.lru_evictor.proofs.ForCallers.{reordered-unused}
use Rattle.job_row.specs.Entries.{changed}
use Rattle.row_copy.specs.CopyViews.{CopyView, after_fault_reported}
use Rattle.job_row.specs.Row.{Row, copies_of}
use Rattle.row_steps.specs.Shown.{seen, IsShown, only, RowStep}
use Rattle.job_row.proofs.ForCallers.{at-copies_found, copies-changed}
use Rattle.row_steps.proofs.ForCallers.{there_still, bytes_stay, digests_stay, works_stay, listed_stay, keys_with, granted_stay, TakesChange, moved, received_stays}
use Rattle.room_commands.proofs.Getting.{get_at}
use Rattle.row_steps.specs.Beside.{SharedTables, shape_of}

module _ (node : ℕ) (row : Row) (beside : SharedTables) (contents : Contents) (session : ℕ) (id : ObjectId) (mine : (id.job.0 == row.job) ≡ true) (alive : is_remembered row.ended_tasks id.task ≡ false) (h : IsShown row beside contents)
    (k : CopyView) (found : at row.copies id ≡ Some k) (unmarked : k.copy.doomed ≡ false) (is : k.copy.state ≡ Away) where
  abbrev s : Shape
  s = shape_of row beside

  abbrev x : Input
  x = input.Call session (command.Get id)

  -- what Get does by the fault
  abbrev by_fault : Option Fault → Change
  by_fault o = elim o [
    | Some fault ↦ refused (set_copy s id (record k.copy { fault = None })) (refusal_of fault)
    | None ↦ restore row.order s id k.copy
  ]

  pub fault_is : (o : Option Fault) → k.copy.fault ≡ o → step row.order s (judge node (seen row beside contents) x) ≡ erasing s (by_fault o)
  fault_is o e = get_at node row beside contents session id mine alive h k found unmarked Away is ∙ ap (λ o. erasing s (by_fault o)) e

  -- what is away is on the device
  device : is_some k.copy.backed ≡ true
  device = ((h.kept.kept.shape.each id k.copy (at-copies_found row.copies id k found)).away (ap (λ st. is_away st || is_restoring st) is)).1

  module _ (fault : Fault) (faulty : k.copy.fault ≡ Some fault) where
    abbrev now : Copy
    now = (after_fault_reported k).copy

    abbrev c : Change
    c = erasing s (refused (set_copy s id now) (refusal_of fault))

    keeps : (z : CopyView) → ((after_fault_reported z).copy.offset ≡ z.copy.offset) × ((after_fault_reported z).copy.length ≡ z.copy.length)
    keeps z = (refl, refl)

    abbrev row_told : Row
    row_told = record row { copies = changed after_fault_reported row.copies id }

    m : TakesChange node row beside contents h x c (only (reply.Refused (refusal_of fault))) row_told beside
    m = record {
      shape = ap (λ t. record s { copies = t }) (sym (copies-changed after_fault_reported row.copies id k found));
      order = sym (reordered-unused row.order (copies_of row_told.copies) (there_still node row beside contents h x id k found after_fault_reported keeps row.order h.there));
      there = there_still node row beside contents h x id k found after_fault_reported keeps row.order h.there;
      listed = listed_stay node row beside contents h x id k found after_fault_reported keeps row.order h.listed;
      bytes = bytes_stay node row beside contents h x id k found after_fault_reported keeps c refl;
      digests = digests_stay node row beside contents h x id k found after_fault_reported keeps c refl refl (λ keep. keep);
      working = works_stay node row beside contents h x id k found after_fault_reported keeps refl;
      granted = granted_stay node row beside contents h x id k found after_fault_reported keeps refl;
      received = received_stays node row beside contents h x refl;
      reply = refl;
      erased = sym (ap (map (key_of row.job)) (keys_with (copies_of row.copies) id now));
    }

    -- the fault is answered, and forgotten
    pub told_once : RowStep node row beside contents x (only (reply.Refused (refusal_of fault))) row_told beside
    told_once = moved node row beside contents h x c (fault_is (Some fault) faulty) (only (reply.Refused (refusal_of fault))) row_told beside m refl
