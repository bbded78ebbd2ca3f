-- A Peek leaves the node as it is, and answers the bytes of an object that its own job's row has.
use Rattle.std.proofs.Common.{◌≡◌, ℕ, Bool, true, false, cond, ◌||◌, List, [], ◌∷◌, length, take, drop, Option, Some, None, is_some, refl, sym, ap, subst, ◌∙◌}
use Rattle.std.specs.Option.{option_map_or}
use Rattle.std.specs.List.{find, list_any}
use Rattle.std.specs.Map.{lookup}
use Rattle.obj_id.specs.declared.commands.Command.TheVariants as command
use Rattle.obj_id.specs.declared.commands.Reply.TheVariants as reply
use Rattle.obj_id.specs.declared.ids.JobNo.{JobNo}
use Rattle.obj_id.specs.declared.ids.ObjectId.{ObjectId}
use Rattle.obj_id.specs.declared.refusals.Refusal.{Refusal}
use Rattle.private_store.specs.declared.inputs.Input.TheVariants as input
use Rattle.private_store.specs.declared.schedules.Event.TheVariants as event
use Rattle.private_store.specs.rules.Grants.{StandingGrant}
use Rattle.private_store.specs.rules.Jobs.{same_job}
use Rattle.spill_work.specs.Line.{WorkLine}
use Rattle.grants.specs.Table.{AreGrants}
use Rattle.job_admission.specs.Admissions.{Admissions}
use Rattle.row_commands.specs.Granting.{peek_check, peek_reply}
use Rattle.job_row.specs.Row.{Row}
use Rattle.row_steps.specs.Shown.{IsShown, only, RowStep}
use Rattle.row_commands.proofs.ForCallers.{peeks}
use Rattle.node_core.specs.Hosted.{Hosted, row_at, bytes_here}
use Rattle.node_core.specs.MemoryLast.{IsCallUnrefused}
use Rattle.node_core.specs.OneJob.{NodeStepOne}
use Rattle.node_core.proofs.Lines.{asked_nothing}
use Rattle.node_core.proofs.Listed.{row_stays}
use Rattle.node_core.proofs.Views.{node_of, call_steps}
use Rattle.row_steps.specs.Beside.{beside_of}

-- there is one that passes exactly if one is found
pub found_any : (test : StandingGrant → Bool) (grants : List StandingGrant) → is_some (find test grants) ≡ list_any test grants
found_any test [] = refl
found_any test (grant ∷ grants) = by (test grant) (found_any test grants)
  where
    by : (b : Bool) → is_some (find test grants) ≡ list_any test grants → is_some (cond b (Some grant) (find test grants)) ≡ (b || list_any test grants)
    by true h = refl
    by false h = h

module _ (number : ℕ) (a : Admissions) (line : WorkLine) (grants : List StandingGrant) (table : AreGrants grants) (job : JobNo) (session : ℕ) (id : ObjectId) (offset n : ℕ) (rows : List (JobNo × Row)) (row : Row)
    (found : lookup (same_job job) rows ≡ Some row) where
  peek_steps : NodeStepOne (node_of number a line grants rows) (event.Call job session (command.Peek id offset n)) (only (peek_reply grants job.0 id (bytes_here rows id) offset n)) (node_of number a line grants rows)
  peek_steps =
      call_steps number a line grants job session (command.Peek id offset n) table rows rows row row line (only (peek_reply grants job.0 id (bytes_here rows id) offset n)) found (row_stays rows job row found) (asked_nothing line job)
      (λ contents own shown.
      let bytes = bytes_here rows in
      subst (λ j. RowStep number row (beside_of line grants bytes j) contents (input.Call session (command.Peek id offset n)) (only (peek_reply grants j id (bytes id) offset n)) row (beside_of line grants bytes j)) own
      (peeks number line grants bytes row contents session id offset n (subst (λ j. IsShown row (beside_of line grants bytes j) contents) (sym own) shown)))
      (λ other differ. record { works = refl; used = refl })

-- as the checks of a node tell of it
module _ (node : Hosted) (number : ℕ) (a : Admissions) (line : WorkLine) (grants : List StandingGrant) (table : AreGrants grants) (rows : List (JobNo × Row)) (is : node_of number a line grants rows ≡ node)
    (job : JobNo) (session : ℕ) (id : ObjectId) (offset n : ℕ) (row : Row) (found : lookup (same_job job) rows ≡ Some row)
    (whole : List ℕ) (same : whole ≡ bytes_here node.rows id) (o : Option Refusal) (check : o ≡ peek_check node.grants job.0 id (length whole) offset n) where
  pub peek_answers : NodeStepOne node (event.Call job session (command.Peek id offset n)) (only (option_map_or reply.Refused o (reply.Bytes (take n (drop offset whole))))) node
  peek_answers =
      subst (λ p. NodeStepOne node (event.Call job session (command.Peek id offset n)) (only (option_map_or reply.Refused p (reply.Bytes (take n (drop offset whole))))) node) (sym check)
      (subst (λ bs. NodeStepOne node (event.Call job session (command.Peek id offset n)) (only (peek_reply node.grants job.0 id bs offset n)) node) (sym same)
      (subst (λ (m : Hosted). NodeStepOne m (event.Call job session (command.Peek id offset n)) (only (peek_reply m.grants job.0 id (bytes_here m.rows id) offset n)) m) is
      (peek_steps number a line grants table job session id offset n rows row found)))

  pub peek_unrefused : o ≡ None → IsCallUnrefused node job session (command.Peek id offset n)
  peek_unrefused passed = record {
    row = row;
    found = ap (λ (m : Hosted). row_at m job) (sym is) ∙ found;
    unrefused = record { own = refl; passed = refl; grows = refl };
    by_grants = ap (λ bs. peek_check node.grants job.0 id (length bs) offset n) (sym same) ∙ sym check ∙ passed;
    by_room = λ own. tt;
  }
