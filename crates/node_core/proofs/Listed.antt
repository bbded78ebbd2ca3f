-- A List leaves the node as it is, and tells of the own copies and of what others granted.
use Rattle.std.proofs.Common.{◌≡◌, ℕ, Bool, true, false, cond, List, length, Some, refl, sym, ap, subst, ◌∙◌}
use Rattle.std.specs.Map.{lookup}
use Rattle.std.proofs.lemmas.Bool.{eqb-true}
use Rattle.obj_id.specs.declared.commands.Command.TheVariants as command
use Rattle.obj_id.specs.declared.commands.GrantedItem.{GrantedItem}
use Rattle.obj_id.specs.declared.commands.Reply.{Reply}
use Rattle.obj_id.specs.declared.ids.JobNo.{JobNo}
use Rattle.private_store.specs.declared.inputs.Input.TheVariants as input
use Rattle.private_store.specs.declared.schedules.Event.TheVariants as event
use Rattle.private_store.specs.rules.Commands.{granted_items}
use Rattle.private_store.specs.rules.Contents.{Contents}
use Rattle.private_store.specs.rules.Grants.{StandingGrant}
use Rattle.private_store.specs.rules.Jobs.{same_job}
use Rattle.spill_work.specs.Line.{WorkLine}
use Rattle.grants.specs.Table.{AreGrants}
use Rattle.grants.proofs.ForCallers.{seen_items}
use Rattle.job_admission.specs.Admissions.{Admissions}
use Rattle.job_row.specs.Row.{Row}
use Rattle.row_steps.specs.Shown.{IsShown, only, RowStep}
use Rattle.node_core.specs.Granted.{granted_here}
use Rattle.node_core.specs.Hosted.{Hosted, bytes_here, beside_at}
use Rattle.node_core.specs.MemoryLast.{IsCallUnrefused}
use Rattle.node_core.specs.OneJob.{NodeStepOne}
use Rattle.node_core.proofs.Lines.{asked_nothing}
use Rattle.node_core.proofs.Views.{node_of, call_steps}
use Rattle.row_steps.specs.Beside.{SharedTables, shape_of}

-- the rows with a row in its own place
pub row_stays : (rows : List (JobNo × Row)) (job : JobNo) (row : Row) → lookup (same_job job) rows ≡ Some row → (q : JobNo) → lookup (same_job q) rows ≡ cond (same_job job q) (Some row) (lookup (same_job q) rows)
row_stays rows job row found q = by (same_job job q) refl
  where
    by : (b : Bool) → same_job job q ≡ b → lookup (same_job q) rows ≡ cond b (Some row) (lookup (same_job q) rows)
    by false e = refl
    by true e = ap (λ n. lookup (same_job (record { 0 = n })) rows) (sym (eqb-true job.0 q.0 e)) ∙ found

module _ (number : ℕ) (a : Admissions) (line : WorkLine) (grants : List StandingGrant) (table : AreGrants grants) (job : JobNo) (session : ℕ) (rows : List (JobNo × Row)) (row : Row)
    (found : lookup (same_job job) rows ≡ Some row) (granted : List GrantedItem) (is : granted ≡ granted_here (node_of number a line grants rows) job.0) (response : Reply (List ℕ))
    (lists : (node session : ℕ) (beside : SharedTables) (contents : Contents) → IsShown row beside contents → granted ≡ granted_items (shape_of row beside)
    → RowStep node row beside contents (input.Call session command.List) (only response) row beside) where
  pub list_steps : NodeStepOne (node_of number a line grants rows) (event.Call job session command.List) (only response) (node_of number a line grants rows)
  list_steps =
      call_steps number a line grants job session command.List table rows rows row row line (only response) found (row_stays rows job row found) (asked_nothing line job)
      (λ contents own shown.
      let beside = beside_at (node_of number a line grants rows) job.0 in
      lists number session beside contents shown (is ∙ sym (seen_items (λ id. length (bytes_here rows id)) job.0 grants (shape_of row beside) refl)))
      (λ other differ. record { works = refl; used = refl })

-- a List of a live job is refused for nothing but memory
pub list_late : (number : ℕ) (a : Admissions) (line : WorkLine) (grants : List StandingGrant) (rows : List (JobNo × Row)) (job : JobNo) (session : ℕ) (row : Row) → lookup (same_job job) rows ≡ Some row
    → (node : Hosted) → node_of number a line grants rows ≡ node → IsCallUnrefused node job session command.List
list_late number a line grants rows job session row found node is =
    subst (λ n. IsCallUnrefused n job session command.List) is (record { row = row; found = found; unrefused = record { own = refl; passed = refl; grows = refl }; by_grants = refl; by_room = λ own. tt })
