-- Grant and Withdraw on the row of a job: why a Grant is refused, and the steps of the row beside the grants that stand then.
use Rattle.std.specs.Prelude.{◌≡◌, ℕ, ◌==◌, Bool, if◌then◌else◌, List, Option, None}
use Rattle.std.specs.List.{list_any}
use Rattle.obj_id.specs.declared.ids.JobNo.{JobNo}
use Rattle.obj_id.specs.declared.ids.ObjectId.{ObjectId}
use Rattle.obj_id.specs.declared.commands.Command.TheVariants as command
use Rattle.obj_id.specs.declared.refusals.Refusal.{Refusal}
use Rattle.private_store.specs.declared.inputs.Input.TheVariants as input
use Rattle.private_store.specs.rules.Contents.{Contents}
use Rattle.private_store.specs.rules.Grants.{StandingGrant, with_grant, grants_left, is_withdrawn}
use Rattle.spill_work.specs.Line.{WorkLine}
use Rattle.grants.specs.Table.{AreGrants, is_first, grant_check as table_check, withdraw_check}
use Rattle.row_commands.specs.Granting.{row_grant_check}
use Rattle.row_commands.specs.Notes.{beside_rest}
use Rattle.job_row.specs.Row.{Row}
use Rattle.row_steps.specs.Shown.{IsShown, RowGiven, RowStep}
use Rattle.row_steps.specs.Beside.{beside_of}

-- where this is what the table of grants says: of another job's object the table alone decides
abbrev pub grant_refusal : Row → ℕ → ObjectId → ℕ → Option Refusal → Option Refusal
grant_refusal row job id target table = if id.job.0 == job then row_grant_check row id target table else table

-- a Grant that nothing refuses: beside the row the new grant stands as well
abbrev pub TakesGrant : Row → ℕ → ℕ → ObjectId → JobNo → RowGiven → Row → Type 0
TakesGrant old job session id target response new =
    (node : ℕ) (line : WorkLine) (grants : List StandingGrant) (bytes : ObjectId → List ℕ) (contents : Contents) → old.job ≡ job
    → grant_refusal old job id target.0 (table_check grants job id target.0) ≡ None → IsShown old (beside_of line grants bytes job) contents
    → RowStep node old (beside_of line grants bytes job) contents (input.Call session (command.Grant id target)) response new (beside_of line (with_grant grants id job target.0) bytes job)

-- a Withdraw of a grant that stood, where grants of the object from its own job are left or none
abbrev pub TakesWithdraw : Row → ℕ → ℕ → ObjectId → JobNo → Bool → RowGiven → Row → Type 0
TakesWithdraw old job session id target granted response new =
    (node : ℕ) (line : WorkLine) (grants : List StandingGrant) (bytes : ObjectId → List ℕ) (contents : Contents) → AreGrants grants → old.job ≡ job
    → withdraw_check grants job id target.0 ≡ None → granted ≡ list_any (is_first id) (grants_left (is_withdrawn job id target.0) grants)
    → IsShown old (beside_of line grants bytes job) contents
    → RowStep node old (beside_of line grants bytes job) contents (input.Call session (command.Withdraw id target)) response new (beside_rest line (is_withdrawn job id target.0) grants bytes job)
