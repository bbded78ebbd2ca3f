-- When a command may want memory: not where a refusal is all that its step comes to.
use Rattle.std.specs.Prelude.{◌≡◌, ℕ, nat_lt, Bool, true, false, ◌&&◌, ◌||◌, List, length}
use Rattle.obj_id.specs.declared.ids.ObjectId.{ObjectId}
use Rattle.obj_id.specs.declared.commands.Command.{Command}
use Rattle.obj_id.specs.declared.commands.Reply.{Reply}
use Rattle.obj_id.specs.declared.commands.Reply.TheVariants as reply
use Rattle.obj_id.specs.declared.refusals.Refusal.{Refusal}
use Rattle.obj_id.specs.declared.refusals.Refusal.TheVariants.{Pending}
use Rattle.private_store.specs.declared.inputs.Input.TheVariants as input
use Rattle.private_store.specs.rules.Contents.{Contents, View}
use Rattle.private_store.specs.rules.Grants.{StandingGrant}
use Rattle.private_store.specs.rules.Private.{Outcome, view_step}
use Rattle.spill_work.specs.Line.{WorkLine}
use Rattle.job_row.specs.Row.{Row}
use Rattle.row_steps.specs.Shown.{seen, IsShown}
use Rattle.row_steps.specs.Beside.{beside_of}

abbrev pub is_pending : Refusal → Bool
is_pending Pending = true
is_pending _ = false

-- whether an answer is more than a refusal: who is to ask again may have begun something
abbrev pub is_more : {P : Type 0} → Bool → Reply P → Bool
is_more begun (reply.Refused refusal) = is_pending refusal && begun
is_more begun _ = true

-- whether a step asked for a work, or sends something
abbrev pub work_has_begun : View → Outcome → Bool
work_has_begun before after = nat_lt before.shape.works_asked after.view.shape.works_asked || nat_lt 0 (length after.posts)

-- whether a command whose step this is may want memory
abbrev pub may_grow : View → Outcome → Bool
may_grow before after = is_more (work_has_begun before after) after.reply

-- the command is due more than a refusal on this row beside this line of works, whatever else stands beside it
abbrev pub IsDueMore : ℕ → Row → WorkLine → Command (List ℕ) → Type 0
IsDueMore node row line c =
    (session : ℕ) (grants : List StandingGrant) (bytes : ObjectId → List ℕ) (contents : Contents) → IsShown row (beside_of line grants bytes row.job) contents
    → may_grow (seen row (beside_of line grants bytes row.job) contents) (view_step node (seen row (beside_of line grants bytes row.job) contents) (input.Call session c)) ≡ true
