-- Bytes of an object that are lent to a session, as the view of its job has them.
use Rattle.std.specs.Prelude.{◌≡◌, ℕ, ◌==◌, not, if◌then◌else◌, List, Option, Some, None}
use Rattle.obj_id.specs.declared.ids.ObjectId.{ObjectId}
use Rattle.obj_id.specs.declared.refusals.Refusal.{Refusal}
use Rattle.obj_id.specs.declared.refusals.Refusal.TheVariants.{NotAdmitted, NotGranted}
use Rattle.private_store.specs.rules.Shape.{Shape}
use Rattle.private_store.specs.rules.Events.{is_live}
use Rattle.private_store.specs.rules.Contents.{View}
use Rattle.job_row.specs.Checks.{lend_check}
use Rattle.row_steps.specs.Shown.{IsLent}

-- why a session isn't lent an object's bytes
abbrev pub borrowed_check : Shape → ℕ → ObjectId → Option Refusal
borrowed_check store session id =
    if not (is_live store) then Some NotAdmitted else
    (if not (id.job.0 == store.job) then Some NotGranted else lend_check store.copies session id)

-- the session is lent the object's bytes, all of them
pub record IsBorrowed (view : View) (session : ℕ) (id : ObjectId) (bytes : List ℕ) : Type 0 where
  pub passed : borrowed_check view.shape session id ≡ None
  pub lent : IsLent view.shape.copies view.contents session id bytes
