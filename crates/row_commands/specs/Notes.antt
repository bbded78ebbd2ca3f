-- What other jobs' grants are to a job: the notes of a step, and what stands beside its row, or is left of its store,
-- after them.
use Rattle.std.specs.Prelude.{◌≡◌, ℕ, ◌==◌, Bool, not, List, [], map, filter}
use Rattle.obj_id.specs.declared.ids.ObjectId.{ObjectId}
use Rattle.private_store.specs.declared.inputs.Input.{Input}
use Rattle.private_store.specs.declared.inputs.Input.TheVariants as input
use Rattle.private_store.specs.rules.Tables.{ById}
use Rattle.private_store.specs.rules.Shape.{Life, Shape, Seen, unbegun}
use Rattle.private_store.specs.rules.Contents.{View}
use Rattle.private_store.specs.rules.Grants.{StandingGrant}
use Rattle.grants.specs.Table.{given_by as grants_given}
use Rattle.grants.specs.Private.{as_given}
use Rattle.spill_work.specs.Line.{WorkLine}
use Rattle.job_row.specs.Row.{Row}
use Rattle.row_steps.specs.Shown.{IsShown}
use Rattle.row_steps.specs.Beside.{SharedTables, beside_of, shape_of}

-- the row and what stands beside it show the view
pub record IsSeen (row : Row) (beside : SharedTables) (view : View) : Type 0 where
  pub shape : view.shape ≡ shape_of row beside
  pub order : view.order ≡ row.order
  pub shown : IsShown row beside view.contents

-- the end of a grant, as its grantee is notified of it
abbrev pub end_of_grant : StandingGrant → Input
end_of_grant grant = input.Withdrawn grant.id (record { 0 = grant.grantor }) grant.depth

-- of the grants that ended those to the job, as it is notified of them
abbrev pub ends_to : ℕ → List StandingGrant → List Input
ends_to job ended = map end_of_grant (filter (λ grant. grant.grantee == job) ended)

-- beside the row of a job after the own step of the one that ends grants: of what it gave, those that don't end by
-- themselves
abbrev pub beside_rest : WorkLine → (StandingGrant → Bool) → List StandingGrant → (ObjectId → List ℕ) → ℕ → SharedTables
beside_rest line test grants bytes job =
    record (beside_of line grants bytes job) { given = map as_given (filter (λ grant. not (test grant)) (grants_given job grants)) }

-- a store that isn't live: nothing but what it was granted, where objects have these bytes
abbrev pub received_shape : ℕ → Life → ById Seen → Shape
received_shape job life received = record (unbegun job) { life = life; received = received }

abbrev pub received_view : ℕ → Life → (ObjectId → List ℕ) → ById Seen → View
received_view job life bytes received =
    record {
      shape = received_shape job life received;
      order = [];
      contents = record { bytes = []; digests = []; received = map (λ e. (e.0, bytes e.0)) received };
    }
