-- What a node holds, and which view of each job it shows.
use Rattle.std.specs.Prelude.{◌≡◌, ℕ, ◌<◌, nat_le, true, false, List, [], Option, Some, None}
use Rattle.std.specs.List.{list_all}
use Rattle.std.specs.Map.{keys_of, lookup}
use Rattle.std.specs.Option.{option_map_or}
use Rattle.obj_id.specs.declared.ids.JobNo.{JobNo}
use Rattle.obj_id.specs.declared.ids.ObjectId.{ObjectId}
use Rattle.private_store.specs.rules.Jobs.{same_job}
use Rattle.private_store.specs.rules.Shape.{Life, Shape, not_begun, unbegun}
use Rattle.private_store.specs.rules.Events.{is_live}
use Rattle.private_store.specs.rules.Contents.{View}
use Rattle.private_store.specs.rules.Grants.{StandingGrant}
use Rattle.private_store.specs.rules.Private.{no_contents}
use Rattle.spill_work.specs.Line.{WorkLine}
use Rattle.grants.specs.Table.{AreGrants}
use Rattle.job_admission.specs.Admissions.{Admissions}
use Rattle.row_commands.specs.Granting.{row_bytes}
use Rattle.job_row.specs.Row.{Row}
use Rattle.row_steps.specs.Shown.{IsShown}
use Rattle.row_steps.specs.Beside.{SharedTables, beside_of, received_bytes, shape_of}

pub record Hosted : Type 0 where
  -- the node's own number
  pub number : ℕ
  pub admissions : Admissions
  -- of all jobs
  pub works : WorkLine
  -- the standing grants, oldest first
  pub grants : List StandingGrant
  -- of the live jobs, in the order of their admission
  pub rows : List (JobNo × Row)

-- the job's row, where it is live
abbrev pub row_at : Hosted → JobNo → Option Row
row_at node job = lookup (same_job job) node.rows

-- the live jobs are those that have a row, and no number is above the greatest
pub record AreHosted (a : Admissions) (rows : List (JobNo × Row)) : Type 0 where
  pub jobs : keys_of rows ≡ keys_of a.live
  pub within : list_all (λ job. nat_le job.0 a.greatest) (keys_of a.live) ≡ true

-- what is so of every node: its grants are a table
pub record IsHosted (a : Admissions) (grants : List StandingGrant) (rows : List (JobNo × Row)) : Type 0 where
  pub jobs : AreHosted a rows
  pub table : AreGrants grants

-- ---- bytes

-- of an object, by the row of its own job, at a node with these rows
abbrev pub bytes_here : List (JobNo × Row) → ObjectId → List ℕ
bytes_here rows id = option_map_or (λ row. row_bytes row id) (lookup (same_job id.job) rows) []

-- ---- views

-- what a job's row is shown beside
abbrev pub beside_at : Hosted → ℕ → SharedTables
beside_at node job = beside_of node.works node.grants (bytes_here node.rows) job

-- the row and what stands beside it show the view of a live job
pub record IsRowView (row : Row) (beside : SharedTables) (job : ℕ) (view : View) : Type 0 where
  pub own : row.job ≡ job
  pub shape : view.shape ≡ shape_of row beside
  pub order : view.order ≡ row.order
  pub shown : IsShown row beside view.contents

-- a store with nothing but what others granted
abbrev pub empty_shape : ℕ → Life → SharedTables → Shape
empty_shape job life beside = record (unbegun job) { life = life; received = beside.received }

abbrev pub empty_view : ℕ → Life → SharedTables → View
empty_view job life beside = record { shape = empty_shape job life beside; order = []; contents = record no_contents { received = received_bytes beside } }

-- a job that isn't live has a store that isn't, with nothing but what others granted
pub record IsBare (greatest : ℕ) (beside : SharedTables) (job : ℕ) (view : View) : Type 0 where
  pub life : Life
  pub is : view ≡ empty_view job life beside
  pub dead : is_live (empty_shape job life beside) ≡ false
  -- one whose number is above all that were admitted here has not begun
  pub fresh : greatest < job → life ≡ not_begun
  -- and the line has no work of it, and no grant is its gift
  pub works : beside.works ≡ []
  pub used : beside.used ≡ 0
  pub given : beside.given ≡ []

-- the view of a job that has this row, or none
abbrev pub IsViewBy : ℕ → SharedTables → ℕ → View → Option Row → Type 0
IsViewBy greatest beside job view (Some row) = IsRowView row beside job view
IsViewBy greatest beside job view None = IsBare greatest beside job view

-- the node shows this view of the job
pub record Shows (node : Hosted) (job : ℕ) (view : View) : Type 0 where
  pub by_row : IsViewBy node.admissions.greatest (beside_at node job) job view (row_at node (record { 0 = job }))

-- and one of each job
abbrev pub ShowsAll : Hosted → (ℕ → View) → Type 0
ShowsAll node v = (job : ℕ) → Shows node job (v job)
