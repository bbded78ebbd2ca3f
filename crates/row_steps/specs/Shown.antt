-- Which contents a row shows of its job's store, and what it is that a row takes the private step.
use Rattle.std.specs.Prelude.{◌≡◌, ℕ, true, None, if◌then◌else◌, List, [], find, take, length, Option, Some, unwrap_or, option_map}
use Rattle.obj_id.specs.declared.ids.ObjectId.{ObjectId}
use Rattle.obj_id.specs.declared.works.DeviceKey.{DeviceKey}
use Rattle.obj_id.specs.declared.works.Extent.{Extent}
use Rattle.obj_id.specs.declared.works.WorkKind.{WorkKind}
use Rattle.obj_id.specs.declared.works.WorkKind.TheVariants.{Write, Read}
use Rattle.obj_id.specs.declared.commands.Reply.{Reply}
use Rattle.obj_id.specs.Ids.{same_id}
use Rattle.private_store.specs.declared.inputs.Input.{Input}
use Rattle.private_store.specs.rules.Tables.{ById, at, is_among}
use Rattle.private_store.specs.rules.Shape.{Copy, WorkInFlight}
use Rattle.private_store.specs.rules.Copies.{extent_of}
use Rattle.private_store.specs.rules.Contents.{Contents, View, bytes_at, digest_at, keeps_digest, no_digest}
use Rattle.private_store.specs.rules.Private.{Post, view_step}
use Rattle.private_store.specs.laws.Invariants.{IsViewKept, has_grant}
use Rattle.job_region.specs.Region.{region_bytes_at as placed_bytes}
use Rattle.lru_evictor.specs.Orders.{AreThere}
use Rattle.row_copy.specs.CopyViews.{CopyView}
use Rattle.job_row.specs.Checks.{lend_check}
use Rattle.job_row.specs.Row.{Row, copies_of}
use Rattle.row_steps.specs.Beside.{SharedTables, received_bytes, shape_of}

-- the work that is in flight for an object, if there is one
abbrev pub work_on : List WorkInFlight → ObjectId → Option WorkKind
work_on works id = option_map (λ w. if w.writes then Write else Read) (find (λ w. same_id id w.id) works)

-- the view of a job: its row, what stands beside it, and contents
abbrev pub seen : Row → SharedTables → Contents → View
seen row beside contents = record { shape = shape_of row beside; order = row.order; contents = contents }

-- the row shows these contents: they are what lies in its window, the digests that it keeps, and what was received
pub record IsShown (row : Row) (beside : SharedTables) (contents : Contents) : Type 0 where
  pub kept : IsViewKept (seen row beside contents)
  -- the order of use has the copies, and nothing else
  pub there : AreThere (copies_of row.copies) row.order
  pub listed : (id : ObjectId) (k : CopyView) → at row.copies id ≡ Some k → is_among row.order id ≡ true
  pub bytes : (id : ObjectId) (k : CopyView) (e : Extent) → at row.copies id ≡ Some k → extent_of k.copy ≡ Some e
      → bytes_at contents.bytes id ≡ take k.copy.length (placed_bytes e row.window.placed)
  pub digests : (id : ObjectId) (k : CopyView) → at row.copies id ≡ Some k → keeps_digest k.copy ≡ true
      → digest_at contents.digests id ≡ unwrap_or k.digest no_digest
  pub working : (id : ObjectId) (k : CopyView) → at row.copies id ≡ Some k
      → k.working ≡ work_on beside.works id
  pub granted : (id : ObjectId) (k : CopyView) → at row.copies id ≡ Some k → k.granted ≡ has_grant beside.given id
  pub received : contents.received ≡ received_bytes beside

-- what a step gives: the reply, the messages to be sent, and the device keys to be erased
pub record RowGiven : Type 0 where
  pub reply : Reply (List ℕ)
  pub posts : List Post
  pub erased : List DeviceKey

-- a reply, and nothing else
abbrev pub only : Reply (List ℕ) → RowGiven
only response = record { reply = response; posts = []; erased = [] }

-- the row takes the private step at its node on this input, whatever contents it shows
pub record RowStep (node : ℕ) (old : Row) (before : SharedTables) (contents : Contents) (x : Input) (response : RowGiven) (new : Row) (after : SharedTables) : Type 0 where
  pub shape : (view_step node (seen old before contents) x).view.shape ≡ shape_of new after
  pub order : (view_step node (seen old before contents) x).view.order ≡ new.order
  pub shown : IsShown new after (view_step node (seen old before contents) x).view.contents
  pub reply : response.reply ≡ (view_step node (seen old before contents) x).reply
  pub posts : response.posts ≡ (view_step node (seen old before contents) x).posts
  pub erased : response.erased ≡ (view_step node (seen old before contents) x).erased

-- what is lent to a session is the object's bytes, and all of them
pub record IsLent (copies : ById Copy) (contents : Contents) (session : ℕ) (id : ObjectId) (lent : List ℕ) : Type 0 where
  pub passed : lend_check copies session id ≡ None
  pub bytes : lent ≡ bytes_at contents.bytes id
  pub whole : (copy : Copy) → at copies id ≡ Some copy → length lent ≡ copy.length
