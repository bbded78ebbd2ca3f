-- What making room came to, for whatever step waits for it.
use Rattle.std.specs.Prelude.{◌≡◌, ℕ, Bool, true, false, List, None, is_ok}
use Rattle.obj_id.specs.declared.ids.ObjectId.{ObjectId}
use Rattle.obj_id.specs.declared.commands.Reply.{Reply}
use Rattle.obj_id.specs.declared.commands.Reply.TheVariants as reply
use Rattle.obj_id.specs.declared.refusals.Refusal.{Refusal}
use Rattle.private_store.specs.declared.inputs.Input.{Input}
use Rattle.private_store.specs.rules.Shape.{Shape, Change}
use Rattle.private_store.specs.rules.Contents.{Contents, View, judge, bytes_brought, digest_brought, bytes_received}
use Rattle.private_store.specs.rules.Grants.{StandingGrant}
use Rattle.private_store.specs.rules.Room.{make_room}
use Rattle.private_store.specs.rules.Change.{erasing, in_room}
use Rattle.private_store.specs.rules.Step.{step}
use Rattle.spill_work.specs.Line.{WorkLine}
use Rattle.job_row.specs.Evicting.{MayGo, IsPlacement}
use Rattle.job_row.specs.Row.{Row}
use Rattle.room_commands.specs.RoomPlans.{MakesPlace, planned_by, refuses}
use Rattle.row_steps.specs.Shown.{seen, only, IsShown, RowStep}
use Rattle.room_commands.specs.declared.room.MadeRoom.{MadeRoom}
use Rattle.room_commands.specs.declared.room.MadeRoom.TheVariants.{Place, Refused}
use Rattle.row_steps.specs.Beside.{SharedTables, beside_of, shape_of}

-- an input that brings no contents, as a Create or a Get
pub record BringsNothing (node : ℕ) (before : View) (x : Input) : Type 0 where
  pub bytes : (r : Reply ℕ) → bytes_brought before x (judge node before x) r ≡ None
  pub digests : (r : Reply ℕ) → digest_brought node before x r ≡ None
  pub received : bytes_received x ≡ None

-- each step that waits for room for n bytes answers this, and that is all it does
pub record TellsRoom (old : Row) (before : SharedTables) (contents : Contents) (n : ℕ) (r : Refusal) (new : Row) (after : SharedTables) : Type 0 where
  pub tells : (node : ℕ) (x : Input) (f : Shape → ℕ → Change) → BringsNothing node (seen old before contents) x
      → (is_ok (make_room old.order (shape_of old before) n).offset ≡ false
      → step old.order (shape_of old before) (judge node (seen old before contents) x) ≡ erasing (shape_of old before) (in_room (make_room old.order (shape_of old before) n) f))
      → RowStep node old before contents x (only (reply.Refused r)) new after

-- what was made is what room for n bytes does
abbrev pub IsRoomMade : MadeRoom → Row → SharedTables → Contents → ℕ → Row → SharedTables → Type 0
IsRoomMade (Place placement) old before contents n new after = MakesPlace (make_room old.order (shape_of old before) n) (shape_of old before) n placement.victims
IsRoomMade (Refused refusal) old before contents n new after = TellsRoom old before contents n refusal new after

-- where there is a place once copies are evicted these may go, and nothing has changed yet
abbrev pub WaitsForPlace : MadeRoom → Row → WorkLine → ℕ → Row → WorkLine → Type 0
WaitsForPlace (Place placement) old before n new after = (new ≡ old) × (after ≡ before) × MayGo old.copies placement.victims × IsPlacement old n placement
WaitsForPlace (Refused refusal) old before n new after = Unit {0}

-- the plan for room for n bytes in this row, beside this line of works, is no refusal
abbrev pub IsPlannedFor : Row → WorkLine → ℕ → Type 0
IsPlannedFor row line n =
    (grants : List StandingGrant) (bytes : ObjectId → List ℕ) (contents : Contents) → IsShown row (beside_of line grants bytes row.job) contents
    → refuses (planned_by row.order (shape_of row (beside_of line grants bytes row.job)) n) ≡ false

-- whether there is none
abbrev pub tells_refusal : MadeRoom → Bool
tells_refusal (Place placement) = false
tells_refusal (Refused refusal) = true
