-- Why a command can't be carried out on a copy, in the order of its checks.
use Rattle.std.specs.Prelude.{ℕ, Bool, if◌then◌else◌, List, ◌∷◌, Option, Some, ◌≡◌, not}
use Rattle.obj_id.specs.declared.refusals.Refusal.{Refusal}
use Rattle.obj_id.specs.declared.refusals.Refusal.TheVariants.{Absent, NotResident}
use Rattle.obj_id.specs.declared.ids.TaskNo.{TaskNo}
use Rattle.private_store.specs.rules.Shape.{Copy, Fetch, Phase}
use Rattle.private_store.specs.rules.Commands.{hold_checks, release_checks, borrow_checks, is_sealed_primary}
use Rattle.private_store.specs.rules.Shared.{first_refusal}
use Rattle.row_copy.specs.CopyViews.{CopyView}

-- a doomed copy isn't seen
abbrev pub unless_doomed : CopyView → List (Bool × Refusal) → List (Bool × Refusal)
unless_doomed kept checks = (kept.copy.doomed, Absent) ∷ checks

-- of a copy that is there
abbrev pub release_check_of : CopyView → ℕ → Option Refusal
release_check_of kept session = first_refusal (release_checks kept.copy session)

-- whether one more hold is too many
abbrev pub hold_check_of : CopyView → Option Refusal
hold_check_of kept = first_refusal (hold_checks kept.copy)

-- of a copy that is there and isn't doomed
abbrev pub borrow_check_of : CopyView → TaskNo → Option Refusal
borrow_check_of kept task = first_refusal (borrow_checks kept.copy task)

-- the copy is in a fetch, and that in this phase
pub record IsInPhase (copy : Copy) (phase : Phase) : Type 0 where
  pub fetch : Fetch
  pub found : copy.fetch ≡ Some fetch
  pub is : fetch.phase ≡ phase

-- of a copy that is there, where this is what the table of grants says
abbrev pub grant_check_of : CopyView → Option Refusal → Option Refusal
grant_check_of kept table =
    if kept.copy.doomed then Some Absent else
    (if not (is_sealed_primary kept.copy) then Some NotResident else table)
