-- What keeps one copy: its pin, the tasks that borrow it, and the sessions that hold it.
use Rattle.std.specs.Prelude.{◌≡◌, ℕ, ◌≤◌, ◌==◌, nat_le, Bool, true, false, not, ◌&&◌, if◌then◌else◌, List, [], ◌∷◌, ◌++◌, length, Option, Some, None}
use Rattle.obj_id.specs.declared.ids.TaskNo.{TaskNo}
use Rattle.obj_id.specs.declared.commands.Kind.{Kind}
use Rattle.obj_id.specs.declared.refusals.Refusal.{Refusal}
use Rattle.obj_id.specs.declared.refusals.Refusal.TheVariants.{Exists, Absent, NotHeld, TooMany, NotOwner}
use Rattle.private_store.specs.rules.Limits.{most_holds, most_borrowers}
use Rattle.private_store.specs.rules.Shape.{Copy}
use Rattle.obj_id.specs.Kinds.{is_primary}
use Rattle.private_store.specs.rules.Copies as copies
use Rattle.private_store.specs.rules.Marks.{with_holds, without_borrower}
use Rattle.private_store.specs.rules.Commands as commands

pub record Pinned : Type 0 where
  pub kind : Kind
  -- whether the owner task keeps the copy
  pub pinned : Bool
  -- in the order in which they came
  pub borrowers : List TaskNo
  -- how many holds each session has, by rising session
  pub holds : List (ℕ × ℕ)

-- whether there is a task
abbrev pub are_borrowing : List TaskNo → Bool
are_borrowing [] = false
are_borrowing (_ ∷ _) = true

-- what nobody keeps but its owner task, if it is a primary
abbrev pub unheld : Kind → Pinned
unheld kind = record { kind = kind; pinned = is_primary kind; borrowers = []; holds = [] }

-- a copy that is kept so: the words for copies are used of it, and read nothing else
abbrev pub copy_of : Pinned → Copy
copy_of pins = record (commands.new_copy pins.kind 0 0) { pinned = pins.pinned; borrowers = pins.borrowers; holds = pins.holds }

-- ---- the words for copies

abbrev pub pins_in_scope : Pinned → Bool
pins_in_scope pins = copies.in_scope (copy_of pins)

abbrev pub pins_are_held : Pinned → Bool
pins_are_held pins = copies.is_held (copy_of pins)

abbrev pub pins_holds_of : Pinned → ℕ → ℕ
pins_holds_of pins session = commands.holds_of (copy_of pins) session

abbrev pub pins_all_holds : Pinned → ℕ
pins_all_holds pins = commands.all_holds (copy_of pins)

abbrev pub pins_have_borrower : Pinned → TaskNo → Bool
pins_have_borrower pins task = commands.has_borrower (copy_of pins) task

-- n holds of the session, where none means no entry
abbrev pub pins_with_holds : Pinned → ℕ → ℕ → Pinned
pins_with_holds pins session n = record pins { holds = (with_holds (copy_of pins) session n).holds }

abbrev pub with_borrower : Pinned → TaskNo → Pinned
with_borrower pins task = record pins { borrowers = pins.borrowers ++ task ∷ [] }

abbrev pub pins_without_borrower : Pinned → TaskNo → Pinned
pins_without_borrower pins task = record pins { borrowers = (without_borrower (copy_of pins) task).borrowers }

-- ---- the checks

-- whether the owner task may unpin it
abbrev pub pins_unpin_check : Pinned → Bool → Option Refusal
pins_unpin_check pins owner =
    if not (is_primary pins.kind && owner) then Some NotOwner else
    (if not pins.pinned then Some NotHeld else None)

abbrev pub pins_borrow_check : Pinned → TaskNo → Option Refusal
pins_borrow_check pins task =
    if not (is_primary pins.kind) then Some NotOwner else
    (if pins_have_borrower pins task then Some Exists else
    (if nat_le most_borrowers (length pins.borrowers) then Some TooMany else None))

abbrev pub pins_give_up_check : Pinned → TaskNo → Option Refusal
pins_give_up_check pins task =
    if not (is_primary pins.kind) then Some NotOwner else
    (if not (pins_have_borrower pins task) then Some Absent else None)

abbrev pub hold_check : Pinned → Option Refusal
hold_check pins = if nat_le most_holds (pins_all_holds pins) then Some TooMany else None

abbrev pub pins_release_check : Pinned → ℕ → Option Refusal
pins_release_check pins session = if pins_holds_of pins session == 0 then Some NotHeld else None

-- ---- what always holds

-- a secondary is neither pinned nor borrowed, and there are at most 64 borrowers
pub record IsPinned (kind : Kind) (pinned : Bool) (borrowers : List TaskNo) : Type 0 where
  pub secondary : is_primary kind ≡ false → (pinned ≡ false) × (borrowers ≡ [])
  pub few_borrowers : length borrowers ≤ most_borrowers
