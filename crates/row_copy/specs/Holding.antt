-- A hold that was asked for: what was answered, and what is left.
use Rattle.std.specs.Prelude.{◌≡◌, ℕ, true, false, Some, None}
use Rattle.memory_growth.specs.declared.OutOfMemory.{OutOfMemory}
use Rattle.obj_id.specs.declared.refusals.Refusal.{Refusal}
use Rattle.obj_id.specs.declared.refusals.Failure.{Failure}
use Rattle.obj_id.specs.declared.refusals.Failure.TheVariants.{Refused, Memory}
use Rattle.row_copy.specs.Checks.{hold_check_of}
use Rattle.row_copy.specs.CopyViews.{CopyView, is_ready, after_hold}

-- the copy is ready, and has one more hold; n is its length
pub record IsHeld (old : CopyView) (session n : ℕ) (new : CopyView) : Type 0 where
  pub ready : is_ready old.copy ≡ true
  pub passed : hold_check_of old ≡ None
  pub length : n ≡ old.copy.length
  pub copy : new ≡ after_hold session old

-- it isn't ready
pub record IsUnready (old new : CopyView) : Type 0 where
  pub unready : is_ready old.copy ≡ false
  pub same : new ≡ old

-- it is ready, and can't have one more
pub record IsHoldRefused (old : CopyView) (failure : Failure) (new : CopyView) : Type 0 where
  pub ready : is_ready old.copy ≡ true
  pub refused : (r : Refusal) → failure ≡ Refused r → hold_check_of old ≡ Some r
  pub late : (m : OutOfMemory) → failure ≡ Memory m → hold_check_of old ≡ None
  pub same : new ≡ old
