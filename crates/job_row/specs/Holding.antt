-- A hold that was asked for: what was answered, and what is left.
use Rattle.std.specs.Prelude.{◌≡◌, ℕ, true, false, Some, None}
use Rattle.std.specs.Option.{option_map_or}
use Rattle.memory_growth.specs.declared.OutOfMemory.{OutOfMemory}
use Rattle.obj_id.specs.declared.ids.ObjectId.{ObjectId}
use Rattle.obj_id.specs.declared.refusals.Refusal.{Refusal}
use Rattle.obj_id.specs.declared.refusals.Failure.{Failure}
use Rattle.obj_id.specs.declared.refusals.Failure.TheVariants.{Refused, Memory}
use Rattle.private_store.specs.rules.Tables.{ById, at}
use Rattle.lru_evictor.specs.Facts.{info_of, info_at}
use Rattle.lru_evictor.specs.Orders.{touched}
use Rattle.job_row.specs.declared.standing.Held.{Held}
use Rattle.row_copy.specs.Checks.{hold_check_of}
use Rattle.job_row.specs.Entries.{changed}
use Rattle.job_row.specs.InSync.{facts_in}
use Rattle.row_copy.specs.CopyViews.{CopyView, is_ready, after_hold}
use Rattle.row_copy.specs.Holding.{IsHeld}
use Rattle.job_row.specs.RowFacts.{row_facts_of}
use Rattle.job_row.specs.Row.{Row}

-- ---- of one copy

-- the copy has one more hold, and this is told of it
pub record IsHeldWithInfo (old : CopyView) (session : ℕ) (response : Held) (new : CopyView) : Type 0 where
  pub held : IsHeld old session response.length new
  pub eviction_info : response.eviction_info ≡ info_of (row_facts_of new)

-- ---- of the copies of a job, where the one of an id is meant

pub record IsHeldAt (old : ById CopyView) (session : ℕ) (id : ObjectId) (response : Held) (new : ById CopyView) : Type 0 where
  pub kept : CopyView
  pub found : at old id ≡ Some kept
  pub ready : is_ready kept.copy ≡ true
  pub passed : hold_check_of kept ≡ None
  pub length : response.length ≡ kept.copy.length
  pub eviction_info : response.eviction_info ≡ info_at (facts_in new) id
  pub copies : new ≡ changed (after_hold session) old id

-- it isn't there, or isn't ready
pub record IsUnreadyAt (old : ById CopyView) (id : ObjectId) (new : ById CopyView) : Type 0 where
  pub unready : option_map_or (λ k. is_ready k.copy) (at old id) false ≡ false
  pub same : new ≡ old

pub record IsHoldRefusedAt (old : ById CopyView) (id : ObjectId) (failure : Failure) (new : ById CopyView) : Type 0 where
  pub kept : CopyView
  pub found : at old id ≡ Some kept
  pub ready : is_ready kept.copy ≡ true
  pub refused : (r : Refusal) → failure ≡ Refused r → hold_check_of kept ≡ Some r
  pub late : (m : OutOfMemory) → failure ≡ Memory m → hold_check_of kept ≡ None
  pub same : new ≡ old

-- ---- of a row: the copy is its most recently used one as well, and n is its length

pub record IsRowHeld (old : Row) (session : ℕ) (id : ObjectId) (n : ℕ) (new : Row) : Type 0 where
  pub kept : CopyView
  pub found : at old.copies id ≡ Some kept
  pub ready : is_ready kept.copy ≡ true
  pub passed : hold_check_of kept ≡ None
  pub length : n ≡ kept.copy.length
  pub row : new ≡ record old { copies = changed (after_hold session) old.copies id; order = touched id old.order }
