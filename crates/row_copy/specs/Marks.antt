-- What happens to a copy: of each mark, what it makes of the copy, when the copy can take it, and whether it lies where it lay.
use Rattle.std.specs.Prelude.{◌≡◌, Bool, true, false, ◌&&◌, is_some}
use Rattle.private_store.specs.rules.Copies.{is_created}
use Rattle.private_store.specs.laws.Invariants.{is_fetching, is_restoring}
use Rattle.row_copy.specs.declared.marks.Mark.{Mark}
use Rattle.row_copy.specs.declared.marks.Mark.TheVariants as mark
use Rattle.row_copy.specs.Arriving.{after_chunk, after_last_chunk, after_failed_fetch}
use Rattle.row_copy.specs.CopyViews.{CopyView, after_leave, after_seal, after_unpin, after_give_up, after_doom, with_granted, after_fault_reported, spill_begun_if, after_write, after_restore, after_failed_restore, after_placing, CanAwait, after_eviction}
use Rattle.row_copy.specs.Usages.{is_spilling}

-- what it makes of the copy
abbrev pub marked_by : Mark → CopyView → CopyView
marked_by (mark.Left session) = after_leave session
marked_by (mark.Sealed digest) = after_seal digest
marked_by mark.Unpinned = after_unpin
marked_by (mark.GivenUp task) = after_give_up task
marked_by mark.Doomed = after_doom
marked_by (mark.Granted granted) = with_granted granted
marked_by mark.FaultTold = after_fault_reported
marked_by mark.SpillBegun = spill_begun_if
marked_by (mark.Written number failed) = after_write number failed
marked_by mark.Restored = after_restore
marked_by (mark.Lost fault) = after_failed_restore fault
marked_by (mark.Placed offset awaited) = after_placing awaited offset
marked_by mark.Unplaced = after_eviction
marked_by (mark.GapClosed number index from n) = after_chunk number from index n
marked_by mark.Brought = after_last_chunk
marked_by (mark.FetchFailed fault) = after_failed_fetch fault

-- when the copy can take it: always, but for these
abbrev pub CanTake : Mark → CopyView → Type 0
CanTake (mark.Sealed digest) kept = is_created kept.copy.state ≡ true
CanTake (mark.Written number failed) kept = is_spilling kept ≡ true
CanTake mark.Restored kept = is_restoring kept.copy.state ≡ true
CanTake (mark.Lost fault) kept = is_restoring kept.copy.state ≡ true
CanTake (mark.Placed offset awaited) kept = CanAwait awaited kept
CanTake mark.Brought kept = (is_fetching kept.copy.state && is_some kept.digest) ≡ true
CanTake (mark.FetchFailed fault) kept = is_fetching kept.copy.state ≡ true
CanTake _ kept = Unit {0}

-- whether the copy lies where it lay: after all but these
abbrev pub lies_still : Mark → Bool
lies_still (mark.Lost fault) = false
lies_still (mark.Placed offset awaited) = false
lies_still mark.Unplaced = false
lies_still (mark.FetchFailed fault) = false
lies_still _ = true
