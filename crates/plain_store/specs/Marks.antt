-- What happens to a copy, as the rules' table of marks has it.
use Rattle.std.specs.Prelude.{ℕ}
use Rattle.private_store.specs.rules.Shape.{Fetch, locating}
use Rattle.private_store.specs.rules.Marks.{Mark as StoreMark}
use Rattle.private_store.specs.rules.Marks as mark
use Rattle.plain_store.specs.declared.marks.Mark.{Mark}
use Rattle.plain_store.specs.declared.marks.Mark.TheVariants as plain

-- a fetch of this number; a mark gives it another phase
abbrev pub fetch_under : ℕ → Fetch
fetch_under number = record { number = number; phase = locating }

abbrev pub mark_of : Mark → StoreMark
mark_of plain.Sealed = mark.sealed
mark_of (plain.Left session) = mark.held session 0
mark_of plain.Unpinned = mark.unpinned
mark_of (plain.GivenUp task) = mark.given_up task
mark_of plain.Doomed = mark.doomed
mark_of plain.Evicted = mark.evicted
mark_of (plain.Backed number) = mark.backed number
mark_of (plain.Restoring offset) = mark.restoring offset
mark_of plain.Restored = mark.restored
mark_of (plain.Lost fault) = mark.lost fault
mark_of plain.FaultTold = mark.fault_told
mark_of (plain.Located number source) = mark.located (fetch_under number) source
mark_of (plain.Lacking number source missing) = mark.lacking (fetch_under number) source missing.items
mark_of plain.Brought = mark.brought
mark_of (plain.FetchFailed number fault) = mark.fetch_failed (fetch_under number) fault
