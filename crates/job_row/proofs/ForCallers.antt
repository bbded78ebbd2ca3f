-- What the proofs of other crates cite of this one.

-- a table each entry of which was changed
pub use Rattle.job_row.proofs.AllChanged.{found_all, from_all}
-- a table with an entry changed
pub use Rattle.job_row.proofs.Changes.{changed-absent, changed-found}
-- a row's copies as its store's table has them
pub use Rattle.job_row.proofs.CopyTables.{at-copies, at-copies_found, at-copies_none, at-first, at-rest, copies-changed, copies-with, copies-without, sorted-copies}
-- copies that were evicted
pub use Rattle.job_row.proofs.Evicting.{CanGo, at-evicted, evicted_of, evictions_told, length-removals, none_erased, store_evicted}
-- where copies lie once one has given its place back
pub use Rattle.job_row.proofs.FreedPlaces.{found_left, left_placed, lost_placed}
-- the check of what is lent
pub use Rattle.job_row.proofs.LendChecks.{lend-by}
-- a sorted table has each id once
pub use Rattle.job_row.proofs.Listed.{distinct_from_sorted}
-- what is in a list
pub use Rattle.job_row.proofs.Members.{first_in, later_in, nothing_in, one_of}
-- where copies lie after a change
pub use Rattle.job_row.proofs.Places.{at_most_rounded, bytes-other, bytes-written, changed_placed, long_at, places_changed, written_placed}
-- a window in which extents were exchanged
pub use Rattle.job_row.proofs.Replacing.{Stands, at_now, found_still, gone, id_now, left_sorted, stands}
-- grants of a task that ended
pub use Rattle.job_row.proofs.Ungranting.{copies-ended, ended_placed, from_ended, same_part}
-- a copy that waits for a place, and one that has taken it
pub use Rattle.job_row.proofs.Waiting.{waiting}
