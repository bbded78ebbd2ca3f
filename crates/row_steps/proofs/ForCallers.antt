-- What the proofs of other crates cite of this one.

-- a message that arrives for a fetch
pub use Rattle.row_steps.proofs.Arriving.{IsOf, arrived, arrives, copy_changes, fetch_case, fetch_is, ignored, is_on_way, live_is, located_done, numbers_turn, resides}
-- commands by their checks: foreign ids, refusals, and what is done
pub use Rattle.row_steps.proofs.ByChecks.{by-checks, called, first-check, foreign, in_sight, in_table, needing-by, own, read-by, seal-by, seal_done, sending-is, unless_refused, write-by}
-- what stays as it is when a copy changes
pub use Rattle.row_steps.proofs.Changing.{From, bytes_stay, digests_stay, from_changed, granted_stay, keys_with, listed_stay, there_still, there_with, works_stay}
-- what the order of use and the line of works know of a copy
pub use Rattle.row_steps.proofs.Described.{described, facts_at, idle_same, same_extents, working-on}
-- a copy that is removed
pub use Rattle.row_steps.proofs.Dropping.{change_left, key_dropped, key_removed, moves_left}
-- a command is due more than a refusal by the change that it is
pub use Rattle.row_steps.proofs.MoreThanRefused.{IsLate, late_by, late_if_ok, more_by, some_last}
-- checks that passed, one by one
pub use Rattle.row_steps.proofs.Passed.{IsRead, IsUnwritten, IsWritten, all_failed, created_resides, not_not, past, place_found, placed_at, read_passed, seal_passed, sealed_resides, there, there_all, write_passed}
-- what is granted keeps its bytes
pub use Rattle.row_steps.proofs.Received.{all_there, filled, filled_at, kept_as_they_are, kept_of_fewer, kept_with_more}
-- a step that sends and changes nothing
pub use Rattle.row_steps.proofs.Stepping.{TakesChange, bytes_now, change, digests_now, moved, received_stays, same_bytes, same_moves, shown_now, stays, telling, tells, view_then}
-- what List tells, and what is used
pub use Rattle.row_steps.proofs.Telling.{device_is, list_done, usage_done, used-is}
