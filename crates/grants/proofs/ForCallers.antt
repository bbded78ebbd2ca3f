-- What the proofs of other crates cite of this one.

-- grants that are the same: what is asked of one is so of the other
pub use Rattle.grants.proofs.Alike.{any_filtered, numbers_equal, same_alike, same_itself, same_through}
-- which grants end, in a job's own store as in the table; one test after another
pub use Rattle.grants.proofs.Ends.{any_filter, any_map, ends_alike, filter_filter, filter_map, filter_swap, rest_alike}
-- how much a live job may be given, so that answers are small
pub use Rattle.grants.proofs.Few.{few_by, few_granted, is_among}
-- what stands after grants have ended is a table again; a test of two lists
pub use Rattle.grants.proofs.Left.{apart, append_nothing, filter_both, left_are_grants}
-- what stands after a grant is a table again
pub use Rattle.grants.proofs.Made.{pushed_are_grants}
-- what a job's own store has of the table's grants
pub use Rattle.grants.proofs.Private.{any_given, grants_alike, grants_seen, is_to, left_given, made_for, refuses_alike, seen_grants}
-- an object is seen where a chain of grants leads to it
pub use Rattle.grants.proofs.Reach.{first_stands, seen_where_led}
-- what List shows of granted objects
pub use Rattle.grants.proofs.Seen.{seen_item, seen_items}
-- what a job was given, grant by grant and by its objects
pub use Rattle.grants.proofs.Taken.{has_grants, taken_is, taken_shown, taken_sorted}
-- no more grants end than stand
pub use Rattle.grants.proofs.FewEnd.{few_end}
