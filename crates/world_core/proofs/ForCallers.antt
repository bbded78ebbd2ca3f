-- What the proofs of other crates cite of this one.

-- lists by place, with one element set
pub use Rattle.world_core.proofs.Places.{length-slice_set, slice_get-slice_set, slice_get-slice_set_other, found_within}
-- a world with no step yet, and with one more: what each node and each job then shows
pub use Rattle.world_core.proofs.Running.{AreNew-push, new_is_after, new_world, private_of, replies_agree, shared_of}
-- a world after a history, and one more step that it made
pub use Rattle.world_core.proofs.Turning.{after_turn}
-- the views that a node shows are those of the jobs' stores at its place
pub use Rattle.world_core.proofs.Stepping.{view_at, shown}
