-- What the proofs of other crates cite of this one.

-- extents that are marked as going, for plans for room
pub use Rattle.extent_tree.proofs.Gone.{choices_back, choose_none, remaining_all, staying_marked}
