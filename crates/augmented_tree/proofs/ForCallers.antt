-- What the proofs of other crates cite of this one.

-- a tree's node and items, its order, depth and summaries, for the crates whose trees are made of it
pub use Rattle.augmented_tree.proofs.WellOrdered.{ToldAt, Within, all_fit, deep, depth_at, in_range, items_at, rises, summarized, told_at}
-- lists of items in order of key, for the same and for who keeps such a list
pub use Rattle.augmented_tree.proofs.Order.{all_above, all_changed, all_map, all_put, all_taken, put_least, rising_back, rising_front}
