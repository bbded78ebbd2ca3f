-- What the proofs of other crates cite of this one.

-- infos that compare as the same are equal
pub use Rattle.lru_evictor.proofs.Agreeing.{same_standing-equal}
-- room and offsets in a window are those of the store that it describes
pub use Rattle.lru_evictor.proofs.Described.{offset-described}
-- first fit without the extents that go
pub use Rattle.lru_evictor.proofs.Free.{goes, without-permuted}
-- the order of use after a step
pub use Rattle.lru_evictor.proofs.Reorders.{reordered-unused, reordered-used}
