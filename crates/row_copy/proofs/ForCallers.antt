-- What the proofs of other crates cite of this one.

-- a copy that the directory was asked for
pub use Rattle.row_copy.proofs.AwaitedSources.{awaits_parts, located-place}
-- which marks leave a copy where it lies
pub use Rattle.row_copy.proofs.MarkedPlaces.{marked_lies, same_copy, scoped-keeps}
