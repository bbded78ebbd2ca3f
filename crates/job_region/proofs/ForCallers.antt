-- What the proofs of other crates cite of this one.

-- first fit over extents with their bytes is the definitions' first fit
pub use Rattle.job_region.proofs.First.{first-is}
-- the first gap among extents that rise is the least free place
pub use Rattle.job_region.proofs.Gap.{extents-placed, gap_is_first, laid_within}
-- what a write leaves of an extent
pub use Rattle.job_region.proofs.Parts.{length-overwritten, part_over_within}
-- an extent that is put among others is found there, and the others as before
pub use Rattle.job_region.proofs.Places.{lookup-put_in, lookup-put_in_other}
