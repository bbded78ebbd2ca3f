-- What the proofs of other crates cite of this one.

-- two runs that differ in others' grants of a job's objects are the same to it
pub use Rattle.run_laws.proofs.Agreeing.{others_dont_show_where_due}
-- the laws of grants at every moment of a run
pub use Rattle.run_laws.proofs.Moments.{each_moment}
