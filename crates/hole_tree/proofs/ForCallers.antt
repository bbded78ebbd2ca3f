-- What the proofs of other crates cite of this one.

-- where the first hole of some length is, for who takes bytes off its front
pub use Rattle.hole_tree.proofs.Fitting.{fitting_at}
