-- What the proofs of other crates cite of this one.

-- what an admission that passed its checks says of the job
pub use Rattle.job_admission.proofs.AllKept.{admit_passed}
-- whether a job is live, as its neighbours may know it
pub use Rattle.job_admission.proofs.Lookups.{any_live}
