-- A grant's grantor and grantee by their numbers.
use Rattle.std.specs.Prelude.{◌≡◌, ℕ, Option, Some, None, refl}
use Rattle.std.specs.Option.{option_map}
use Rattle.obj_id.specs.declared.ids.JobNo.{JobNo}

abbrev pub job_number_of : JobNo → ℕ
job_number_of job = job.0

abbrev pub job_numbered : ℕ → JobNo
job_numbered n = record { 0 = n }

pub jobs_back : (o : Option JobNo) → option_map job_numbered (option_map job_number_of o) ≡ o
jobs_back None = refl
jobs_back (Some job) = refl
