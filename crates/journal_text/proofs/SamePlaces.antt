-- Jobs at nodes, compared.
use Rattle.std.proofs.Common.{◌≡◌, ℕ, Bool, true, false, ◌==◌, ◌&&◌, refl, arith}
use Rattle.std.proofs.lemmas.Bool.Decides.{nat_tests}
use Rattle.schedule_text.specs.declared.lines.JobAt.{JobAt}
use Rattle.journal_text.specs.Saved.{same_job_place}

pub same_place-itself : (a : JobAt) → same_job_place a a ≡ true
same_place-itself a = grind (arith, nat_tests)

same_number : (a b : ℕ) → (a == b) ≡ true → a ≡ b
same_number a b t = grind (arith, nat_tests)

both : (a b : Bool) → (a && b) ≡ true → (a ≡ true) × (b ≡ true)
both true true h = (refl, refl)
both true false h = absurd cc
both false b h = absurd cc

pub same_place-equal : (a b : JobAt) → same_job_place a b ≡ true → a ≡ b
same_place-equal a b t =
    let parts = both (a.node == b.node) (a.job.0 == b.job.0) t in
    let node = same_number a.node b.node parts.0 in
    let job = same_number a.job.0 b.job.0 parts.1 in
    λ i. record { node = node i; job = record { 0 = job i } }
