use Rattle.std.proofs.Common.{◌≡◌, ℕ, ◌+◌, ◌-◌, ◌<◌, inl, inr, ap₂, ◌∙◌, arith}
use Rattle.std.proofs.lemmas.Bool.{cases_lt}
use Rattle.std.proofs.lemmas.Simd.{get_or-put_chunk_below, get_or-put_chunk_at}
use Rattle.sha2.specs.Sha256.{add32}
use Rattle.fast_sha256.proofs.schedule.store_sums.Goals as goal

pub returns-clause-sums : goal.returns-clause-sums
returns-clause-sums c = λ words held lanes k lt.
    let t = c.args.t in
    let old = c.args.sums.now in
    let four = c.add_lanes.result in
    elim (cases_lt k t) [
      | inl below ↦ get_or-put_chunk_below t old four k 0 below ∙ held k below
      | inr from ↦
          let j : ℕ = k - t in
          let e : t + j ≡ k = omega arith in
          let j4 : j < 4 = omega arith in
          rw e at (get_or-put_chunk_at t old four j 0 (omega (arith, c.add_lanes.ensures.len)) (omega (arith, c.add_lanes.ensures.len, c.requires.len, c.requires.t))
          ∙ c.add_lanes.ensures.lanes j j4 ∙ ap₂ add32 (c.constants_from.ensures j j4) (lanes j j4))
    ]
