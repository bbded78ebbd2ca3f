use Rattle.std.proofs.Common.{sym, ap, ◌∙◌, ◌≡◌, ◌<◌, ℕ, true, false, length, arith, nat_eq}
use Rattle.std.proofs.lemmas.Bool.Decides.{nat_tests}
use Rattle.obj_id.specs.declared.works.Extent.{Extent}
use Rattle.job_region.proofs.Bisected.{same_there}
use Rattle.job_region.proofs.extents.is_at.Goals as goal

same_number : (a b : ℕ) → nat_eq a b ≡ true → a ≡ b
same_number a b t = grind (arith, nat_tests, t)

other_number : (a b : ℕ) → nat_eq a b ≡ false → a ≡ b → ⊥
other_number a b t = grind (arith, nat_tests, t)

pub returns-in-Some-clause-yes : goal.returns-in-Some-clause-yes
returns-in-Some-clause-yes c =
    let got = c.in-Some.ensures.lookup in
    let lt : c.args.place < length c.args.extents.now = grind (arith, nat_tests, got.0) in
    λ t. (lt, λ d. ap (λ (e : Extent). e.offset) (same_there c.args.extents.now c.args.place d c.in-Some.extent.now lt ∙ sym got.1) ∙ same_number c.in-Some.extent.now.offset c.args.offset t)

pub returns-in-Some-clause-no : goal.returns-in-Some-clause-no
returns-in-Some-clause-no c =
    let got = c.in-Some.ensures.lookup in
    λ t lt d here. other_number c.in-Some.extent.now.offset c.args.offset t (ap (λ (e : Extent). e.offset) (got.1 ∙ same_there c.args.extents.now c.args.place c.in-Some.extent.now d lt) ∙ here)

pub returns-in-None-clause-no : goal.returns-in-None-clause-no
returns-in-None-clause-no c =
    let got = c.in-None.ensures.lookup in
    λ t lt d here. grind (arith, nat_tests, got.0, lt)
