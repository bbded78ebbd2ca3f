use Rattle.std.proofs.Common.{ap, sym, ◌∙◌, arith}
use Rattle.std.specs.Option.{option_copied}
use Rattle.job_admission.specs.Admissions.{live_at}
use Rattle.job_admission.proofs.Lookups.{check_absent, check_size, check_room}
use Rattle.job_admission.proofs.AllKept.{quota_ends}
use Rattle.job_admission.proofs.Admission.resize_check.Goals as goal

pub returns-in_default : goal.returns-in_default
returns-in_default c =
    let none = ap (λ a. live_at a c.args.job) (sym c.self.view_is) ∙ sym c.get.ensures.value ∙ ap option_copied c.in_default.is in
    sym (check_absent c.args.self.now c.args.job c.args.quota none)

pub returns-then-not-is_quota : goal.returns-then-not-is_quota
returns-then-not-is_quota c =
    let found = ap (λ a. live_at a c.args.job) (sym c.self.view_is) ∙ sym c.get.ensures.value ∙ ap option_copied c.in-Some.is in
    sym (check_size c.args.self.now c.args.job c.args.quota c.in-Some.live.now found (sym c.is_quota.ensures ∙ c.if-not-is_quota.true))

pub has_place_beside-requires : goal.has_place_beside-requires
has_place_beside-requires c =
    let found = sym c.get.ensures.value ∙ ap option_copied c.in-Some.is in
    let ends = quota_ends c.self.inside.memory c.self.inside.greatest c.args.job c.self.inside.live.entries c.in-Some.live.now c.args.quota c.self.invariant.memory c.self.invariant.each found (sym c.is_quota.ensures ∙ c.if-not-is_quota.false) in
    omega (arith, ends)

pub returns-then-has_place_beside : goal.returns-then-has_place_beside
returns-then-has_place_beside c =
    let found = ap (λ a. live_at a c.args.job) (sym c.self.view_is) ∙ sym c.get.ensures.value ∙ ap option_copied c.in-Some.is in
    sym (check_room c.args.self.now c.args.job c.args.quota c.in-Some.live.now found (sym c.is_quota.ensures ∙ c.if-not-is_quota.false) _ (sym c.has_place_beside.ensures ∙ c.if-has_place_beside.true))

pub returns-else-has_place_beside : goal.returns-else-has_place_beside
returns-else-has_place_beside c =
    let found = ap (λ a. live_at a c.args.job) (sym c.self.view_is) ∙ sym c.get.ensures.value ∙ ap option_copied c.in-Some.is in
    sym (check_room c.args.self.now c.args.job c.args.quota c.in-Some.live.now found (sym c.is_quota.ensures ∙ c.if-not-is_quota.false) _ (sym c.has_place_beside.ensures ∙ c.if-has_place_beside.false))
