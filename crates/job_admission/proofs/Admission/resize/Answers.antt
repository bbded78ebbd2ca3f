use Rattle.std.proofs.Common.{ap, map, is_some, sym, ◌∙◌, arith}
use Rattle.std.specs.Option.{option_copied_mut}
use Rattle.private_store.specs.rules.Extents.{is_apart}
use Rattle.store_facts.proofs.Tests.{both_left, both_right}
use Rattle.job_admission.specs.declared.Live.{Live}
use Rattle.private_store.specs.rules.Jobs.{same_job}
use Rattle.job_admission.specs.Admissions.{Admissions, lives_of, live_at, is_live_kept, window_of, resize_check}
use Rattle.job_admission.proofs.Lookups.{check_absent, check_passed, same_refusal}
use Rattle.private_store.specs.rules.Shared.{widened}
use Rattle.job_admission.proofs.Neighbours.{lives_of-resized}
use Rattle.job_admission.proofs.AllKept.{all_set, apart_put, other_found, kept_resized}
use Rattle.job_admission.proofs.Admission.resize.Goals as goal

pub returns-in_default-get_mut-clause-refused : goal.returns-in_default-get_mut-clause-refused
returns-in_default-get_mut-clause-refused c = λ r e.
    let none = ap (λ a. live_at a c.args.job) (sym c.self.view_is) ∙ sym c.get_mut.ensures.value ∙ ap option_copied_mut c.in_default-get_mut.is in
    same_refusal _ _ r (check_absent c.args.self.now c.args.job c.args.quota none) e

pub invariant_of-self-2 : goal.invariant_of-self-2
invariant_of-self-2 c =
    let job = c.args.job in
    let es = c.self.inside.live.entries in
    let memory = c.self.inside.memory in
    let x = c.in-Some-get_mut.live.now in
    let new : Live = record { quota = c.args.quota; key = x.key; offset = x.offset; entered = x.entered } in
    let found = sym c.get_mut.ensures.value ∙ ap option_copied_mut c.in-Some-get_mut.is in
    let inside : Admissions = record { memory = memory; greatest = c.self.inside.greatest; live = es } in
    let check = ap (λ a. resize_check a job c.args.quota) c.self.view_is ∙ sym c.resize_check.ensures ∙ c.in_default.is in
    let passed = check_passed inside job c.args.quota x found check in
    let wrote = c.get_mut.follows.holds new in
    let kept = is_live_kept memory c.self.inside.greatest in
    record {
      memory = c.self.invariant.memory;
      each = rw wrote.0 (all_set kept (same_job job) x new (λ k. kept_resized memory c.self.inside.greatest k x c.args.quota passed.0 (both_left _ _ passed.1)) es found c.self.invariant.each);
      apart = apart_put es (c.get_mut.follows.lender new).entries job c.self.invariant.apart new (λ j y differ at. other_found job j (is_apart (window_of new)) es y differ (both_right _ _ passed.1) at) (wrote.3 (ap is_some found)).0;
      distinct = wrote.4;
      few = omega (arith, wrote.2, c.self.invariant.few);
    }

pub returns-clause-lives : goal.returns-clause-lives
returns-clause-lives c =
    let x = c.in-Some-get_mut.live.now in
    let new : Live = record { quota = c.args.quota; key = x.key; offset = x.offset; entered = x.entered } in
    let found = sym c.get_mut.ensures.value ∙ ap option_copied_mut c.in-Some-get_mut.is in
    let wrote = c.get_mut.follows.holds new in
    ap lives_of wrote.0 ∙ lives_of-resized c.args.job x c.args.quota c.self.inside.live.entries c.self.invariant.distinct found
    ∙ ap (λ (a : Admissions). map (widened c.args.job.0 c.args.quota.window) (lives_of a.live)) c.self.view_is
