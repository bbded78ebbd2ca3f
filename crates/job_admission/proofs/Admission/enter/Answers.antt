use Rattle.std.proofs.Common.{ap, cond, is_some, Some, sym, ◌∙◌, arith}
use Rattle.std.specs.Map.{lookup}
use Rattle.std.specs.Option.{option_copied_mut}
use Rattle.private_store.specs.rules.Jobs.{same_job}
use Rattle.job_admission.specs.Admissions.{Admissions, live_at, enter_check}
use Rattle.job_admission.proofs.Entering.{one_more, number_left, entered_kept}
use Rattle.job_admission.proofs.Admission.enter.Goals as goal

pub overflow_add-live : goal.overflow_add-live
overflow_add-live c =
    let inside : Admissions = record { memory = c.self.inside.memory; greatest = c.self.inside.greatest; live = c.self.inside.live.entries } in
    let found = sym c.get_mut.ensures.value ∙ ap option_copied_mut c.in-Some-get_mut.is in
    let passed = ap (λ a. enter_check a c.args.job c.args.key.now) c.self.view_is ∙ sym c.enter_check.ensures ∙ c.in_default.is in
    let left = number_left inside c.args.job c.in-Some-get_mut.live.now found c.args.key.now passed in
    omega (arith, left)

pub invariant_of-self-2 : goal.invariant_of-self-2
invariant_of-self-2 c =
    let inside : Admissions = record { memory = c.self.inside.memory; greatest = c.self.inside.greatest; live = c.self.inside.live.entries } in
    let x = c.in-Some-get_mut.live.now in
    let found = sym c.get_mut.ensures.value ∙ ap option_copied_mut c.in-Some-get_mut.is in
    let new = one_more inside c.args.job x found in
    let wrote = c.get_mut.follows.holds new in
    entered_kept inside c.args.job x found c.self.invariant (c.get_mut.follows.lender new).entries wrote.0 (wrote.3 (ap is_some found)).0 wrote.4 wrote.2

pub returns-clause-others : goal.returns-clause-others
returns-clause-others c = λ other differ.
    let inside : Admissions = record { memory = c.self.inside.memory; greatest = c.self.inside.greatest; live = c.self.inside.live.entries } in
    let x = c.in-Some-get_mut.live.now in
    let found = sym c.get_mut.ensures.value ∙ ap option_copied_mut c.in-Some-get_mut.is in
    let new = one_more inside c.args.job x found in
    let wrote = c.get_mut.follows.holds new in
    (wrote.3 (ap is_some found)).0 other
    ∙ ap (λ b. cond b (Some new) (lookup (same_job other) c.self.inside.live.entries)) differ
    ∙ ap (λ a. live_at a other) c.self.view_is
