use Rattle.std.proofs.Common.{rules, ap, ◌∙◌}
use Rattle.indexmap.proofs.CallerLemmas.{insert_entry-new}
use Rattle.job_admission.specs.declared.Live.{Live}
use Rattle.private_store.specs.rules.Jobs.{same_job}
use Rattle.job_admission.specs.Admissions.{Admissions, window_place_for, admit_check, with_admitted, lives_of}
use Rattle.job_admission.proofs.Neighbours.{lives_of-admitted}
use Rattle.job_admission.proofs.Admitted.{absent, admitted_is, admitted_kept}
use Rattle.job_admission.proofs.Admission.admit.Goals as goal

pub invariant_of-self-2 : goal.invariant_of-self-2
invariant_of-self-2 c =
    let a : Admissions = record { memory = c.self.inside.memory; greatest = c.self.inside.greatest; live = c.self.inside.live.entries } in
    let x : Live = record { quota = c.args.quota; key = c.args.key; offset = c.in_ok-offset.offset; entered = 0 } in
    let passed = ap (λ b. admit_check b c.args.job c.args.quota) c.self.view_is ∙ c.in_ok-offset.ensures.passed (search rules) in
    let found = ap (λ b. window_place_for b c.args.quota.window) c.self.view_is ∙ c.in_ok-offset.ensures.ok in
    let none = absent a c.args.job c.args.quota c.args.key c.in_ok-offset.offset c.self.invariant passed found in
    let entries = c.in_ok-insert.ensures.entries ∙ insert_entry-new same_job c.self.inside.live c.args.job x none in
    admitted_kept a c.args.job c.args.quota c.args.key c.in_ok-offset.offset c.self.invariant passed found c.insert.new.table.entries entries c.in_ok-insert.ensures.unique c.in_ok-insert.ensures.updates.0

pub returns-clause-ok : goal.returns-clause-ok
returns-clause-ok c =
    let a : Admissions = record { memory = c.self.inside.memory; greatest = c.self.inside.greatest; live = c.self.inside.live.entries } in
    let x : Live = record { quota = c.args.quota; key = c.args.key; offset = c.in_ok-offset.offset; entered = 0 } in
    let passed = ap (λ b. admit_check b c.args.job c.args.quota) c.self.view_is ∙ c.in_ok-offset.ensures.passed (search rules) in
    let found = ap (λ b. window_place_for b c.args.quota.window) c.self.view_is ∙ c.in_ok-offset.ensures.ok in
    let none = absent a c.args.job c.args.quota c.args.key c.in_ok-offset.offset c.self.invariant passed found in
    let entries = c.in_ok-insert.ensures.entries ∙ insert_entry-new same_job c.self.inside.live c.args.job x none in
    admitted_is a c.args.job c.args.quota c.args.key c.in_ok-offset.offset c.self.invariant passed found c.insert.new.table.entries entries
    ∙ ap (λ b. with_admitted b c.args.job c.args.quota c.args.key) c.self.view_is

pub returns-clause-lives : goal.returns-clause-lives
returns-clause-lives c =
    ap (λ (b : Admissions). lives_of b.live) (returns-clause-ok c) ∙ lives_of-admitted c.args.self.now c.args.job c.args.quota c.args.key
