use Rattle.std.proofs.Common.{arith, ap, not, filter, ◌∙◌}
use Rattle.private_store.specs.rules.Jobs.{same_job}
use Rattle.job_admission.specs.Admissions.{Admissions, lives_of, is_live_kept}
use Rattle.private_store.specs.rules.Shared.{job_is}
use Rattle.job_admission.proofs.Neighbours.{lives_of-finished}
use Rattle.job_admission.proofs.AllKept.{all_removed, apart_removed}
use Rattle.job_admission.proofs.Admission.finish_job.Goals as goal

pub invariant_of-self-2 : goal.invariant_of-self-2
invariant_of-self-2 c =
    let kept = is_live_kept c.self.inside.memory c.self.inside.greatest in
    record {
      memory = c.self.invariant.memory;
      each = rw c.shift_remove.ensures.entries (all_removed kept (same_job c.args.job) c.self.inside.live.entries c.self.invariant.each);
      apart = apart_removed c.self.inside.live.entries c.shift_remove.new.self.entries c.args.job c.self.invariant.apart c.shift_remove.ensures.updates.0;
      distinct = c.shift_remove.ensures.unique;
      few = omega (arith, c.shift_remove.ensures.len, c.self.invariant.few);
    }

pub returns-clause-lives : goal.returns-clause-lives
returns-clause-lives c =
    ap lives_of c.shift_remove.ensures.entries ∙ lives_of-finished c.args.job c.self.inside.live.entries c.self.invariant.distinct
    ∙ ap (λ (a : Admissions). filter (λ live. not (job_is c.args.job.0 live)) (lives_of a.live)) c.self.view_is
