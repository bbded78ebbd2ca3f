use Rattle.std.proofs.Common.{ℕ, Bool, ◌==◌, ◌&&◌, not}
use Rattle.std.specs.Prelude.{is_ok}
use Rattle.node_journal.specs.Journals.{is_live_in}
use Rattle.node_journal.proofs.Swept.{all_swept, sweep_numbered, sweep_few, swept_if_ok}
use Rattle.node_journal.proofs.kept.Kept.sweep_job.Goals as goal

pub invariant_of-self : goal.invariant_of-self
invariant_of-self g c =
    let old = c.args.self.now in
    let dead : ℕ → Bool = λ job. c.args.job.0 == job && not (is_live_in old.node job) in
    let made : ℕ → Bool = λ job. is_ok c.sweep_job.result && dead job in
    let is = swept_if_ok c.sweep_job.result dead old.logs c.sweep_job.new.logs c.sweep_job.ensures.swept c.sweep_job.ensures.unchanged in
    record {
      seated = old.seated;
      blank = old.blank;
      named = old.named;
      numbered = λ job. sweep_numbered old.count (made job) _ _ (is job) (old.numbered job);
      few = λ job. sweep_few (made job) _ _ (is job) (old.few job);
      response = all_swept old.node _ _ made is old.response;
    }
