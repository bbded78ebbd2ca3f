use Rattle.std.proofs.Common.{◌==◌}
use Rattle.node_journal.proofs.Telling.{all_folded}
use Rattle.node_journal.proofs.Numbering.{fold_numbered}
use Rattle.node_journal.proofs.Rooms.{fold_few}
use Rattle.node_journal.proofs.kept.Kept.checkpoint.Goals as goal

pub invariant_of-self-2 : goal.invariant_of-self-2
invariant_of-self-2 g c =
    let old = c.args.self.now in
    let is = c.fold_away.ensures in
    record {
      seated = old.seated;
      blank = old.blank;
      named = old.named;
      numbered = λ job. fold_numbered old.count (c.args.job.0 == job) _ _ (is job) (old.numbered job);
      few = λ job. fold_few (c.args.job.0 == job) _ _ (is job) (old.few job);
      response = all_folded old.node _ _ (λ job. c.args.job.0 == job) is old.response;
    }
