use Rattle.std.proofs.Common.{◌≡◌, take}
use Rattle.std.specs.Prelude.{All, map, filter}
use Rattle.node_gate.specs.declared.journaled.LiveJob.{LiveJob}
use Rattle.node_journal.specs.Looking.{IsUsageShown, is_live_now}
use Rattle.node_journal.proofs.looking.live_jobs_of.Given as goal

abbrev pub invariant-loop-job : goal.invariant-loop-job
invariant-loop-job g l = record {
  listed : map (λ (x : LiveJob). x.job) l.live.items ≡ filter (is_live_now l.kept.node) (take l.job-index l.job-items);
  used : All (IsUsageShown l.kept.node) l.live.items;
}
