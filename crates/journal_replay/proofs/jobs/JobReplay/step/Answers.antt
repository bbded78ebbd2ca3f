use Rattle.std.proofs.Common.{sym, subst}
use Rattle.private_store.specs.laws.Listed.{IsReplayStateKept}
use Rattle.store_facts.proofs.ReplayStateKept.{step_of_replay_keeps}
use Rattle.journal_replay.proofs.jobs.JobReplay.step.Goals as goal

pub invariant_of-result : goal.invariant_of-result
invariant_of-result c = subst IsReplayStateKept (sym c.in_ok-store.ensures.store) (step_of_replay_keeps c.self.inside.store c.args.input.now c.self.invariant)
