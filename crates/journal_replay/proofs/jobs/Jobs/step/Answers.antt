use Rattle.std.proofs.Common.{ap, ◌∙◌}
use Rattle.std.specs.Map.{lookup}
use Rattle.private_store.specs.rules.Replay.{replay_after}
use Rattle.journal_text.specs.Saved.{same_job_place}
use Rattle.journal_replay.proofs.States.{state_moved}
use Rattle.journal_replay.proofs.jobs.Jobs.step.Goals as goal

pub returns-clause-states : goal.returns-clause-states
returns-clause-states c =
    state_moved c.args.place c.args.self.now c.self.inside.jobs.entries c.insert.new.table.entries c.in_ok-replay.replay
    (λ q. ap (lookup (same_job_place q)) c.self.view_is ∙ c.take_out-replay.ensures.left q) c.in_ok-insert.ensures.updates.0 _
    (c.in_ok-replay.ensures.state ∙ (λ i. record { last = c.args.number; store = replay_after (c.take_out-replay.ensures.taken i).store c.args.input.now }))
