use Rattle.std.proofs.Math.Logic.{∥∥₁_map}
use Rattle.node_journal.proofs.laws.a_journal_is_rooted.Goals as goal

pub returns : goal.returns
returns g c = ∥∥₁_map c.args.kept.now.response (λ t. t.rooted c.args.job.0)
