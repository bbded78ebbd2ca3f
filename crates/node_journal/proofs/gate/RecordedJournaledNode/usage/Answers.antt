use Rattle.std.proofs.Common.{ap, subst, ◌∙◌}
use Rattle.node_core.specs.Hosted.{Hosted}
use Rattle.node_journal.specs.Looking.{IsUsageTold}
use Rattle.node_journal.proofs.gate.RecordedJournaledNode.usage.Goals as goal

pub returns-clause-shown : goal.returns-clause-shown
returns-clause-shown g c =
    subst (λ (n : Hosted). IsUsageTold n c.args.job c.usage.result) (c.node.ensures ∙ ap (λ r. r.0.node) c.self.view_is) (record { response = c.usage.ensures.response; live = c.usage.ensures.live })
