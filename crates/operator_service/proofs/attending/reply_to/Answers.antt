use Rattle.std.proofs.Common.{vec_len, subst}
use Rattle.std.specs.Io.KnownBytes.{Appends}
use Rattle.operator_service.proofs.Stepped.{handled_step}
use Rattle.operator_service.specs.Servings.{IsOrderedAt}
use Rattle.shared_nodes.specs.Looking.{AreLiveAt, IsUsageAt}
use Rattle.operator_service.proofs.attending.reply_to.Goals as goal

pub returns-in-Ok-write_out-clause-ok : goal.returns-in-Ok-write_out-clause-ok
returns-in-Ok-write_out-clause-ok g c = λ text of. record {
  answer = _;
  handled = c.in-Ok.ensures.answered text of;
  written = subst (Appends (g.O.Write.contents c.args.writer.now) (g.O.Write.contents c.write_out.new.writer)) c.as_bytes.ensures.value c.in-Ok-write_out.ensures.ok;
}

pub returns-clause-stopped : goal.returns-clause-stopped
returns-clause-stopped g c = λ text of.
    handled_step (IsOrderedAt g.K.JournaledNode.receipt_of g.K.JournaledNode.made_at) (AreLiveAt g.K.JournaledNode.node_number g.K.JournaledNode.shows_live) (IsUsageAt g.K.JournaledNode.node_number g.K.JournaledNode.shows_usage) (vec_len c.args.nodes.now.nodes) c.args.count (vec_len c.args.nodes.now.nodes) c.args.number text _ _ _ _ (c.in-Ok.ensures.answered text of)
