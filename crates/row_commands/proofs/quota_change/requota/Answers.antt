use Rattle.std.proofs.Common.{sym, subst, ◌∙◌}
use Rattle.obj_id.specs.declared.commands.Reply.TheVariants as reply
use Rattle.private_store.specs.declared.inputs.Input.TheVariants as input
use Rattle.row_steps.specs.Shown.{only, RowStep}
use Rattle.row_commands.proofs.Quotas.{requota_done}
use Rattle.row_commands.proofs.quota_change.requota.Goals as goal

pub returns-clause-ok : goal.returns-clause-ok
returns-clause-ok c node beside contents h =
    subst (λ r. RowStep node c.args.row.now beside contents (input.Requota c.args.quota) (only reply.Ok) r beside) (sym c.in_ok-set_quota.ensures.ok)
    (requota_done node c.args.row.now beside contents h c.copies-copies.ensures.placed c.args.quota (sym c.quota_refusal.ensures ∙ c.in_default.is))
