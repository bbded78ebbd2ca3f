use Rattle.std.proofs.Common.{sym, ap, ◌∙◌}
use Rattle.std.specs.Option.{option_copied}
use Rattle.private_store.specs.rules.Tables.{at}
use Rattle.row_commands.proofs.Handing.{not_absent, work_so}
use Rattle.row_commands.proofs.device_works.work.Goals as goal

pub returns-in_default-clause-ok : goal.returns-in_default-clause-ok
returns-in_default-clause-ok c beside contents own h flying =
    not_absent c.args.row.now beside contents h c.args.asked.now flying (ap (λ t. at t c.args.asked.now.id) (sym c.copies.ensures.copies) ∙ sym c.get.ensures ∙ ap option_copied c.in_default.is)

pub returns-clause-ok : goal.returns-clause-ok
returns-clause-ok c beside contents own h flying =
    work_so c.args.row.now beside contents h c.args.asked.now flying c.in-Some.copy.now (ap (λ t. at t c.args.asked.now.id) (sym c.copies.ensures.copies) ∙ sym c.get.ensures ∙ ap option_copied c.in-Some.is)
    c.key_number.result c.length.result c.in_ok-payload.field-0 own c.key_number.ensures c.length.ensures c.in_ok-payload.ensures.ok
