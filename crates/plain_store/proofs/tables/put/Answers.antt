use Rattle.std.proofs.Common.{◌∙◌}
use Rattle.store_facts.proofs.ObjectMaps.{with_entry-insert}
use Rattle.plain_store.proofs.tables.put.Goals as goal

pub returns : goal.returns
returns c = c.in_ok-insert.ensures.entries ∙ with_entry-insert c.args.id c.args.copies.now.entries c.args.copy
