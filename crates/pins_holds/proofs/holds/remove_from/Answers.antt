use Rattle.std.proofs.Common.{◌∙◌}
use Rattle.pins_holds.proofs.SessionLemmas.{remove_entry-without}
use Rattle.pins_holds.proofs.holds.remove_from.Goals as goal
use Rattle.store_facts.proofs.Tests.{T_true}

pub returns : goal.returns
returns c = c.remove.ensures.entries ∙ remove_entry-without c.args.session c.args.by_session.now.entries (T_true _ c.requires)
