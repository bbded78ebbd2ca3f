use Rattle.std.proofs.Common.{◌∙◌}
use Rattle.pins_holds.proofs.SessionLemmas.{insert_entry-put}
use Rattle.pins_holds.proofs.holds.insert_into.Goals as goal

pub returns-clause-ok : goal.returns-clause-ok
returns-clause-ok c = c.in_ok-insert.ensures.entries ∙ insert_entry-put c.args.session c.args.count c.args.by_session.now.entries
