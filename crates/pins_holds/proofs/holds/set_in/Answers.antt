use Rattle.std.proofs.Common.{◌∙◌}
use Rattle.pins_holds.proofs.SessionLemmas.{set_value-put}
use Rattle.pins_holds.proofs.holds.set_in.Goals as goal
use Rattle.store_facts.proofs.Tests.{T_true}

pub returns-in-Some : goal.returns-in-Some
returns-in-Some c =
    (c.get_mut.follows.holds c.args.count).0
    ∙ set_value-put c.args.session c.args.count c.args.by_session.now.entries (T_true _ c.requires.rising) c.requires.there
