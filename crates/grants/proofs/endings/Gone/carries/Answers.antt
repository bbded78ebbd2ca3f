use Rattle.std.proofs.Common.{ap, sym, ◌∙◌}
use Rattle.std.specs.List.{list_any}
use Rattle.private_store.specs.rules.Grants.{is_child_of}
use Rattle.grants.proofs.Linked.{carries_some, carries_not}
use Rattle.grants.proofs.endings.Gone.carries.Goals as goal

pub returns-in-Some : goal.returns-in-Some
returns-in-Some c =
    c.contains.ensures
    ∙ carries_some c.args.grant.now c.self.inside.grants.items c.self.inside.links.keys c.self.invariant c.in-Some.link (sym c.in-Some.is ∙ c.below.ensures)
    ∙ ap (list_any (is_child_of c.args.grant.now)) c.self.view_is

pub returns-in-None : goal.returns-in-None
returns-in-None c =
    carries_not c.args.grant.now c.self.inside.grants.items c.self.inside.links.keys c.self.invariant (sym c.in-None.is ∙ c.below.ensures)
    ∙ ap (list_any (is_child_of c.args.grant.now)) c.self.view_is
