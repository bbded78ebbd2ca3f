use Rattle.std.proofs.Common.{ap, ◌∙◌}
use Rattle.std.specs.List.{list_any}
use Rattle.private_store.specs.rules.Grants.{same_grant}
use Rattle.grants.specs.Links.{same_grant_link}
use Rattle.grants.proofs.Linked.{has_is}
use Rattle.grants.proofs.endings.Gone.has.Goals as goal

pub returns : goal.returns
returns c =
    c.contains.ensures
    ∙ ap (λ link. list_any (same_grant_link link) c.self.inside.links.keys) c.link.ensures
    ∙ has_is c.args.grant.now c.self.inside.grants.items c.self.inside.links.keys c.self.invariant
    ∙ ap (list_any (same_grant c.args.grant.now)) c.self.view_is
