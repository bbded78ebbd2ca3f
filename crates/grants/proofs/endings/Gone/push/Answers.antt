use Rattle.std.proofs.Common.{◌++◌, ◌∷◌, [], true, cond, ap, subst, sym, ◌∙◌}
use Rattle.std.specs.Prelude.{if◌then◌else◌, is_ok}
use Rattle.std.specs.List.{list_any}
use Rattle.private_store.specs.rules.Grants.{StandingGrant}
use Rattle.grants.specs.Links.{same_grant_link, AreLinked}
use Rattle.grants.proofs.Linked.{linked_more}
use Rattle.grants.proofs.endings.Gone.push.Goals as goal

pub invariant_of-self-2 : goal.invariant_of-self-2
invariant_of-self-2 c =
    let grant : StandingGrant = c.args.grant in
    let items = c.reserve.new.list.items in
    let pushed = c.push.ensures.items ∙ ap (λ r. if is_ok r then items ++ grant ∷ [] else items) c.unwrap.ensures ∙ ap (λ hs. hs ++ grant ∷ []) c.reserve.ensures.items in
    subst (λ hs. AreLinked hs c.insert.new.set.keys) (sym pushed)
    (linked_more grant c.self.inside.grants.items c.self.inside.links.keys c.self.invariant c.insert.new.set.keys
    (λ q. c.in_ok-insert.ensures.updates.0 q ∙ ap (λ k. cond (same_grant_link k q) true (list_any (same_grant_link q) c.self.inside.links.keys)) c.link.ensures))
