use Rattle.std.proofs.Common.{List, not, filter, sym, ap, subst, ◌∙◌}
use Rattle.std.specs.List.{list_any}
use Rattle.private_store.specs.rules.Grants.{StandingGrant, same_grant}
use Rattle.grants.specs.Table.{AreGrants, ends_found}
use Rattle.grants.proofs.Left.{left_are_grants, none_left}
use Rattle.grants.proofs.Grants.take_out.Goals as goal

pub invariant_of-self : goal.invariant_of-self
invariant_of-self c =
    let grants = c.self.inside.grants.items in
    subst AreGrants
    (sym (c.take_out.ensures ∙ ap (λ (gone : List StandingGrant). filter (λ grant. not (list_any (same_grant grant) gone)) grants) (c.gone.ensures ∙ c.requires.found ∙ ap (ends_found c.requires.test) (sym c.self.view_is))))
    (left_are_grants c.requires.test grants c.self.invariant)

pub returns-clause-gone : goal.returns-clause-gone
returns-clause-gone c test found =
    let grants = c.self.inside.grants.items in
    ap (filter test) (c.take_out.ensures ∙ ap (λ (gone : List StandingGrant). filter (λ grant. not (list_any (same_grant grant) gone)) grants) (c.gone.ensures ∙ found ∙ ap (ends_found test) (sym c.self.view_is)))
    ∙ none_left test grants
