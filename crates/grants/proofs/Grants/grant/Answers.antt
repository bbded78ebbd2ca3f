use Rattle.std.proofs.Common.{sym, ap, ◌∙◌}
use Rattle.std.specs.Prelude.{is_ok}
use Rattle.private_store.specs.rules.Grants.{new_grant}
use Rattle.grants.specs.Table.{grant_check}
use Rattle.grants.proofs.Made.{pushed_are_grants}
use Rattle.grants.proofs.Grants.grant.Goals as goal

pub invariant_of-self-2 : goal.invariant_of-self-2
invariant_of-self-2 c =
    let grants = c.self.inside.grants.items in
    let grantor = c.args.grantor.0 in
    let target = c.args.target.0 in
    pushed_are_grants grants grantor c.args.id target c.in_ok-grant.grant (is_ok c.push.result) c.push.new.list.items c.self.invariant
    (ap (λ x. grant_check x grantor c.args.id target) c.self.view_is ∙ c.in_ok-grant.ensures.check)
    (c.in_ok-grant.ensures.made ∙ ap (λ x. new_grant x c.args.id grantor target) (sym c.self.view_is)) c.push.ensures.items
