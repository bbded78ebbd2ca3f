use Rattle.std.proofs.Common.{◌∙◌, ap, sym}
use Rattle.plain_store.specs.Granted.{without_hanging}
use Rattle.plain_store.proofs.GrantsEnd.{grant-ends}
use Rattle.plain_store.proofs.store.PlainStore.withdrawn.Goals as goal

pub returns-clause-store : goal.returns-clause-store
returns-clause-store c =
    c.drop_hanging.ensures ∙ ap (λ replay_state. without_hanging replay_state c.args.id c.args.grantor.0) c.forget_grant.ensures
    ∙ grant-ends c.in-Some.seen.now c.args.grantor.0 c.args.depth c.args.self.now c.args.id (sym c.in-Some.ensures) (sym c.has_grant.ensures ∙ c.if-not-has_grant.false)
