use Rattle.std.proofs.Common.{sym, ◌∙◌}
use Rattle.plain_store.proofs.GrantsEnd.{grant-forgotten}
use Rattle.plain_store.proofs.store.PlainStore.forget_grant.Goals as goal

pub returns-in-Some-seen_mut : goal.returns-in-Some-seen_mut
returns-in-Some-seen_mut c =
    grant-forgotten c.in-Some.seen.now c.args.grantor.0 c.args.depth c.args.self.now c.args.id c.in-Some-seen_mut.seen.now c.remove_grant.new.self
    (sym c.in-Some.ensures) (sym c.has_other_grant.ensures ∙ c.if-not-has_other_grant.false) c.in-Some-seen_mut.ensures.value c.remove_grant.ensures
