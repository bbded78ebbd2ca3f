use Rattle.std.proofs.Common.{◌∙◌, sym, ap}
use Rattle.std.specs.Option.{option_copied}
use Rattle.private_store.specs.rules.Replay.{ReplayState}
use Rattle.plain_store.specs.Checks.{restored}
use Rattle.plain_store.proofs.Restores.{restore-refused, restore-begun}
use Rattle.plain_store.proofs.store.PlainStore.restore.Goals as goal

pub returns-in-Some-2-clause-reply : goal.returns-in-Some-2-clause-reply
returns-in-Some-2-clause-reply c =
    let there = sym c.copy.ensures ∙ ap option_copied c.in-Some.is in
    ap (λ t. t.reply) c.refused-in-Some-2.ensures
    ∙ sym (ap (λ d. d.reply) (restore-refused c.args.self.now.order c.args.self.now.shape c.args.id c.in-Some.copy.now _ c.in-Some-2.refusal there (ap (λ k. k.length) c.copy-2.view_is) (sym c.in_ok-refusal.ensures ∙ c.in-Some-2.is)))

pub returns-in-Some-2-clause-used : goal.returns-in-Some-2-clause-used
returns-in-Some-2-clause-used c =
    let there = sym c.copy.ensures ∙ ap option_copied c.in-Some.is in
    ap (λ t. t.used) c.refused-in-Some-2.ensures
    ∙ sym (ap (λ d. d.used) (restore-refused c.args.self.now.order c.args.self.now.shape c.args.id c.in-Some.copy.now _ c.in-Some-2.refusal there (ap (λ k. k.length) c.copy-2.view_is) (sym c.in_ok-refusal.ensures ∙ c.in-Some-2.is)))

pub returns-in-Some-2-clause-store : goal.returns-in-Some-2-clause-store
returns-in-Some-2-clause-store c =
    let there = sym c.copy.ensures ∙ ap option_copied c.in-Some.is in
    sym (ap (λ d. record c.args.self.now { shape = d.shape }) (restore-refused c.args.self.now.order c.args.self.now.shape c.args.id c.in-Some.copy.now _ c.in-Some-2.refusal there (ap (λ k. k.length) c.copy-2.view_is) (sym c.in_ok-refusal.ensures ∙ c.in-Some-2.is)))

pub returns-clause-store : goal.returns-clause-store
returns-clause-store c =
    let there = sym c.copy.ensures ∙ ap option_copied c.in-Some.is in
    c.in_ok-begin_restore.ensures
    ∙ ap (λ (b : ReplayState). record b { shape = restored b.shape c.args.id c.in-Ok.offset }) c.in_ok-offset.ensures.store
    ∙ ap (λ s. record c.args.self.now { shape = s })
    (restore-begun c.args.self.now c.requires.kept c.requires.live c.args.id c.in-Some.copy.now _ c.in-Ok.offset there (c.requires.unsealed c.in-Some.copy.now there) (ap (λ k. k.length) c.copy-2.view_is)
    (sym c.in_ok-refusal.ensures ∙ c.in_default-2.is) (sym c.in_ok-offset.ensures.offset ∙ c.in-Ok.is))
