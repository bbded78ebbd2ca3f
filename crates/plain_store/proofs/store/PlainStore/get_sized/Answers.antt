use Rattle.std.proofs.Common.{◌∙◌, sym, ap, is_some, arith}
use Rattle.std.specs.Option.{option_copied}
use Rattle.private_store.specs.rules.Replay.{ReplayState}
use Rattle.private_store.specs.rules.Room.{make_room}
use Rattle.private_store.specs.rules.Commands.{is_length}
use Rattle.plain_store.specs.Fetches.{pulled}
use Rattle.plain_store.proofs.Pulls.{sized-begun}
use Rattle.plain_store.proofs.store.PlainStore.get_sized.Goals as goal

pub returns-clause-store : goal.returns-clause-store
returns-clause-store c =
    let there = sym c.copy.ensures ∙ ap option_copied c.in-Some.is in
    let length = ap (λ k. k.length) c.copy-2.view_is in
    c.in_ok-pull_to.ensures
    ∙ ap (λ (b : ReplayState). record b { shape = pulled b.shape c.args.id c.args.source c.in-Ok.offset }) (c.in_ok-offset.ensures.store ∙ ap (λ n. record c.args.self.now { shape = (make_room c.args.self.now.order c.args.self.now.shape n).shape }) length)
    ∙ ap (λ s. record c.args.self.now { shape = s })
    (sized-begun c.args.self.now c.requires.kept c.requires.live c.args.id c.in-Some.copy.now c.args.source c.in-Ok.offset there (c.requires.unsealed c.in-Some.copy.now there)
    (sym (ap (is_length c.args.self.now.shape) length) ∙ sym c.is_length.ensures ∙ c.if-not-is_length.false)
    (sym (ap (λ n. (make_room c.args.self.now.order c.args.self.now.shape n).offset) length) ∙ sym c.in_ok-offset.ensures.offset ∙ c.in-Ok.is)
    (let view = ap (λ k. is_some k.fetch) c.copy-2.view_is in grind (arith, view, c.is_none.ensures, c.if-is_none.false)))
