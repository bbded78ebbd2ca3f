use Rattle.std.proofs.Common.{Some, sym, ap, ◌∙◌}
use Rattle.lru_evictor.specs.Orders.{may_lie}
use Rattle.lru_evictor.proofs.Spread.{stands-same, stands-nowhere, stands-leaving, stands-staying, may-nowhere, may-there}
use Rattle.lru_evictor.proofs.index.stand.Goals as goal

pub returns-then-are_same : goal.returns-then-are_same
returns-then-are_same c = stands-same c.args.before c.args.after c.args.residents.now (c.are_same.ensures c.if-are_same.true)

pub returns-in_default : goal.returns-in_default
returns-in_default c =
    let was = sym c.in_default.is in
    stands-nowhere c.args.before c.args.after c.args.residents.now c.args.residents.now (sym was) (may-nowhere c.args.after.extent (ap (λ o. may_lie o c.args.after.extent) was ∙ c.requires)) (λ i. c.args.residents.now)

pub returns-in-None : goal.returns-in-None
returns-in-None c = stands-leaving c.args.before c.args.after c.args.residents.now c.take.new.self c.in-Some.there c.in-Some.is c.in-None.is c.take.ensures.residents

pub returns-in-Some-extent : goal.returns-in-Some-extent
returns-in-Some-extent c =
    let there = may-there c.in-Some.there c.in-Some-extent.field-0 (sym (λ i. may_lie (c.in-Some.is i) (c.in-Some-extent.is i)) ∙ c.requires) in
    stands-staying c.args.before c.args.after c.args.residents.now c.set_classes.new.self c.in-Some.there c.in-Some.is (c.in-Some-extent.is ∙ ap Some (sym there)) c.set_classes.ensures.residents
