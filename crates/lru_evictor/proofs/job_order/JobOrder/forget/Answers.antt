use Rattle.std.proofs.Common.{sym, ap, subst, ◌∙◌, reverse, length, arith, ◌<◌}
use Rattle.std.specs.Map.{keys_of}
use Rattle.lru_evictor.specs.Indexed.{IsIndexOf, shown_order}
use Rattle.lru_evictor.specs.Orders.{order_ids, without_id, AllPass, OthersPass}
use Rattle.lru_evictor.proofs.CacheOrders.{order-removed}
use Rattle.lru_evictor.proofs.Uses.{order-shown, none-removed, removed-passes, removed-length}
use Rattle.lru_evictor.proofs.job_order.JobOrder.forget.Goals as goal

pub invariant_of-self : goal.invariant_of-self
invariant_of-self c =
    let same = none-removed c.args.id.now c.self.inside.slots.entries (sym c.pop.ensures.value ∙ c.in_default.is) in
    let is = ap (λ a. a.entries) c.pop.ensures.entries ∙ same in
    (ap (λ a. a.cap) c.pop.ensures.entries ∙ c.self.invariant.0, subst (λ es. IsIndexOf es c.self.inside.index) (sym is) c.self.invariant.1, subst (λ es. length es < 4611686018427387904) (sym is) c.self.invariant.2)

pub invariant_of-self-2 : goal.invariant_of-self-2
invariant_of-self-2 c =
    let is = ap (λ a. a.entries) c.pop.ensures.entries in
    let fewer = removed-length c.args.id.now c.self.inside.slots.entries in (
      ap (λ a. a.cap) c.pop.ensures.entries ∙ c.self.invariant.0,
      subst (λ es. IsIndexOf es c.remove.new.self) (sym is) (c.remove.ensures c.args.id.now c.self.inside.slots.entries (sym c.pop.ensures.value ∙ c.in-Some.is) c.self.invariant.1),
      subst (λ es. length es < 4611686018427387904) (sym is) (omega (arith, fewer, c.self.invariant.2)),
    )

pub returns-in_default-clause-ids : goal.returns-in_default-clause-ids
returns-in_default-clause-ids c =
    order-shown c.pop.new.self.entries
    ∙ ap (λ a. reverse (keys_of a.entries)) c.pop.ensures.entries
    ∙ order-removed c.args.id.now c.self.inside.slots.entries c.len-count.ensures.valid.0
    ∙ ap (without_id c.args.id.now) (sym (order-shown c.self.inside.slots.entries) ∙ ap order_ids c.self.view_is)

pub returns-clause-ids : goal.returns-clause-ids
returns-clause-ids c =
    order-shown c.pop.new.self.entries
    ∙ ap (λ a. reverse (keys_of a.entries)) c.pop.ensures.entries
    ∙ order-removed c.args.id.now c.self.inside.slots.entries c.len-count.ensures.valid.0
    ∙ ap (without_id c.args.id.now) (sym (order-shown c.self.inside.slots.entries) ∙ ap order_ids c.self.view_is)

pub returns-in_default-clause-infos : goal.returns-in_default-clause-infos
returns-in_default-clause-infos c f but =
    subst (λ a. AllPass f (shown_order a.entries)) (sym c.pop.ensures.entries)
    (removed-passes c.args.id.now f c.self.inside.slots.entries c.len-count.ensures.valid.0 (subst (OthersPass c.args.id.now f) (sym c.self.view_is) but))

pub returns-clause-infos : goal.returns-clause-infos
returns-clause-infos c f but =
    subst (λ a. AllPass f (shown_order a.entries)) (sym c.pop.ensures.entries)
    (removed-passes c.args.id.now f c.self.inside.slots.entries c.len-count.ensures.valid.0 (subst (OthersPass c.args.id.now f) (sym c.self.view_is) but))
