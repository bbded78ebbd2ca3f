use Rattle.std.proofs.Common.{sym, ap, subst, ◌∙◌, reverse, length, ◌<◌}
use Rattle.std.specs.Map.{set_value}
use Rattle.std.specs.Option.{option_copied_mut}
use Rattle.std.proofs.lemmas.Map.{keys-set_value}
use Rattle.std.proofs.lemmas.Map.Steps.{set_value_same}
use Rattle.lru_evictor.specs.Indexed.{IsIndexOf, shown_order}
use Rattle.obj_id.specs.Ids.{id_eq}
use Rattle.lru_evictor.specs.Orders.{order_ids, OthersPass}
use Rattle.lru_evictor.proofs.Uses.{order-shown, absent-passes, set-passes, set-length, stood-at}
use Rattle.lru_evictor.proofs.job_order.JobOrder.set_info.Goals as goal

pub returns-in_default-clause-infos : goal.returns-in_default-clause-infos
returns-in_default-clause-infos c f but here = absent-passes c.args.id.now f c.self.inside.slots.entries (sym c.peek_mut.ensures.value ∙ ap option_copied_mut c.in_default.is) (subst (OthersPass c.args.id.now f) (sym c.self.view_is) but)

pub invariant_of-self-2 : goal.invariant_of-self-2
invariant_of-self-2 c =
    let found = sym c.peek_mut.ensures.value ∙ ap option_copied_mut c.in-Some.is in
    (c.self.invariant.0, c.set_info.ensures c.args.id.now c.self.inside.slots.entries found c.self.invariant.1, subst (λ n. n < 4611686018427387904) (sym (set-length c.args.id.now _ c.self.inside.slots.entries)) c.self.invariant.2)

pub returns-clause-ids : goal.returns-clause-ids
returns-clause-ids c =
    let es = c.self.inside.slots.entries in
    order-shown (set_value (id_eq c.args.id.now) es (record { turn = c.in-Some.there.now.turn; eviction_info = c.stood-eviction_info.result }))
    ∙ ap reverse (keys-set_value (id_eq c.args.id.now) es (record { turn = c.in-Some.there.now.turn; eviction_info = c.stood-eviction_info.result }))
    ∙ sym (order-shown es) ∙ ap order_ids c.self.view_is

pub returns-clause-infos : goal.returns-clause-infos
returns-clause-infos c f but here =
    let found = sym c.peek_mut.ensures.value ∙ ap option_copied_mut c.in-Some.is in
    set-passes c.args.id.now f c.self.inside.slots.entries (record { turn = c.in-Some.there.now.turn; eviction_info = c.stood-eviction_info.result }) c.len-count.ensures.valid.0 (subst (OthersPass c.args.id.now f) (sym c.self.view_is) but)
    (stood-at c.args.id.now c.in-Some.there.now c.self.inside.slots.entries c.args.self.now c.self.view_is found f c.args.eviction_info c.stood-eviction_info.result c.stood-eviction_info.ensures.stood here)

pub invariant_of-self-then-are_same : goal.invariant_of-self-then-are_same
invariant_of-self-then-are_same c =
    let same = set_value_same (id_eq c.args.id.now) c.self.inside.slots.entries c.in-Some.there.now (sym c.peek_mut.ensures.value ∙ ap option_copied_mut c.in-Some.is) in
    (c.self.invariant.0, subst (λ es. IsIndexOf es c.self.inside.index) (sym same) c.self.invariant.1, subst (λ es. length es < 4611686018427387904) (sym same) c.self.invariant.2)

pub returns-then-are_same-clause-ids : goal.returns-then-are_same-clause-ids
returns-then-are_same-clause-ids c =
    let same = set_value_same (id_eq c.args.id.now) c.self.inside.slots.entries c.in-Some.there.now (sym c.peek_mut.ensures.value ∙ ap option_copied_mut c.in-Some.is) in
    ap (λ es. order_ids (shown_order es)) same ∙ ap order_ids c.self.view_is

pub returns-then-are_same-clause-infos : goal.returns-then-are_same-clause-infos
returns-then-are_same-clause-infos c test but here =
    let found = sym c.peek_mut.ensures.value ∙ ap option_copied_mut c.in-Some.is in
    set-passes c.args.id.now test c.self.inside.slots.entries c.in-Some.there.now c.len-count.ensures.valid.0 (subst (OthersPass c.args.id.now test) (sym c.self.view_is) but)
    (stood-at c.args.id.now c.in-Some.there.now c.self.inside.slots.entries c.args.self.now c.self.view_is found test c.args.eviction_info c.in-Some.there.now.eviction_info (c.are_same.ensures c.if-are_same.true ∙ c.stood-eviction_info.ensures.stood) here)
