use Rattle.std.proofs.Common.{Some, sym, ap, subst, ◌∙◌, reverse, length, ◌<◌}
use Rattle.std.specs.Prelude.{not, ◌&&◌, nat_lt}
use Rattle.std.specs.Map.{set_value}
use Rattle.std.specs.Option.{option_copied_mut}
use Rattle.std.proofs.lemmas.Map.{keys-set_value}
use Rattle.std.proofs.lemmas.Map.Steps.{set_value_same}
use Rattle.obj_id.specs.Ids.{id_eq}
use Rattle.extent_tree.specs.Residents.{has_resident}
use Rattle.lru_evictor.specs.Indexed.{IsIndexOf, shown_order}
use Rattle.lru_evictor.specs.Orders.{order_ids, OthersPass}
use Rattle.lru_evictor.proofs.Uses.{order-shown, absent-passes, set-passes, set-length, settled-at, settled-there, settled-now, settled-not}
use Rattle.lru_evictor.proofs.job_order.JobOrder.insert_resident.Goals as goal

pub returns-in_default-clause-infos : goal.returns-in_default-clause-infos
returns-in_default-clause-infos c f but here = absent-passes c.args.id.now f c.self.inside.slots.entries (sym c.peek_mut.ensures.value ∙ ap option_copied_mut c.in_default.is) (subst (OthersPass c.args.id.now f) (sym c.self.view_is) but)

pub invariant_of-self-then-is_some : goal.invariant_of-self-then-is_some
invariant_of-self-then-is_some c =
    let same = set_value_same (id_eq c.args.id.now) c.self.inside.slots.entries c.in-Some.there.now (sym c.peek_mut.ensures.value ∙ ap option_copied_mut c.in-Some.is) in
    (c.self.invariant.0, subst (λ es. IsIndexOf es c.self.inside.index) (sym same) c.self.invariant.1, subst (λ es. length es < 4611686018427387904) (sym same) c.self.invariant.2)

pub returns-then-is_some-clause-ids : goal.returns-then-is_some-clause-ids
returns-then-is_some-clause-ids c =
    let same = set_value_same (id_eq c.args.id.now) c.self.inside.slots.entries c.in-Some.there.now (sym c.peek_mut.ensures.value ∙ ap option_copied_mut c.in-Some.is) in
    ap (λ es. order_ids (shown_order es)) same ∙ ap order_ids c.self.view_is

pub returns-then-is_some-clause-infos : goal.returns-then-is_some-clause-infos
returns-then-is_some-clause-infos c test but here =
    let found = sym c.peek_mut.ensures.value ∙ ap option_copied_mut c.in-Some.is in
    set-passes c.args.id.now test c.self.inside.slots.entries c.in-Some.there.now c.len-count.ensures.valid.0 (subst (OthersPass c.args.id.now test) (sym c.self.view_is) but)
    (settled-at c.args.id.now c.in-Some.there.now c.self.inside.slots.entries c.args.self.now c.self.view_is found test c.args.resident c.in-Some.there.now.eviction_info
    (settled-there c.in-Some.there.now.eviction_info c.args.resident c.args.self.now (sym c.is_some.ensures ∙ c.if-is_some.true)) here)

pub invariant_of-self-then-not-insert_resident : goal.invariant_of-self-then-not-insert_resident
invariant_of-self-then-not-insert_resident c =
    let same = set_value_same (id_eq c.args.id.now) c.self.inside.slots.entries c.in-Some.there.now (sym c.peek_mut.ensures.value ∙ ap option_copied_mut c.in-Some.is) in
    (c.self.invariant.0, subst (λ es. IsIndexOf es c.insert_resident.new.self) (sym same) (subst (IsIndexOf c.self.inside.slots.entries) (sym (c.insert_resident.ensures.refused c.if-not-insert_resident.true)) c.self.invariant.1), subst (λ es. length es < 4611686018427387904) (sym same) c.self.invariant.2)

pub returns-then-not-insert_resident-clause-ids : goal.returns-then-not-insert_resident-clause-ids
returns-then-not-insert_resident-clause-ids c =
    let same = set_value_same (id_eq c.args.id.now) c.self.inside.slots.entries c.in-Some.there.now (sym c.peek_mut.ensures.value ∙ ap option_copied_mut c.in-Some.is) in
    ap (λ es. order_ids (shown_order es)) same ∙ ap order_ids c.self.view_is

pub returns-then-not-insert_resident-clause-infos : goal.returns-then-not-insert_resident-clause-infos
returns-then-not-insert_resident-clause-infos c test but here =
    let found = sym c.peek_mut.ensures.value ∙ ap option_copied_mut c.in-Some.is in
    let es = c.self.inside.slots.entries in
    let when = c.insert_resident.ensures.when ∙ ap (λ xs. nat_lt c.args.resident.extent.offset 536870912 && (nat_lt c.args.resident.extent.length 4294967296 && not (has_resident c.args.resident.extent.offset xs))) c.self.invariant.1.residents in
    set-passes c.args.id.now test es c.in-Some.there.now c.len-count.ensures.valid.0 (subst (OthersPass c.args.id.now test) (sym c.self.view_is) but)
    (settled-at c.args.id.now c.in-Some.there.now es c.args.self.now c.self.view_is found test c.args.resident c.in-Some.there.now.eviction_info
    (settled-not c.in-Some.there.now.eviction_info c.args.resident es c.args.self.now c.self.view_is (sym c.is_some.ensures ∙ c.if-is_some.false) c.insert_resident.result when c.if-not-insert_resident.true) here)

pub invariant_of-self-2 : goal.invariant_of-self-2
invariant_of-self-2 c =
    let found = sym c.peek_mut.ensures.value ∙ ap option_copied_mut c.in-Some.is in
    (c.self.invariant.0, c.insert_resident.ensures.settled c.if-not-insert_resident.false c.args.id.now c.self.inside.slots.entries found c.self.invariant.1, subst (λ n. n < 4611686018427387904) (sym (set-length c.args.id.now _ c.self.inside.slots.entries)) c.self.invariant.2)

pub returns-clause-ids : goal.returns-clause-ids
returns-clause-ids c =
    let es = c.self.inside.slots.entries in
    order-shown (set_value (id_eq c.args.id.now) es (record { turn = c.in-Some.there.now.turn; eviction_info = record { extent = Some c.args.resident.extent; classes = c.args.resident.classes } }))
    ∙ ap reverse (keys-set_value (id_eq c.args.id.now) es (record { turn = c.in-Some.there.now.turn; eviction_info = record { extent = Some c.args.resident.extent; classes = c.args.resident.classes } }))
    ∙ sym (order-shown es) ∙ ap order_ids c.self.view_is

pub returns-clause-infos : goal.returns-clause-infos
returns-clause-infos c test but here =
    let found = sym c.peek_mut.ensures.value ∙ ap option_copied_mut c.in-Some.is in
    let es = c.self.inside.slots.entries in
    let when = c.insert_resident.ensures.when ∙ ap (λ xs. nat_lt c.args.resident.extent.offset 536870912 && (nat_lt c.args.resident.extent.length 4294967296 && not (has_resident c.args.resident.extent.offset xs))) c.self.invariant.1.residents in
    set-passes c.args.id.now test es (record { turn = c.in-Some.there.now.turn; eviction_info = record { extent = Some c.args.resident.extent; classes = c.args.resident.classes } }) c.len-count.ensures.valid.0 (subst (OthersPass c.args.id.now test) (sym c.self.view_is) but)
    (settled-at c.args.id.now c.in-Some.there.now es c.args.self.now c.self.view_is found test c.args.resident (record { extent = Some c.args.resident.extent; classes = c.args.resident.classes })
    (settled-now c.in-Some.there.now.eviction_info c.args.resident es c.args.self.now c.self.view_is (sym c.is_some.ensures ∙ c.if-is_some.false) c.insert_resident.result when c.if-not-insert_resident.false) here)
