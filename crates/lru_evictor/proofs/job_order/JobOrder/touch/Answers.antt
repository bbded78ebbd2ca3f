use Rattle.std.proofs.Common.{◌<◌, length, sym, ap, subst, ◌∙◌, reverse}
use Rattle.std.specs.Map.{set_value}
use Rattle.std.specs.Option.{option_copied_mut}
use Rattle.std.specs.Prelude.{if◌then◌else◌, is_some}
use Rattle.std.proofs.lemmas.Map.{keys-set_value}
use Rattle.obj_id.specs.Ids.{id_eq}
use Rattle.lru.specs.LruCache.{promoted}
use Rattle.private_store.specs.rules.Tables.{is_among}
use Rattle.lru_evictor.specs.Indexed.{IsIndexOf, shown_order}
use Rattle.lru_evictor.specs.Orders.{order_ids, last_used, touched, AllPass, OthersPass}
use Rattle.lru_evictor.proofs.CacheOrders.{order-has, order-promoted}
use Rattle.lru_evictor.proofs.Uses.{order-shown, set-moved, absent-passes, removed-passes, moved-length, stood-at}
use Rattle.lru_evictor.proofs.job_order.JobOrder.touch.Goals as goal

pub returns-in_default-clause-ids : goal.returns-in_default-clause-ids
returns-in_default-clause-ids c =
    let es = c.next_turn-turn.new.slots.entries in
    let view = c.next_turn-turn.ensures.same ∙ c.self.view_is in
    let none = sym c.get_mut.ensures.value ∙ ap option_copied_mut c.in_default.is in
    let among = ap (λ o. is_among o c.args.id) (sym (ap order_ids view) ∙ order-shown es) ∙ sym (order-has c.args.id es) ∙ ap is_some none in
    ap order_ids view ∙ ap (λ b. if b then last_used c.args.id (order_ids c.args.self.now) else order_ids c.args.self.now) (sym among)

pub returns-in_default-clause-infos : goal.returns-in_default-clause-infos
returns-in_default-clause-infos c f but here =
    let view = c.next_turn-turn.ensures.same ∙ c.self.view_is in
    absent-passes c.args.id f c.next_turn-turn.new.slots.entries (sym c.get_mut.ensures.value ∙ ap option_copied_mut c.in_default.is) (subst (OthersPass c.args.id f) (sym view) but)

pub invariant_of-self-2 : goal.invariant_of-self-2
invariant_of-self-2 c =
    let es = c.next_turn-turn.new.slots.entries in
    let found = sym c.get_mut.ensures.value ∙ ap option_copied_mut c.in-Some.is in
    let is = set-moved c.args.id c.in-Some.there.now (record { turn = c.next_turn-turn.result; eviction_info = c.stood-eviction_info.result }) es found in (
      c.next_turn-turn.ensures.cap ∙ c.self.invariant.0,
      subst (λ xs. IsIndexOf xs c.replace.new.self) (sym is) (c.replace.ensures es found c.next_turn-turn.ensures.of),
      subst (λ xs. length xs < 4611686018427387904) (sym is) (moved-length c.args.id c.in-Some.there.now (record { turn = c.next_turn-turn.result; eviction_info = c.stood-eviction_info.result }) es c.self.inside.slots.entries 4611686018427387904 found c.next_turn-turn.ensures.same c.self.invariant.2),
    )

pub returns-clause-ids : goal.returns-clause-ids
returns-clause-ids c =
    let es = c.next_turn-turn.new.slots.entries in
    let view = c.next_turn-turn.ensures.same ∙ c.self.view_is in
    order-shown (set_value (id_eq c.args.id) (promoted (id_eq c.args.id) es) (record { turn = c.next_turn-turn.result; eviction_info = c.stood-eviction_info.result }))
    ∙ ap reverse (keys-set_value (id_eq c.args.id) (promoted (id_eq c.args.id) es) (record { turn = c.next_turn-turn.result; eviction_info = c.stood-eviction_info.result }))
    ∙ order-promoted c.args.id es c.len-count.ensures.valid.0
    ∙ ap (touched c.args.id) (sym (order-shown es) ∙ ap order_ids view)

pub returns-clause-infos : goal.returns-clause-infos
returns-clause-infos c f but here =
    let es = c.next_turn-turn.new.slots.entries in
    let view = c.next_turn-turn.ensures.same ∙ c.self.view_is in
    let found = sym c.get_mut.ensures.value ∙ ap option_copied_mut c.in-Some.is in
    subst (λ es. AllPass f (shown_order es)) (sym (set-moved c.args.id c.in-Some.there.now (record { turn = c.next_turn-turn.result; eviction_info = c.stood-eviction_info.result }) es found))
    (stood-at c.args.id c.in-Some.there.now es c.args.self.now view found f c.args.eviction_info c.stood-eviction_info.result c.stood-eviction_info.ensures.stood here, removed-passes c.args.id f es c.len-count.ensures.valid.0 (subst (OthersPass c.args.id f) (sym view) but))
