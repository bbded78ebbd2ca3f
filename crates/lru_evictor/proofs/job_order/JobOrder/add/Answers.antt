use Rattle.std.proofs.Common.{◌∷◌, ◌<◌, length, sym, ap, subst, ◌∙◌, reverse, arith}
use Rattle.std.specs.Map.{keys_of}
use Rattle.private_store.specs.rules.Tables.{is_among}
use Rattle.lru_evictor.specs.Indexed.{IsIndexOf, shown_order}
use Rattle.lru_evictor.specs.Orders.{order_ids, last_used, AllPass, OthersPass}
use Rattle.lru_evictor.proofs.CacheOrders.{order-put}
use Rattle.lru_evictor.proofs.Uses.{order-shown, not-there, put-absent, absent-passes}
use Rattle.lru_evictor.proofs.job_order.JobOrder.add.Goals as goal

pub invariant_of-self-2 : goal.invariant_of-self-2
invariant_of-self-2 c =
    let es = c.next_turn-turn.new.slots.entries in
    let view = c.next_turn-turn.ensures.same ∙ c.self.view_is in
    let none = not-there c.args.id es (ap (λ ids. is_among ids c.args.id) (sym (order-shown es) ∙ ap order_ids view) ∙ c.requires) in
    let cap = c.next_turn-turn.ensures.cap ∙ c.self.invariant.0 in
    let is = ap (λ a. a.entries) c.in_ok-put.ensures.entries ∙ put-absent c.args.id c.next_turn-turn.new.slots _ none (omega (arith, cap, c.in_ok-check_countable.ensures.fewer)) in (
      ap (λ a. a.cap) c.in_ok-put.ensures.entries ∙ cap,
      subst (λ xs. IsIndexOf xs c.add.new.self) (sym is) (subst (λ s. IsIndexOf ((c.args.id, record { turn = c.next_turn-turn.result; eviction_info = s }) ∷ es) c.add.new.self) (sym c.nowhere-eviction_info.ensures) (c.add.ensures es c.next_turn-turn.ensures.of)),
      subst (λ xs. length xs < 4611686018427387904) (sym is) (omega (arith, c.in_ok-check_countable.ensures.fewer)),
    )

pub returns-clause-ids : goal.returns-clause-ids
returns-clause-ids c =
    let view = c.next_turn-turn.ensures.same ∙ c.self.view_is in
    let cap = c.next_turn-turn.ensures.cap ∙ c.self.invariant.0 in
    order-shown c.put.new.cache.entries
    ∙ ap (λ a. reverse (keys_of a.entries)) c.in_ok-put.ensures.entries
    ∙ order-put c.args.id c.next_turn-turn.new.slots _ c.in_ok-check_countable.ensures.valid.0 (omega (arith, cap, c.in_ok-check_countable.ensures.fewer))
    ∙ ap (last_used c.args.id) (sym (order-shown c.next_turn-turn.new.slots.entries) ∙ ap order_ids view)

pub returns-clause-infos : goal.returns-clause-infos
returns-clause-infos c f but here =
    let es = c.next_turn-turn.new.slots.entries in
    let view = c.next_turn-turn.ensures.same ∙ c.self.view_is in
    let none = not-there c.args.id es (ap (λ ids. is_among ids c.args.id) (sym (order-shown es) ∙ ap order_ids view) ∙ c.requires) in
    let cap = c.next_turn-turn.ensures.cap ∙ c.self.invariant.0 in
    let is = ap (λ a. a.entries) c.in_ok-put.ensures.entries ∙ put-absent c.args.id c.next_turn-turn.new.slots _ none (omega (arith, cap, c.in_ok-check_countable.ensures.fewer)) in
    subst (λ es. AllPass f (shown_order es)) (sym is) (ap (f c.args.id) c.nowhere-eviction_info.ensures ∙ here, absent-passes c.args.id f es none (subst (OthersPass c.args.id f) (sym view) but))
