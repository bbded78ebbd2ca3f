use Rattle.std.proofs.Common.{◌∷◌, ◌+◌, ◌++◌, drop, map, sym, ap, ◌∙◌, arith}
use Rattle.std.specs.Prelude.{option_to_list}
use Rattle.std.proofs.lemmas.List.{append-nil, append_assoc, drop_all, drop_more}
use Rattle.obj_id.specs.declared.commands.OwnItem.{OwnItem}
use Rattle.job_row.specs.Ending.{keys_backed}
use Rattle.row_commands.proofs.ending.keys_each.Goals as goal

pub loop-item-init : goal.loop-item-init
loop-item-init c = record {
  keys = ap (λ ks. ks ++ keys_backed c.args.row.now (map (λ (item : OwnItem). item.id) c.args.items.now)) c.in_ok-keys.ensures.items;
  few = omega (arith, c.in_ok-keys.ensures.len);
  room = c.in_ok-keys.ensures.capacity;
}

pub push_key-requires : goal.push_key-requires
push_key-requires c = omega (arith, c.loop-item-test.true, c.loop-item.invariant.few, c.loop-item.invariant.room)

pub loop-item-preserved : goal.loop-item-preserved
loop-item-preserved c =
    let next = drop_more c.args.items.now c.loop-item.item-index c.item-item.result c.loop-item-test.true ∙ ap (λ x. x ∷ drop (c.loop-item.item-index + 1) c.args.items.now) (sym c.item-item.is) in
    let pushed = c.push_key.ensures.items ∙ ap (λ k. c.loop-item.keys.items ++ option_to_list k) c.device_key.ensures in
    let rest = map (λ (item : OwnItem). item.id) (drop (c.loop-item.item-index + 1) c.args.items.now) in
    record {
      keys = ap (λ ks. ks ++ keys_backed c.args.row.now rest) pushed ∙ append_assoc c.loop-item.keys.items _ _
          ∙ ap (λ xs. c.loop-item.keys.items ++ keys_backed c.args.row.now (map (λ (item : OwnItem). item.id) xs)) (sym next) ∙ c.loop-item.invariant.keys;
      few = omega (arith, c.push_key.ensures.len, c.loop-item.invariant.few);
      room = omega (arith, c.push_key.ensures.capacity, c.loop-item.invariant.room);
    }

pub returns : goal.returns
returns c =
    let none = drop_all c.loop-item.item-index c.args.items.now c.loop-item-test.false in
    c.from_vec.ensures ∙ sym (append-nil c.loop-item.keys.items)
    ∙ ap (λ xs. c.loop-item.keys.items ++ keys_backed c.args.row.now (map (λ (item : OwnItem). item.id) xs)) (sym none) ∙ c.loop-item.invariant.keys
