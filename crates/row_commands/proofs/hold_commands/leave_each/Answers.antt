use Rattle.std.proofs.Common.{◌∷◌, ◌+◌, ◌++◌, List, drop, fold, map, refl, sym, ap, ◌∙◌, arith}
use Rattle.std.proofs.lemmas.List.{append-nil, append_assoc, drop_all, drop_more}
use Rattle.obj_id.specs.declared.commands.OwnItem.{OwnItem}
use Rattle.obj_id.specs.declared.ids.ObjectId.{ObjectId}
use Rattle.job_row.specs.Dropping.{left_row, keys_left}
use Rattle.row_commands.proofs.hold_commands.leave_each.Goals as goal

ids : List OwnItem → List ObjectId
ids items = map (λ item. item.id) items

pub loop-item-init : goal.loop-item-init
loop-item-init c = record {
  row = refl;
  keys = ap (λ ks. ks ++ keys_left c.args.session c.args.row.now (map (λ item. item.id) c.args.items.now)) c.in_ok-keys.ensures.items;
  few = omega (arith, c.in_ok-keys.ensures.len);
  room = c.in_ok-keys.ensures.capacity;
}

pub push_key-requires : goal.push_key-requires
push_key-requires c = omega (arith, c.loop-item-test.true, c.loop-item.invariant.few, c.loop-item.invariant.room)

pub loop-item-preserved : goal.loop-item-preserved
loop-item-preserved c =
    let next = drop_more c.args.items.now c.loop-item.item-index c.item-item.result c.loop-item-test.true ∙ ap (λ x. x ∷ drop (c.loop-item.item-index + 1) c.args.items.now) (sym c.item-item.is) in
    let step = c.apply_and_settle-key.ensures.row in
    let key = c.apply_and_settle-key.ensures.keys in
    let pushed = c.push_key.ensures.items ∙ ap (λ ks. c.loop-item.keys.items ++ ks) key in
    let rest = map (λ (item : OwnItem). item.id) (drop (c.loop-item.item-index + 1) c.args.items.now) in
    record {
      row = ap (λ r. fold (left_row c.args.session) r rest) step
          ∙ ap (λ xs. fold (left_row c.args.session) c.loop-item.row (map (λ (item : OwnItem). item.id) xs)) (sym next) ∙ c.loop-item.invariant.row;
      keys = (λ i. pushed i ++ keys_left c.args.session (step i) rest) ∙ append_assoc c.loop-item.keys.items _ _
          ∙ ap (λ xs. c.loop-item.keys.items ++ keys_left c.args.session c.loop-item.row (map (λ (item : OwnItem). item.id) xs)) (sym next) ∙ c.loop-item.invariant.keys;
      few = omega (arith, c.push_key.ensures.len, c.loop-item.invariant.few);
      room = omega (arith, c.push_key.ensures.capacity, c.loop-item.invariant.room);
    }

pub returns-clause-keys : goal.returns-clause-keys
returns-clause-keys c =
    let none = drop_all c.loop-item.item-index c.args.items.now c.loop-item-test.false in
    c.from_vec.ensures ∙ sym (append-nil c.loop-item.keys.items)
    ∙ ap (λ xs. c.loop-item.keys.items ++ keys_left c.args.session c.loop-item.row (map (λ (item : OwnItem). item.id) xs)) (sym none) ∙ c.loop-item.invariant.keys

pub returns-clause-row : goal.returns-clause-row
returns-clause-row c =
    ap (λ xs. fold (left_row c.args.session) c.loop-item.row (map (λ (item : OwnItem). item.id) xs)) (sym (drop_all c.loop-item.item-index c.args.items.now c.loop-item-test.false)) ∙ c.loop-item.invariant.row
