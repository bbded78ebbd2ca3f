use Rattle.std.proofs.Common.{◌∷◌, ◌+◌, ◌++◌, drop, fold, map, refl, sym, ap, ◌∙◌, arith}
use Rattle.std.proofs.lemmas.List.{append-nil, append_assoc, drop_all, drop_more}
use Rattle.obj_id.specs.declared.commands.OwnItem.{OwnItem}
use Rattle.job_row.specs.EndingTasks.{doomed_row, doom_posts, posts_of_each}
use Rattle.row_commands.proofs.task_end.doom_each.Goals as goal

pub loop-item-init : goal.loop-item-init
loop-item-init c = record {
  row = refl;
  sent = refl;
  few = omega arith;
  room = c.requires;
  grows = omega arith;
}

pub doom_one-requires : goal.doom_one-requires
doom_one-requires c = omega (arith, c.loop-item-test.true, c.loop-item.invariant.few, c.loop-item.invariant.room, c.loop-item.invariant.grows)

pub loop-item-preserved : goal.loop-item-preserved
loop-item-preserved c =
    let next = drop_more c.args.items.now c.loop-item.item-index c.item-item.result c.loop-item-test.true ∙ ap (λ x. x ∷ drop (c.loop-item.item-index + 1) c.args.items.now) (sym c.item-item.is) in
    let rest = map (λ (item : OwnItem). item.id) (drop (c.loop-item.item-index + 1) c.args.items.now) in
    record {
      row = ap (λ r. fold (doomed_row c.args.task) r rest) c.doom_one.ensures.row
          ∙ ap (λ xs. fold (doomed_row c.args.task) c.loop-item.row (map (λ (item : OwnItem). item.id) xs)) (sym next) ∙ c.loop-item.invariant.row;
      sent = (λ i. c.doom_one.ensures.sent i ++ posts_of_each (doomed_row c.args.task) (doom_posts c.args.node c.args.task) (c.doom_one.ensures.row i) rest) ∙ append_assoc c.loop-item.messages.items _ _
          ∙ ap (λ xs. c.loop-item.messages.items ++ posts_of_each (doomed_row c.args.task) (doom_posts c.args.node c.args.task) c.loop-item.row (map (λ (item : OwnItem). item.id) xs)) (sym next) ∙ c.loop-item.invariant.sent;
      few = omega (arith, c.doom_one.ensures.len, c.loop-item.invariant.few);
      room = c.loop-item.invariant.room;
      grows = omega (arith, c.doom_one.ensures.capacity, c.loop-item.invariant.grows);
    }

pub returns-clause-row : goal.returns-clause-row
returns-clause-row c =
    ap (λ xs. fold (doomed_row c.args.task) c.loop-item.row (map (λ (item : OwnItem). item.id) xs)) (sym (drop_all c.loop-item.item-index c.args.items.now c.loop-item-test.false)) ∙ c.loop-item.invariant.row

pub returns-clause-sent : goal.returns-clause-sent
returns-clause-sent c =
    sym (append-nil c.loop-item.messages.items)
    ∙ ap (λ xs. c.loop-item.messages.items ++ posts_of_each (doomed_row c.args.task) (doom_posts c.args.node c.args.task) c.loop-item.row (map (λ (item : OwnItem). item.id) xs)) (sym (drop_all c.loop-item.item-index c.args.items.now c.loop-item-test.false)) ∙ c.loop-item.invariant.sent
