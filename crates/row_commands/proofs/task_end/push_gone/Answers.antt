use Rattle.std.proofs.Common.{◌∷◌, ◌+◌, ◌++◌, drop, refl, sym, ap, ◌∙◌, arith}
use Rattle.std.proofs.lemmas.List.{append-nil, append_assoc, drop_all, drop_more}
use Rattle.job_row.specs.EndingTasks.{gone_keys}
use Rattle.row_commands.proofs.task_end.push_gone.Goals as goal

pub loop-item-init : goal.loop-item-init
loop-item-init c = record {
  keys = refl;
  few = omega arith;
  room = c.requires;
  grows = omega arith;
}

pub push_key-requires : goal.push_key-requires
push_key-requires c = omega (arith, c.loop-item-test.true, c.loop-item.invariant.few, c.loop-item.invariant.room, c.loop-item.invariant.grows)

pub loop-item-preserved : goal.loop-item-preserved
loop-item-preserved c =
    let next = drop_more c.args.keys.now c.loop-item.item-index c.item-item.result c.loop-item-test.true ∙ ap (λ x. x ∷ drop (c.loop-item.item-index + 1) c.args.keys.now) (sym c.item-item.is) in
    let pushed = c.push_key.ensures.items ∙ ap (λ ks. c.loop-item.erased.items ++ ks) c.key_if_gone.ensures in
    record {
      keys = ap (λ ks. ks ++ gone_keys c.args.row.now (drop (c.loop-item.item-index + 1) c.args.keys.now)) pushed ∙ append_assoc c.loop-item.erased.items _ _
          ∙ ap (λ xs. c.loop-item.erased.items ++ gone_keys c.args.row.now xs) (sym next) ∙ c.loop-item.invariant.keys;
      few = omega (arith, c.push_key.ensures.len, c.loop-item.invariant.few);
      room = c.loop-item.invariant.room;
      grows = omega (arith, c.push_key.ensures.capacity, c.loop-item.invariant.grows);
    }

pub returns : goal.returns
returns c =
    sym (append-nil c.loop-item.erased.items)
    ∙ ap (λ xs. c.loop-item.erased.items ++ gone_keys c.args.row.now xs) (sym (drop_all c.loop-item.item-index c.args.keys.now c.loop-item-test.false)) ∙ c.loop-item.invariant.keys
