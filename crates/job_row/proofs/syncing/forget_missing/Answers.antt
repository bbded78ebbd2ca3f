use Rattle.std.proofs.Common.{◌∷◌, ◌+◌, drop, sym, ap, subst, ◌∙◌}
use Rattle.std.proofs.lemmas.List.{drop_all, drop_more}
use Rattle.private_store.specs.rules.Tables.{at}
use Rattle.lru_evictor.specs.Orders.{order_ids}
use Rattle.job_row.specs.Evicting.{without_missing}
use Rattle.job_row.specs.InSync.{is_in_sync_except, InSyncExcept}
use Rattle.job_row.proofs.Evicting.{missing-more, missing-stays, missing-none, not_there, is_there}
use Rattle.job_row.proofs.FollowsCopies.{all_others}
use Rattle.job_row.proofs.syncing.forget_missing.Goals as goal
use Rattle.job_row.proofs.syncing.forget_missing.Goals.{then-not-has, else-not-has}

pub loop-id-preserved : goal.loop-id-preserved
loop-id-preserved c =
    let rest = drop (c.loop-id.id-index + 1) c.args.ids.now in
    let next = drop_more c.args.ids.now c.loop-id.id-index c.id-item.result c.loop-id-test.true ∙ ap (λ x. x ∷ rest) (sym c.id-item.is) in
    let whole = ap (λ ids. without_missing c.args.copies.now ids (order_ids c.loop-id.order)) (sym next) ∙ c.loop-id.invariant.ids in
    elim c.if-not-has.branch [
      | then-not-has w ↦ record {
        ids =
            ap (λ o. without_missing c.args.copies.now rest (order_ids o)) w.order-is
            ∙ ap (without_missing c.args.copies.now rest) w.forget.ensures.ids
            ∙ missing-more c.args.copies.now c.id-item.result rest (order_ids c.loop-id.order) (not_there (at c.args.copies.now c.id-item.result) (sym c.has.ensures ∙ w.if-not-has.true)) ∙ whole;
        followed = λ spared h.
            let test = is_in_sync_except spared c.args.copies.now in
            subst (InSyncExcept spared c.args.copies.now) (sym w.order-is) (w.forget.ensures.infos test (all_others c.id-item.result test c.loop-id.order (c.loop-id.invariant.followed spared h)));
      }
      | else-not-has w ↦ record {
        ids =
            ap (λ o. without_missing c.args.copies.now rest (order_ids o)) w.order-is
            ∙ missing-stays c.args.copies.now c.id-item.result rest (order_ids c.loop-id.order) (is_there (at c.args.copies.now c.id-item.result) (sym c.has.ensures ∙ w.if-not-has.false)) ∙ whole;
        followed = λ spared h. subst (InSyncExcept spared c.args.copies.now) (sym w.order-is) (c.loop-id.invariant.followed spared h);
      }
    ]

pub returns-clause-ids : goal.returns-clause-ids
returns-clause-ids c =
    sym (missing-none c.args.copies.now (order_ids c.loop-id.order))
    ∙ ap (λ ids. without_missing c.args.copies.now ids (order_ids c.loop-id.order)) (sym (drop_all c.loop-id.id-index c.args.ids.now c.loop-id-test.false)) ∙ c.loop-id.invariant.ids
