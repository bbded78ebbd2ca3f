use Rattle.std.proofs.Common.{◌∷◌, ◌+◌, drop, sym, ap, subst, ◌∙◌}
use Rattle.std.proofs.lemmas.List.{drop_all, drop_more}
use Rattle.lru_evictor.specs.Orders.{AllPass}
use Rattle.job_row.proofs.FollowsCopies.{is_waiting, waits, response}
use Rattle.job_row.proofs.syncing.sync_each.Goals as goal

pub loop-id-preserved : goal.loop-id-preserved
loop-id-preserved c =
    let rest = drop (c.loop-id.id-index + 1) c.args.ids.now in
    let next = drop_more c.args.ids.now c.loop-id.id-index c.id-item.result c.loop-id-test.true ∙ ap (λ x. x ∷ rest) (sym c.id-item.is) in
    record {
      ids = c.set_info.ensures.ids ∙ c.loop-id.invariant.ids;
      followed = λ spared h.
          response c.id-item.result rest spared c.args.copies.now c.eviction_info.result c.eviction_info.ensures c.loop-id.order c.set_info.new.self c.set_info.ensures.infos
          (subst (λ ids. AllPass (is_waiting ids spared c.args.copies.now) c.loop-id.order) next (c.loop-id.invariant.followed spared h));
    }

pub returns-clause-infos : goal.returns-clause-infos
returns-clause-infos c spared before same keep followed =
    subst (λ ids. AllPass (is_waiting ids spared c.args.copies.now) c.loop-id.order) (drop_all c.loop-id.id-index c.args.ids.now c.loop-id-test.false)
    (c.loop-id.invariant.followed spared (waits c.args.ids.now spared before c.args.copies.now same keep c.args.order.now followed))
