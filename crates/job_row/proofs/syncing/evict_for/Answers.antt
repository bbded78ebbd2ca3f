use Rattle.std.proofs.Common.{[], ◌∷◌, ap, ◌∙◌}
use Rattle.job_row.specs.Evicting.{without_missing}
use Rattle.job_row.proofs.FollowsCopies.{evicted_but, evicted_keep, told_settled}
use Rattle.job_row.proofs.syncing.evict_for.Goals as goal

pub returns-clause-ids : goal.returns-clause-ids
returns-clause-ids c = c.insert_resident.ensures.ids ∙ c.forget_missing.ensures.ids ∙ ap (without_missing c.evict_all.new.self c.args.victims.now) c.sync_each.ensures.ids

pub returns-clause-infos : goal.returns-clause-infos
returns-clause-infos c alone followed =
    told_settled c.args.id.now c.evict_all.new.self c.args.extent alone c.eviction_info.result c.forget_missing.new.order c.insert_resident.new.self c.eviction_info.ensures c.insert_resident.ensures.infos
    (c.forget_missing.ensures.infos (c.args.id.now ∷ [])
    (c.sync_each.ensures.infos (c.args.id.now ∷ []) c.args.copies.now (evicted_but c.args.victims.now c.args.copies.now c.evict_all.new.self c.evict_all.ensures)
    (evicted_keep c.args.victims.now c.args.copies.now c.evict_all.new.self c.evict_all.ensures) followed))
