use Rattle.std.proofs.Common.{◌∷◌, ◌+◌, drop, refl, sym, ap, ◌∙◌}
use Rattle.std.proofs.lemmas.List.{drop_all, drop_more}
use Rattle.job_row.specs.Evicting.{all_evicted}
use Rattle.job_row.proofs.copies.Copies.evict_all.Goals as goal

pub loop-id-init : goal.loop-id-init
loop-id-init c = refl

pub loop-id-preserved : goal.loop-id-preserved
loop-id-preserved c =
    let next = drop_more c.args.ids.now c.loop-id.id-index c.id-item.result c.loop-id-test.true ∙ ap (λ x. x ∷ drop (c.loop-id.id-index + 1) c.args.ids.now) (sym c.id-item.is) in
    ap (all_evicted (drop (c.loop-id.id-index + 1) c.args.ids.now)) c.evict.ensures ∙ ap (λ ids. all_evicted ids c.loop-id.self) (sym next) ∙ c.loop-id.invariant

pub returns : goal.returns
returns c = ap (λ ids. all_evicted ids c.loop-id.self) (sym (drop_all c.loop-id.id-index c.args.ids.now c.loop-id-test.false)) ∙ c.loop-id.invariant
