use Rattle.std.proofs.Common.{◌∷◌, ◌+◌, drop, refl, sym, ap, ◌∙◌}
use Rattle.std.proofs.lemmas.List.{drop_all, drop_more}
use Rattle.job_row.specs.Entries.{each_changed}
use Rattle.row_copy.specs.CopyViews.{spill_begun_if}
use Rattle.job_row.proofs.Removing.{changed-next}
use Rattle.job_row.proofs.copies.Copies.begin_spills.Goals as goal

pub loop-id-init : goal.loop-id-init
loop-id-init c = refl

pub loop-id-preserved : goal.loop-id-preserved
loop-id-preserved c =
    let next = drop_more c.args.ids.now c.loop-id.id-index c.id-item.result c.loop-id-test.true ∙ ap (λ x. x ∷ drop (c.loop-id.id-index + 1) c.args.ids.now) (sym c.id-item.is) in
    changed-next spill_begun_if c.args.ids.now _ _ c.loop-id.id-index c.id-item.result next c.apply.ensures.copies ∙ c.loop-id.invariant

pub returns : goal.returns
returns c = ap (each_changed spill_begun_if _) (sym (drop_all c.loop-id.id-index c.args.ids.now c.loop-id-test.false)) ∙ c.loop-id.invariant
