use Rattle.std.proofs.Common.{◌∙◌, ◌++◌, ◌∷◌, sym, ap, subst, arith, List, length, take, drop, is_ok, ◌≤◌}
use Rattle.std.specs.Prelude.{if◌then◌else◌}
use Rattle.obj_id.specs.declared.works.Extent.{Extent}
use Rattle.job_region.specs.Layout.{LiesBefore, After}
use Rattle.job_region.proofs.Bisected.{put_at}
use Rattle.job_region.proofs.Zipped.{filled_length, put_filled, put_zipped}
use Rattle.job_region.proofs.extents.put.Goals as goal

pub insert-requires-2 : goal.insert-requires-2
insert-requires-2 c =
    let es = c.args.extents.now.items in
    let bs = c.args.buffers.now.items in
    let k = c.place_of-at.result in
    let e = c.args.extent in
    let o = e.offset in
    let same = c.deref.ensures.value in
    let within : k ≤ length es = omega (arith, c.place_of-at.ensures.within, ap length same) in
    let before : LiesBefore o es k = subst (λ (xs : List Extent). LiesBefore o xs k) same c.place_of-at.ensures.before in
    let after : After o es k = subst (λ (xs : List Extent). After o xs k) same c.place_of-at.ensures.after in
    omega (arith, within, filled_length es bs c.requires.filled)

pub returns-clause-extents : goal.returns-clause-extents
returns-clause-extents c =
    let es = c.args.extents.now.items in
    let bs = c.args.buffers.now.items in
    let k = c.place_of-at.result in
    let e = c.args.extent in
    let o = e.offset in
    let same = c.deref.ensures.value in
    let within : k ≤ length es = omega (arith, c.place_of-at.ensures.within, ap length same) in
    let before : LiesBefore o es k = subst (λ (xs : List Extent). LiesBefore o xs k) same c.place_of-at.ensures.before in
    let after : After o es k = subst (λ (xs : List Extent). After o xs k) same c.place_of-at.ensures.after in
    let extents = c.insert.ensures.items ∙ ap (λ r. if is_ok r then take k es ++ e ∷ drop k es else es) c.unwrap.ensures in
    extents ∙ sym (put_at o e.length k es within before after)

pub returns-clause-filled : goal.returns-clause-filled
returns-clause-filled c =
    let es = c.args.extents.now.items in
    let bs = c.args.buffers.now.items in
    let k = c.place_of-at.result in
    let e = c.args.extent in
    let o = e.offset in
    let same = c.deref.ensures.value in
    let within : k ≤ length es = omega (arith, c.place_of-at.ensures.within, ap length same) in
    let before : LiesBefore o es k = subst (λ (xs : List Extent). LiesBefore o xs k) same c.place_of-at.ensures.before in
    let after : After o es k = subst (λ (xs : List Extent). After o xs k) same c.place_of-at.ensures.after in
    let extents = c.insert.ensures.items ∙ ap (λ r. if is_ok r then take k es ++ e ∷ drop k es else es) c.unwrap.ensures in
    let buffers = c.insert-2.ensures.items ∙ ap (λ r. if is_ok r then take k bs ++ c.args.buffer ∷ drop k bs else bs) c.unwrap-2.ensures in
    rw (extents, buffers) (put_filled o e.length c.args.buffer c.requires.fits k es bs c.requires.filled within)

pub returns-clause-placed : goal.returns-clause-placed
returns-clause-placed c =
    let es = c.args.extents.now.items in
    let bs = c.args.buffers.now.items in
    let k = c.place_of-at.result in
    let e = c.args.extent in
    let o = e.offset in
    let same = c.deref.ensures.value in
    let within : k ≤ length es = omega (arith, c.place_of-at.ensures.within, ap length same) in
    let before : LiesBefore o es k = subst (λ (xs : List Extent). LiesBefore o xs k) same c.place_of-at.ensures.before in
    let after : After o es k = subst (λ (xs : List Extent). After o xs k) same c.place_of-at.ensures.after in
    let extents = c.insert.ensures.items ∙ ap (λ r. if is_ok r then take k es ++ e ∷ drop k es else es) c.unwrap.ensures in
    let buffers = c.insert-2.ensures.items ∙ ap (λ r. if is_ok r then take k bs ++ c.args.buffer ∷ drop k bs else bs) c.unwrap-2.ensures in
    rw (extents, buffers) (put_zipped o e.length c.args.buffer c.requires.fits k es bs c.requires.filled within before after)
