use Rattle.std.proofs.Common.{sym, ap, ◌∙◌, arith, take}
use Rattle.std.proofs.lemmas.List.{take_rest}
use Rattle.job_region.specs.Layout.{first_start, last_end}
use Rattle.job_region.proofs.Bisected.{laid_rising, taken_within, stretch_at}
use Rattle.job_region.proofs.holes.stretch.Goals as goal

pub place_of-place-requires : goal.place_of-place-requires
place_of-place-requires c = laid_rising c.args.quota 0 c.args.extents.now c.requires.laid

pub end_of_last-start-requires : goal.end_of_last-start-requires
end_of_last-start-requires c =
    let within = taken_within c.args.quota 0 c.place_of-place.result c.args.extents.now c.requires.laid in
    omega (arith, within, c.requires.small)

pub returns : goal.returns
returns c =
    let es = c.args.extents.now in
    let k = c.place_of-place.result in
    let parts = stretch_at c.args.offset c.args.quota 0 k es c.place_of-place.ensures.within c.place_of-place.ensures.before c.place_of-place.ensures.after in
    let start = c.end_of_last-start.ensures in
    let end = c.start_of_first.ensures ∙ ap (first_start c.args.quota) (take_rest es k) in
    ap (λ n. (n, c.start_of_first.result)) start ∙ ap (λ n. (last_end 0 (take k es), n)) end ∙ sym parts
