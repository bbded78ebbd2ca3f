use Rattle.std.proofs.Common.{Some, sym, ap, ◌∙◌, arith}
use Rattle.obj_id.specs.declared.works.Extent.{Extent}
use Rattle.job_region.proofs.Zipped.{filled_length, is_there, zipped_at}
use Rattle.job_region.proofs.extents.buffer_at.Goals as goal

none : Extent
none = record { offset = 0; length = 0 }

pub index-requires : goal.index-requires
index-requires c =
    let es = c.args.extents.now in
    let bs = c.args.buffers.now.items in
    let o = c.args.offset in
    let k = c.place_of-at.result in
    let there = is_there o k es bs none c.requires.rising c.place_of-at.ensures.before c.place_of-at.ensures.after c.requires.there in
    omega (arith, there.0, filled_length es bs c.requires.filled)

pub returns : goal.returns
returns c =
    let es = c.args.extents.now in
    let bs = c.args.buffers.now.items in
    let o = c.args.offset in
    let k = c.place_of-at.result in
    let there = is_there o k es bs none c.requires.rising c.place_of-at.ensures.before c.place_of-at.ensures.after c.requires.there in
    zipped_at o k es bs none c.index.result.now c.requires.filled there.0 c.place_of-at.ensures.before there.1 ∙ ap Some (sym c.index.ensures)
