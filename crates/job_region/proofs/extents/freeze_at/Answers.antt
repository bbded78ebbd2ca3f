use Rattle.std.proofs.Common.{arith}
use Rattle.obj_id.specs.declared.works.Extent.{Extent}
use Rattle.job_region.proofs.Zipped.{filled_length, is_there}
use Rattle.job_region.proofs.extents.freeze_at.Goals as goal

none : Extent
none = record { offset = 0; length = 0 }

pub index_mut-requires : goal.index_mut-requires
index_mut-requires c =
    let es = c.args.extents.now in
    let bs = c.args.buffers.now.items in
    let o = c.args.offset in
    let k = c.place_of-at.result in
    let there = is_there o k es bs none c.requires.rising c.place_of-at.ensures.before c.place_of-at.ensures.after c.requires.there in
    omega (arith, there.0, filled_length es bs c.requires.filled)
