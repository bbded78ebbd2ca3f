use Rattle.std.proofs.Common.{rules}
use Rattle.obj_id.proofs.IdBytes.{put_mid-parts, length-two_parts}
use Rattle.obj_id.proofs.ids.joined.Goals as goal

pub slice_bounds-bytes-end-3 : goal.slice_bounds-bytes-end-3
slice_bounds-bytes-end-3 c = length-two_parts _ _ (search rules) (search rules)

pub returns : goal.returns
returns c =
    let task = c.copy_from_slice.ensures.after in
    let job = c.copy_from_slice-2.ensures.after in
    let index = c.copy_from_slice-3.ensures.after in
    rw (task, job, index) (put_mid-parts c.args.task c.args.job c.args.index (search rules) (search rules) (search rules))
