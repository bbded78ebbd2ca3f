use Rattle.std.proofs.Common.{arith}
use Rattle.wire_frames.proofs.Counts.{granted_items_below, own_items_below}
use Rattle.wire_frames.proofs.replies.list_frame.Goals as goal

pub overflow_cast-own_count : goal.overflow_cast-own_count
overflow_cast-own_count c = omega (arith, own_items_below c.args.own.now, c.requires.own_fits)

pub overflow_cast-granted_count : goal.overflow_cast-granted_count
overflow_cast-granted_count c = omega (arith, granted_items_below c.args.granted.now, c.requires.granted_fits)
