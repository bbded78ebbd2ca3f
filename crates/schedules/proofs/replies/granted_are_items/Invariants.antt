use Rattle.std.proofs.Common.{take}
use Rattle.std.specs.Prelude.{All}
use Rattle.wire_frames.specs.Replies.{IsGrantedItemBytes}
use Rattle.schedules.proofs.replies.granted_are_items.Given as goal

abbrev pub invariant-loop-item : goal.invariant-loop-item
invariant-loop-item l = All IsGrantedItemBytes (take l.item-index l.items)
