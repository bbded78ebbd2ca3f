use Rattle.plain_store.proofs.FirstFits.{IsWalked}
use Rattle.plain_store.proofs.first_fit.first.Given as goal

abbrev pub invariant-loop-extent : goal.invariant-loop-extent
invariant-loop-extent l = IsWalked l.extents l.window l.length l.need l.offset l.extent-index
