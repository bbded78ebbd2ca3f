use Rattle.std.proofs.Common.{◌≡◌, take, length}
use Rattle.private_store.specs.rules.Private.{chunks_asked}
use Rattle.fetch_core.proofs.chunks_asked.Given as goal

abbrev pub invariant-loop-index : goal.invariant-loop-index
invariant-loop-index l = l.sent.items ≡ chunks_asked l.bytes l.id l.number (length l.bytes) (take l.index-index l.indexes)
