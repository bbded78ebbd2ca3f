use Rattle.std.proofs.Common.{◌≡◌, ◌+◌, take}
use Rattle.private_store.specs.rules.Room.{bytes_of_copies}
use Rattle.plain_store.proofs.store.PlainStore.passes_quota.Given as goal

abbrev pub invariant-loop-id : goal.invariant-loop-id
invariant-loop-id l = l.left + (l.used + bytes_of_copies l.self.shape (take l.id-index l.ids)) ≡ l.self.shape.quota.device
