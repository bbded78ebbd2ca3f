use Rattle.std.proofs.Common.{◌≡◌, drop, fold}
use Rattle.private_store.specs.rules.Room.{evicted}
use Rattle.plain_store.proofs.store.PlainStore.evict_all.Given as goal

abbrev pub invariant-loop-id : goal.invariant-loop-id
invariant-loop-id l = record {
  shape : fold evicted l.self.shape (drop l.id-index l.ids) ≡ fold evicted l.initial.self.shape l.ids;
  order : l.self.order ≡ l.initial.self.order;
}
