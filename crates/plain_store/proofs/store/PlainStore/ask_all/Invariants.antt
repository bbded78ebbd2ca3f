use Rattle.std.proofs.Common.{◌≡◌, ◌+◌, ◌<◌, ◌^◌, drop, fold, length}
use Rattle.private_store.specs.rules.Room.{asked}
use Rattle.plain_store.proofs.store.PlainStore.ask_all.Given as goal

abbrev pub invariant-loop-id : goal.invariant-loop-id
invariant-loop-id l = record {
  shape : fold (asked l.writes) l.self.shape (drop l.id-index l.ids) ≡ fold (asked l.writes) l.initial.self.shape l.ids;
  order : l.self.order ≡ l.initial.self.order;
  numbers : l.self.shape.works_asked + length (drop l.id-index l.ids) < 2 ^ 64;
}
