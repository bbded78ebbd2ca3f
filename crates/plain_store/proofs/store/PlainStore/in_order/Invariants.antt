use Rattle.std.proofs.Common.{◌≡◌, take}
use Rattle.private_store.specs.rules.Room.{in_order}
use Rattle.plain_store.specs.Plans.{chosen_by}
use Rattle.plain_store.proofs.store.PlainStore.in_order.Given as goal

abbrev pub invariant-loop-id : goal.invariant-loop-id
invariant-loop-id l = l.ids.items ≡ in_order l.self.shape (take l.id-index l.self.order) (chosen_by l.choice l.self.shape)
