use Rattle.std.proofs.Common.{◌≡◌, take}
use Rattle.std.specs.List.{fold}
use Rattle.private_store.specs.rules.Commands.{give_up_one}
use Rattle.plain_store.proofs.store.PlainStore.give_up_each.Given as goal

abbrev pub invariant-loop-id : goal.invariant-loop-id
invariant-loop-id l = l.self ≡ record l.initial.self { shape = fold (λ store id. (give_up_one l.task store id).shape) l.initial.self.shape (take l.id-index l.ids) }
