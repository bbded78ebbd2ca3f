use Rattle.std.proofs.Common.{◌++◌, ◌∙◌, ap, is_some}
use Rattle.private_store.specs.rules.Room.{offset_without}
use Rattle.plain_store.proofs.store.PlainStore.has_room_without.Goals as goal

pub returns : goal.returns
returns c =
    c.is_some.ensures
    ∙ ap is_some c.in_ok-offset.ensures
    ∙ ap (λ gone. is_some (offset_without c.args.self.now.shape c.args.length gone))
    (c.deref.ensures.value ∙ c.in_ok-extend_from_slice.ensures.items ∙ ap (λ out. out ++ c.args.ids.now) c.in_ok-gone.ensures.items)
