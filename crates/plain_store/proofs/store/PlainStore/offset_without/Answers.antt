use Rattle.std.proofs.Common.{◌∙◌, ap}
use Rattle.private_store.specs.rules.Extents.{first}
use Rattle.private_store.specs.rules.Room.{offset_without}
use Rattle.plain_store.proofs.FirstFits.{first-permuted}
use Rattle.plain_store.proofs.store.PlainStore.offset_without.Goals as goal

pub returns : goal.returns
returns c =
    let window = c.self.inside.quota.window in
    c.first.ensures
    ∙ ap (λ extents. first extents window c.args.length) c.deref.ensures.value
    ∙ first-permuted c.in_ok-extents.extents.items c.sort_extents.new.extents.items c.sort_extents.ensures.permutation window c.args.length
    ∙ ap (λ extents. first extents window c.args.length) c.in_ok-extents.ensures
    ∙ ap (λ replay_state. offset_without replay_state.shape c.args.length c.args.out.now) c.self.view_is
