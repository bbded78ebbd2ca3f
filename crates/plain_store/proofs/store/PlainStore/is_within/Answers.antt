use Rattle.std.proofs.Common.{◌∙◌, ap}
use Rattle.private_store.specs.rules.Copies.{is_range_within}
use Rattle.plain_store.proofs.Using.{all-extents}
use Rattle.plain_store.proofs.store.PlainStore.is_within.Goals as goal

pub returns : goal.returns
returns c =
    c.are_within.ensures ∙ all-extents c.args.window c.self.inside.copies.entries ∙ ap (λ replay_state. is_range_within replay_state.shape c.args.window) c.self.view_is
