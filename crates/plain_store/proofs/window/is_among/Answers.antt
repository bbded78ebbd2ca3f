use Rattle.std.proofs.Common.{◌∙◌}
use Rattle.plain_store.proofs.Shortest.{among-contains}
use Rattle.plain_store.proofs.window.is_among.Goals as goal

pub returns : goal.returns
returns c = c.contains.ensures.value ∙ among-contains c.args.ids.now c.args.id
