use Rattle.std.proofs.Common.{◌∙◌}
use Rattle.plain_store.proofs.Using.{sum-extents}
use Rattle.plain_store.proofs.store.PlainStore.window_used.Goals as goal

pub returns : goal.returns
returns c = c.resident_bytes.ensures ∙ sum-extents c.args.self.now.shape.copies
