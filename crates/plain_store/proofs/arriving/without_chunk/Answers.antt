use Rattle.std.proofs.Common.{◌==◌, not, rules}
use Rattle.std.proofs.lemmas.Fn.{filter_same}
use Rattle.plain_store.proofs.arriving.without_chunk.Goals as goal

pub returns : goal.returns
returns c = filter_same _ (λ i. not (i == c.args.index)) _ (λ x b f' k. search rules) _ _ c.retain.ensures.filtered
