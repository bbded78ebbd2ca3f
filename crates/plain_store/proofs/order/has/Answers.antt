use Rattle.std.proofs.Common.{◌∙◌, sym, ap, is_some}
use Rattle.store_facts.proofs.ObjectMaps.{at-lookup}
use Rattle.plain_store.proofs.order.has.Goals as goal

pub returns : goal.returns
returns c = c.contains_key.ensures ∙ ap is_some (sym (at-lookup c.args.id c.args.copies.now.entries))
