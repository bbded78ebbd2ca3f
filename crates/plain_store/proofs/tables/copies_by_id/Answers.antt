use Rattle.std.specs.Vec.Iter.{into_iter_items}
use Rattle.store_facts.proofs.Tests.{T_true}
use Rattle.plain_store.proofs.Sorting.{put-more}
use Rattle.plain_store.proofs.tables.copies_by_id.Goals as goal

pub loop-id-preserved : goal.loop-id-preserved
loop-id-preserved c =
    put-more c.in-Some.id c.in-Some.copy (into_iter_items c.next.new.self) c.loop-id.by_id.entries (into_iter_items c.loop-id.id-iterator) c.put.new.copies.entries c.args.copies.items
    (T_true _ c.requires) c.in-Some.ensures.steps.0 c.in_ok-put.ensures c.loop-id.invariant
