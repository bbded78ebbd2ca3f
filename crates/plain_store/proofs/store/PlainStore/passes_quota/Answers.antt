use Rattle.std.proofs.Common.{sym, arith}
use Rattle.std.specs.Option.{option_map_or}
use Rattle.std.proofs.lemmas.Bool.{lt-ltb}
use Rattle.private_store.specs.rules.Tables.{at}
use Rattle.private_store.specs.rules.Extents.{rounded}
use Rattle.plain_store.proofs.Sums.{sum-take}
use Rattle.plain_store.proofs.store.PlainStore.passes_quota.Goals as goal

pub returns-then-bytes-left : goal.returns-then-bytes-left
returns-then-bytes-left c =
    let part = sum-take (λ id. option_map_or (λ copy. rounded copy.length) (at c.args.self.now.shape.copies id) 0) c.args.ids.now c.loop-id.id-index c.id-item.result c.loop-id-test.true c.id-item.is in
    sym (lt-ltb _ _ (omega (arith, part, c.loop-id.invariant, c.bytes_of_copy-bytes.ensures, c.if-bytes-left.true)))
