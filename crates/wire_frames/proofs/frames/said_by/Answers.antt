use Rattle.std.proofs.Common.{◌≡◌, sym, ap, ◌∙◌}
use Rattle.private_store.specs.rules.Frames.{item_of}
use Rattle.wire_frames.specs.Kinds.{read_of}
use Rattle.wire_frames.proofs.KindTables.{item_of-byte_of}
use Rattle.wire_frames.proofs.frames.said_by.Goals as goal

pub returns-clause-reads : goal.returns-clause-reads
returns-clause-reads c =
    let body = c.args.body.now in
    let kind = c.in_ok-from_byte.field-0 in
    let read : item_of c.args.kind body ≡ read_of kind body = ap (λ byte. item_of byte body) (sym c.in_ok-from_byte.ensures.found) ∙ item_of-byte_of kind body in
    c.read_body.ensures.reads ∙ sym read
