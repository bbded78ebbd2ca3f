use Rattle.std.proofs.Common.{sym, ◌∙◌}
use Rattle.wire_frames.proofs.Finishing.{fed-nothing_kept, rest_taken}
use Rattle.wire_frames.proofs.reader.read_on.Goals as goal

pub returns-then-is_empty-clause-fed : goal.returns-then-is_empty-clause-fed
returns-then-is_empty-clause-fed c =
    let kept = c.args.kept.now.items in
    let piece = c.args.piece.now in
    let f = c.in_ok-frames.frames in
    fed-nothing_kept kept piece f.items.items f.faulty f.used c.in_ok-kept.field-0.items
    (sym c.is_empty.ensures ∙ c.if-is_empty.true)
    c.in_ok-frames.ensures.stream
    (c.in_ok-kept.ensures ∙ rest_taken piece f.used)
