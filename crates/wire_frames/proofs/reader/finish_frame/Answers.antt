use Rattle.std.proofs.Common.{◌≡◌, [], true, sym, ap, subst, ◌∙◌}
use Rattle.private_store.specs.rules.Frames.{malformed, stopped, stream_of}
use Rattle.wire_frames.specs.Reading.{fed_by}
use Rattle.wire_frames.proofs.Finishing.{fed-fault}
use Rattle.wire_frames.proofs.reader.finish_frame.Goals as goal

pub returns-in-Fault-clause-fed : goal.returns-in-Fault-clause-fed
returns-in-Fault-clause-fed c =
    let kept = c.complete.new.kept.items in
    let fault : stream_of kept ≡ stopped kept malformed = subst (λ b. stream_of b ≡ stopped b malformed) c.as_slice.ensures c.in-Fault.ensures.stream in
    fed-fault c.args.kept.now.items c.args.piece.now c.in_ok-taken.taken kept [] c.in_ok-taken.ensures.ok fault
    ∙ ap (λ items. fed_by items true []) (sym c.new-in-Fault.ensures.items)
