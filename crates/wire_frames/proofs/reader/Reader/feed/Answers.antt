use Rattle.wire_frames.proofs.Finishing.{IsPart-fed}
use Rattle.wire_frames.proofs.reader.Reader.feed.Goals as goal

pub invariant_of-self-then-not-gain : goal.invariant_of-self-then-not-gain
invariant_of-self-then-not-gain c =
    let kept = c.read_on.new.kept.items in
    let items = c.in_ok-gain.gain.items.items in
    IsPart-fed c.self.inside.rest.items c.args.piece.now items c.in_ok-gain.gain.faulty kept c.in_ok-gain.ensures.fed c.if-not-gain.true
