use Rattle.std.proofs.Common.{subst}
use Rattle.std.specs.Prelude.{All}
use Rattle.std.proofs.lemmas.List.{take_all}
use Rattle.std.proofs.lemmas.List.Elements.{All-more}
use Rattle.wire_frames.specs.Replies.{IsOwnItemBytes}
use Rattle.schedules.proofs.replies.own_are_items.Goals as goal

pub loop-item-preserved : goal.loop-item-preserved
loop-item-preserved c =
    let item = c.item-item.result in
    let is : IsOwnItemBytes item = record { id = c.to_bytes-bytes.ensures.id; length_fits = c.fits.ensures } in
    All-more IsOwnItemBytes c.args.items.now c.loop-item.item-index item c.loop-item-test.true c.loop-item.invariant (subst IsOwnItemBytes c.item-item.is is)

pub returns : goal.returns
returns c = subst (All IsOwnItemBytes) (take_all c.loop-item.item-index c.args.items.now c.loop-item-test.false) c.loop-item.invariant
