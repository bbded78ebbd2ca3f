use Rattle.std.proofs.Common.{◌≡◌, true, subst, sym, arith}
use Rattle.std.specs.Prelude.{All, nat_le}
use Rattle.std.proofs.lemmas.Bool.{leb-true}
use Rattle.std.proofs.lemmas.List.{take_all}
use Rattle.std.proofs.lemmas.List.Elements.{All-get_or, All-more}
use Rattle.private_store.specs.rules.Limits.{greatest_depth}
use Rattle.obj_id.specs.declared.commands.GrantedItem.{GrantedItem}
use Rattle.wire_frames.specs.Replies.{IsGrantedItemBytes}
use Rattle.schedules.proofs.replies.granted_are_items.Goals as goal

pub loop-item-preserved : goal.loop-item-preserved
loop-item-preserved c =
    let item = c.item-item.result in
    let P : GrantedItem → Type 0 = λ i. nat_le i.depth greatest_depth ≡ true in
    let shallow : P item = subst P (sym c.item-item.is) (All-get_or P c.args.items.now c.loop-item.item-index item c.loop-item-test.true c.requires) in
    let low = leb-true item.depth greatest_depth shallow in
    let is : IsGrantedItemBytes item = record { id = c.to_bytes-bytes.ensures.id; length_fits = c.fits.ensures; depth_fits = omega (arith, low) } in
    All-more IsGrantedItemBytes c.args.items.now c.loop-item.item-index item c.loop-item-test.true c.loop-item.invariant (subst IsGrantedItemBytes c.item-item.is is)

pub returns-clause-items : goal.returns-clause-items
returns-clause-items c = subst (All IsGrantedItemBytes) (take_all c.loop-item.item-index c.args.items.now c.loop-item-test.false) c.loop-item.invariant
