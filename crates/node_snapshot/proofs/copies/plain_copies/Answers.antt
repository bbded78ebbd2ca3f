use Rattle.std.proofs.Common.{◌++◌, sym, ap, ◌∙◌, append-nil}
use Rattle.std.specs.FinMap.{is_sorted}
use Rattle.std.proofs.lemmas.List.{drop_all}
use Rattle.obj_id.specs.Ids.{id_cmp}
use Rattle.store_facts.proofs.Tests.{T_true}
use Rattle.job_row.proofs.ForCallers.{sorted-copies}
use Rattle.node_snapshot.proofs.Gathered.{gathered, gathered_all}
use Rattle.node_snapshot.proofs.copies.plain_copies.Goals as goal

pub loop-item-init : goal.loop-item-init
loop-item-init c =
    let now = c.args.copies.now in
    let all = c.as_slice-item-items.ensures ∙ c.in_ok-items.ensures.items in
    (λ i. c.new-plain.ensures.items i ++ gathered now (all i))
    ∙ gathered_all now (T_true _ c.in_ok-items.ensures.rising)

pub copies_by_id-requires : goal.copies_by_id-requires
copies_by_id-requires c =
    let now = c.args.copies.now in
    let plain = c.loop-item.plain.items in
    let whole = sym (append-nil plain) ∙ sym (ap (λ left. plain ++ gathered now left) (drop_all c.loop-item.item-index c.as_slice-item-items.result.now c.loop-item-test.false)) ∙ c.loop-item.invariant in
    ap (is_sorted id_cmp) whole
    ∙ sorted-copies now
    ∙ c.in_ok-items.ensures.rising
