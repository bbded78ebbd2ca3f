use Rattle.std.proofs.Common.{◌≡◌, ◌≤◌, ◌+◌, ℕ, List, [], length, Option, Some, nat_eq, sym, ap, subst, ◌∙◌, arith}
use Rattle.std.specs.Prelude.{IsSomeAnd, unwrap_or}
use Rattle.std.specs.Map.{lookup, set_value}
use Rattle.obj_id.specs.declared.works.Extent.{Extent}
use Rattle.private_store.specs.rules.Contents.{overwritten}
use Rattle.job_region.specs.Layout.{zipped}
use Rattle.job_region.proofs.Parts.{length-overwritten}
use Rattle.job_region.proofs.Zipped.{some_of, filled_length, is_there, zipped_at, set_filled, set_zipped}
use Rattle.job_region.proofs.extents.write_at.Goals as goal

none : Extent
none = record { offset = 0; length = 0 }

pub index_mut-requires : goal.index_mut-requires
index_mut-requires c =
    let es = c.args.extents.now in
    let bs = c.args.buffers.now.items in
    let o = c.args.offset in
    let k = c.place_of-at.result in
    let there = is_there o k es bs none c.requires.rising c.place_of-at.ensures.before c.place_of-at.ensures.after (some_of _ (lookup (nat_eq o) (zipped es bs)) c.requires.there) in
    omega (arith, there.0, filled_length es bs c.requires.filled)

pub write-requires : goal.write-requires
write-requires c =
    let es = c.args.extents.now in
    let bs = c.args.buffers.now.items in
    let o = c.args.offset in
    let k = c.place_of-at.result in
    let there = is_there o k es bs none c.requires.rising c.place_of-at.ensures.before c.place_of-at.ensures.after (some_of _ (lookup (nat_eq o) (zipped es bs)) c.requires.there) in
    let b = c.index_mut.result.now in
    let at : lookup (nat_eq o) (zipped es bs) ≡ Some b = zipped_at o k es bs none b c.requires.filled there.0 c.place_of-at.ensures.before there.1 ∙ ap Some (sym c.index_mut.ensures.value) in
    subst (λ (x : Option (List ℕ)). IsSomeAnd x (λ old. c.args.off + length c.args.bytes.now ≤ length old)) at c.requires.there

pub returns-clause-filled : goal.returns-clause-filled
returns-clause-filled c =
    let es = c.args.extents.now in
    let bs = c.args.buffers.now.items in
    let o = c.args.offset in
    let k = c.place_of-at.result in
    let there = is_there o k es bs none c.requires.rising c.place_of-at.ensures.before c.place_of-at.ensures.after (some_of _ (lookup (nat_eq o) (zipped es bs)) c.requires.there) in
    let b = c.index_mut.result.now in
    let at : lookup (nat_eq o) (zipped es bs) ≡ Some b = zipped_at o k es bs none b c.requires.filled there.0 c.place_of-at.ensures.before there.1 ∙ ap Some (sym c.index_mut.ensures.value) in
    let same = ap length c.write.ensures ∙ length-overwritten b c.args.off c.args.bytes.now (subst (λ (x : Option (List ℕ)). IsSomeAnd x (λ old. c.args.off + length c.args.bytes.now ≤ length old)) at c.requires.there) ∙ ap length c.index_mut.ensures.value in
    set_filled o c.write.new.self k es bs b c.requires.filled same

pub returns-clause-placed : goal.returns-clause-placed
returns-clause-placed c =
    let es = c.args.extents.now in
    let bs = c.args.buffers.now.items in
    let o = c.args.offset in
    let k = c.place_of-at.result in
    let there = is_there o k es bs none c.requires.rising c.place_of-at.ensures.before c.place_of-at.ensures.after (some_of _ (lookup (nat_eq o) (zipped es bs)) c.requires.there) in
    let b = c.index_mut.result.now in
    let at : lookup (nat_eq o) (zipped es bs) ≡ Some b = zipped_at o k es bs none b c.requires.filled there.0 c.place_of-at.ensures.before there.1 ∙ ap Some (sym c.index_mut.ensures.value) in
    let was = ap (λ (x : Option (List ℕ)). unwrap_or x []) at in
    set_zipped o c.write.new.self k es bs none c.requires.filled there.0 c.place_of-at.ensures.before there.1
    ∙ ap (set_value (nat_eq o) (zipped es bs)) (c.write.ensures ∙ ap (λ xs. overwritten xs c.args.off c.args.bytes.now) (sym was))
