use Rattle.std.proofs.Common.{◌<◌, ◌≡◌, Some, get_or, length, subst, sym, ap, ◌∙◌, List, arith}
use Rattle.obj_id.specs.declared.works.Extent.{Extent}
use Rattle.job_region.specs.Layout.{LiesBefore, After}
use Rattle.job_region.proofs.Bisected.{taken_at, none_at, above_place}
use Rattle.job_region.proofs.Zipped.{filled_length, taken_filled, taken_zipped, none_removed}
use Rattle.job_region.proofs.extents.take_out.Goals as goal

pub returns-then-not-is_at-clause-left : goal.returns-then-not-is_at-clause-left
returns-then-not-is_at-clause-left c =
    let es = c.args.extents.now.items in
    let bs = c.args.buffers.now.items in
    let o = c.args.offset in
    let k = c.place_of-at.result in
    let none = above_place o k es c.requires.rising
    (subst (λ (xs : List Extent). After o xs k) c.deref.ensures.value c.place_of-at.ensures.after)
    (subst (λ (xs : List Extent). k < length xs → (d : Extent) → (get_or xs k d).offset ≡ o → ⊥) c.deref-2.ensures.value (c.is_at.ensures.no c.if-not-is_at.true)) in
    let absent = none_at o k es (subst (λ (xs : List Extent). LiesBefore o xs k) c.deref.ensures.value c.place_of-at.ensures.before) none in
    sym absent.0

pub returns-then-not-is_at-clause-taken : goal.returns-then-not-is_at-clause-taken
returns-then-not-is_at-clause-taken c =
    let es = c.args.extents.now.items in
    let bs = c.args.buffers.now.items in
    let o = c.args.offset in
    let k = c.place_of-at.result in
    let none = above_place o k es c.requires.rising
    (subst (λ (xs : List Extent). After o xs k) c.deref.ensures.value c.place_of-at.ensures.after)
    (subst (λ (xs : List Extent). k < length xs → (d : Extent) → (get_or xs k d).offset ≡ o → ⊥) c.deref-2.ensures.value (c.is_at.ensures.no c.if-not-is_at.true)) in
    let absent = none_at o k es (subst (λ (xs : List Extent). LiesBefore o xs k) c.deref.ensures.value c.place_of-at.ensures.before) none in
    sym absent.1

pub returns-then-not-is_at-clause-placed : goal.returns-then-not-is_at-clause-placed
returns-then-not-is_at-clause-placed c =
    let es = c.args.extents.now.items in
    let bs = c.args.buffers.now.items in
    let o = c.args.offset in
    let k = c.place_of-at.result in
    let none = above_place o k es c.requires.rising
    (subst (λ (xs : List Extent). After o xs k) c.deref.ensures.value c.place_of-at.ensures.after)
    (subst (λ (xs : List Extent). k < length xs → (d : Extent) → (get_or xs k d).offset ≡ o → ⊥) c.deref-2.ensures.value (c.is_at.ensures.no c.if-not-is_at.true)) in
    let absent = none_at o k es (subst (λ (xs : List Extent). LiesBefore o xs k) c.deref.ensures.value c.place_of-at.ensures.before) none in
    sym (none_removed o es bs absent.1)

pub remove-requires : goal.remove-requires
remove-requires c =
    let es = c.args.extents.now.items in
    let bs = c.args.buffers.now.items in
    let o = c.args.offset in
    let k = c.place_of-at.result in
    let there = subst (λ (xs : List Extent). (k < length xs) × ((d : Extent) → (get_or xs k d).offset ≡ o)) c.deref-2.ensures.value (c.is_at.ensures.yes c.if-not-is_at.false) in
    omega (arith, there.0, filled_length es bs c.requires.filled)

pub returns-clause-left : goal.returns-clause-left
returns-clause-left c =
    let es = c.args.extents.now.items in
    let bs = c.args.buffers.now.items in
    let o = c.args.offset in
    let k = c.place_of-at.result in
    let there = subst (λ (xs : List Extent). (k < length xs) × ((d : Extent) → (get_or xs k d).offset ≡ o)) c.deref-2.ensures.value (c.is_at.ensures.yes c.if-not-is_at.false) in
    let before : LiesBefore o es k = subst (λ (xs : List Extent). LiesBefore o xs k) c.deref.ensures.value c.place_of-at.ensures.before in
    let d = c.remove-extent.result in
    c.remove-extent.ensures.items ∙ sym (taken_at o k es d there.0 before (there.1 d)).0

pub returns-clause-taken : goal.returns-clause-taken
returns-clause-taken c =
    let es = c.args.extents.now.items in
    let bs = c.args.buffers.now.items in
    let o = c.args.offset in
    let k = c.place_of-at.result in
    let there = subst (λ (xs : List Extent). (k < length xs) × ((d : Extent) → (get_or xs k d).offset ≡ o)) c.deref-2.ensures.value (c.is_at.ensures.yes c.if-not-is_at.false) in
    let before : LiesBefore o es k = subst (λ (xs : List Extent). LiesBefore o xs k) c.deref.ensures.value c.place_of-at.ensures.before in
    let d = c.remove-extent.result in
    ap (λ (e : Extent). Some e) c.remove-extent.ensures.value ∙ sym (taken_at o k es d there.0 before (there.1 d)).1

pub returns-clause-filled : goal.returns-clause-filled
returns-clause-filled c =
    let es = c.args.extents.now.items in
    let bs = c.args.buffers.now.items in
    let o = c.args.offset in
    let k = c.place_of-at.result in
    let there = subst (λ (xs : List Extent). (k < length xs) × ((d : Extent) → (get_or xs k d).offset ≡ o)) c.deref-2.ensures.value (c.is_at.ensures.yes c.if-not-is_at.false) in
    let before : LiesBefore o es k = subst (λ (xs : List Extent). LiesBefore o xs k) c.deref.ensures.value c.place_of-at.ensures.before in
    let d = c.remove-extent.result in
    rw (c.remove-extent.ensures.items, c.remove.ensures.items) (taken_filled o k es bs c.requires.filled there.0)

pub returns-clause-placed : goal.returns-clause-placed
returns-clause-placed c =
    let es = c.args.extents.now.items in
    let bs = c.args.buffers.now.items in
    let o = c.args.offset in
    let k = c.place_of-at.result in
    let there = subst (λ (xs : List Extent). (k < length xs) × ((d : Extent) → (get_or xs k d).offset ≡ o)) c.deref-2.ensures.value (c.is_at.ensures.yes c.if-not-is_at.false) in
    let before : LiesBefore o es k = subst (λ (xs : List Extent). LiesBefore o xs k) c.deref.ensures.value c.place_of-at.ensures.before in
    let d = c.remove-extent.result in
    rw (c.remove-extent.ensures.items, c.remove.ensures.items) (taken_zipped o k es bs d c.requires.filled there.0 before (there.1 d))
