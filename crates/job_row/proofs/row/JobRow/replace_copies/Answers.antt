use Rattle.std.proofs.Common.{◌≡◌, ℕ, nat_eq, true, false, not, replicate, List, [], ◌∷◌, Option, Some, None, refl, sym, ap, subst, ◌∙◌, arith}
use Rattle.std.specs.Map.{lookup}
use Rattle.std.specs.Option.{option_and_then}
use Rattle.private_store.specs.rules.Copies.{extent_of}
use Rattle.obj_id.specs.declared.ids.ObjectId.{ObjectId}
use Rattle.private_store.specs.rules.Tables.{ById, at, with_entry, without_entry, is_among}
use Rattle.private_store.specs.rules.Extents.{first}
use Rattle.store_facts.proofs.Tests.{some_value, not_true}
use Rattle.job_region.specs.Region.{Region, extents_of, put_in, without}
use Rattle.lru_evictor.specs.Orders.{order_ids, without_id}
use Rattle.job_row.specs.Evicting.{IsReplaced, all_evicted, placed_without, replaced, used_last, without_missing}
use Rattle.row_copy.specs.CopyViews.{CopyView, new_copy_view}
use Rattle.job_row.specs.Row.{Row, place_of, ArePlaced}
use Rattle.job_row.proofs.Changes.{put_back}
use Rattle.job_row.proofs.Replacing.{forgotten, new_lies, replaced_placed, alone}
use Rattle.job_row.specs.InSync.{is_in_sync, InSync, InSyncExcept}
use Rattle.job_row.proofs.FollowsCopies.{put_but, removed_but, others_still, one_spared, entered_unknown, placed_unknown}
use Rattle.job_row.proofs.Waiting.{unused}
use Rattle.job_row.proofs.row.JobRow.replace_copies.Goals as goal
use Rattle.job_row.proofs.row.JobRow.replace_copies.Goals.{then-entered, else-entered}

pub invariant_of-self-in-Err : goal.invariant_of-self-in-Err
invariant_of-self-in-Err c =
    let none : at c.self.inside.copies c.args.id.now ≡ None = ap (λ r. at r.copies c.args.id.now) c.self.view_is ∙ c.requires.absent in
    let back = c.remove.ensures ∙ ap (λ t. without_entry t c.args.id.now) c.in_ok-insert.ensures.ok ∙ put_back c.args.id.now c.self.inside.copies _ none in (
      subst (λ t. ArePlaced c.self.inside.window.placed (place_of t)) (sym back) c.self.invariant.0,
      subst (λ t. InSync t c.enter_new.new.self) (sym back) (subst (InSync c.self.inside.copies) (sym c.in-Err.ensures.err) c.self.invariant.1),
    )

pub returns-in-Err-clause-err : goal.returns-in-Err-clause-err
returns-in-Err-clause-err c =
    let none : at c.self.inside.copies c.args.id.now ≡ None = ap (λ r. at r.copies c.args.id.now) c.self.view_is ∙ c.requires.absent in
    let back = c.remove.ensures ∙ ap (λ t. without_entry t c.args.id.now) c.in_ok-insert.ensures.ok ∙ put_back c.args.id.now c.self.inside.copies _ none in
    (λ i. row_of (back i) (order_ids (c.in-Err.ensures.err i))) ∙ c.self.view_is
  where
    row_of : ById CopyView → List ObjectId → Row
    row_of copies order = record { job = c.self.inside.job.0; window = c.self.inside.window; device = c.self.inside.device_quota; copies = copies; order = order; fetches_begun = c.self.inside.fetches_begun; spill_failed = c.self.inside.spill_failed; ended_tasks = c.self.inside.ended_tasks.keys }

pub invariant_of-self-then-entered : goal.invariant_of-self-then-entered
invariant_of-self-then-entered c =
    let none : at c.self.inside.copies c.args.id.now ≡ None = ap (λ r. at r.copies c.args.id.now) c.self.view_is ∙ c.requires.absent in
    let back = c.remove-in-Err-replace.ensures ∙ ap (λ t. without_entry t c.args.id.now) c.in_ok-insert.ensures.ok ∙ put_back c.args.id.now c.self.inside.copies _ none in (
      subst (λ (w : Region). ArePlaced w.placed (place_of c.remove-in-Err-replace.new.self)) (sym c.in-Err-replace.ensures.err) (subst (λ t. ArePlaced c.self.inside.window.placed (place_of t)) (sym back) c.self.invariant.0),
      c.forget.ensures.infos (is_in_sync c.remove-in-Err-replace.new.self)
          (others_still c.args.id.now c.insert.new.self c.remove-in-Err-replace.new.self (removed_but c.insert.new.self c.remove-in-Err-replace.new.self c.args.id.now c.remove-in-Err-replace.ensures) c.enter_new.new.self
          (one_spared c.args.id.now c.insert.new.self c.enter_new.new.self
          (entered_unknown c.args.id.now c.self.inside.copies c.insert.new.self (put_but c.self.inside.copies c.insert.new.self c.args.id.now _ c.in_ok-insert.ensures.ok) none c.self.inside.order c.enter_new.new.self
          (c.in-Ok.ensures.infos c.if-entered.true) c.self.invariant.1))),
    )

pub invariant_of-self-else-entered : goal.invariant_of-self-else-entered
invariant_of-self-else-entered c =
    let none : at c.self.inside.copies c.args.id.now ≡ None = ap (λ r. at r.copies c.args.id.now) c.self.view_is ∙ c.requires.absent in
    let back = c.remove-in-Err-replace.ensures ∙ ap (λ t. without_entry t c.args.id.now) c.in_ok-insert.ensures.ok ∙ put_back c.args.id.now c.self.inside.copies _ none in (
      subst (λ (w : Region). ArePlaced w.placed (place_of c.remove-in-Err-replace.new.self)) (sym c.in-Err-replace.ensures.err) (subst (λ t. ArePlaced c.self.inside.window.placed (place_of t)) (sym back) c.self.invariant.0),
      subst (λ t. InSync t c.enter_new.new.self) (sym back) (subst (InSync c.self.inside.copies) (sym (c.in-Ok.ensures.same c.if-entered.false)) c.self.invariant.1),
    )

pub returns-after-entered-clause-err : goal.returns-after-entered-clause-err
returns-after-entered-clause-err c =
    let none : at c.self.inside.copies c.args.id.now ≡ None = ap (λ r. at r.copies c.args.id.now) c.self.view_is ∙ c.requires.absent in
    let back = c.remove-in-Err-replace.ensures ∙ ap (λ t. without_entry t c.args.id.now) c.in_ok-insert.ensures.ok ∙ put_back c.args.id.now c.self.inside.copies _ none in
    let undone : c.if-entered.self ≡ c.args.self.now = elim c.if-entered.branch [
      | then-entered w ↦
          let unlisted = not_true (is_among (order_ids c.self.inside.order) c.args.id.now) (sym c.in-Ok.ensures.entered ∙ w.if-entered.true) in
          let order = w.forget.ensures.ids ∙ ap (without_id c.args.id.now) (c.in-Ok.ensures.ids w.if-entered.true) ∙ forgotten c.args.id.now (order_ids c.self.inside.order) unlisted in
          w.self-is ∙ (λ i. row_of (c.in-Err-replace.ensures.err i) (back i) (order i)) ∙ c.self.view_is
      | else-entered w ↦
          let order = ap order_ids (c.in-Ok.ensures.same w.if-entered.false) in
          w.self-is ∙ (λ i. row_of (c.in-Err-replace.ensures.err i) (back i) (order i)) ∙ c.self.view_is
    ] in
    undone
  where
    row_of : Region → ById CopyView → List ObjectId → Row
    row_of window copies order = record { job = c.self.inside.job.0; window = window; device = c.self.inside.device_quota; copies = copies; order = order; fetches_begun = c.self.inside.fetches_begun; spill_failed = c.self.inside.spill_failed; ended_tasks = c.self.inside.ended_tasks.keys }

pub invariant_of-self-in-Ok-replace : goal.invariant_of-self-in-Ok-replace
invariant_of-self-in-Ok-replace c =
    let none : at c.self.inside.copies c.args.id.now ≡ None = ap (λ r. at r.copies c.args.id.now) c.self.view_is ∙ c.requires.absent in
    let left_then = ap (λ gs. without gs c.self.inside.window.placed) c.deref.ensures.value
    ∙ subst (λ (r : Row). without c.args.placement.now.gone.items r.window.placed ≡ placed_without r c.args.placement.now.victims) (sym c.self.view_is) c.requires.place.gone in
    let offset = some_value c.args.placement.now.offset c.in-Ok-replace.extent.offset
    (sym (ap (λ ps. first (extents_of ps) c.self.inside.window.quota c.args.len) left_then
    ∙ subst (λ (r : Row). first (extents_of (placed_without r c.args.placement.now.victims)) r.window.quota c.args.len ≡ Some c.args.placement.now.offset) (sym c.self.view_is) c.requires.place.first)
    ∙ c.in-Ok-replace.ensures.least) in
    let copies = c.evict_for.ensures.copies ∙ ap (λ vs. all_evicted vs c.insert.new.self) c.as_slice-victims.ensures ∙ ap (all_evicted c.args.placement.now.victims) (c.in_ok-insert.ensures.ok ∙ ap (with_entry c.self.inside.copies c.args.id.now) (c.created-copy.ensures ∙ ap (new_copy_view c.args.kind c.args.len) offset)) in
    let placed = ap (λ (w : Region). w.placed) c.in-Ok-replace.ensures.placed
    ∙ (λ i. put_in (c.in-Ok-replace.extent.offset, replicate (c.in-Ok-replace.ensures.length i) 0) (left_then i)) in
    let fresh = ap (lookup (nat_eq c.in-Ok-replace.extent.offset)) (sym left_then) ∙ c.in-Ok-replace.ensures.fresh in
    let nowhere = ap (option_and_then (λ (k : CopyView). extent_of k.copy)) none in
    let put = put_but c.self.inside.copies c.insert.new.self c.args.id.now _ c.in_ok-insert.ensures.ok in
    let unknown : InSyncExcept (c.args.id.now ∷ []) c.insert.new.self c.enter_new.new.self = elim c.in-Ok.entered as (λ b. c.in-Ok.entered ≡ b → InSyncExcept (c.args.id.now ∷ []) c.insert.new.self c.enter_new.new.self) [
      | true ↦ λ entered. entered_unknown c.args.id.now c.self.inside.copies c.insert.new.self put none c.self.inside.order c.enter_new.new.self (c.in-Ok.ensures.infos entered) c.self.invariant.1
      | false ↦ λ there. subst (InSyncExcept (c.args.id.now ∷ []) c.insert.new.self) (sym (c.in-Ok.ensures.same there)) (placed_unknown c.args.id.now c.self.inside.copies c.insert.new.self put nowhere c.self.inside.order c.self.invariant.1)
    ] refl in
    let there = new_lies c.self.inside.copies c.self.inside.window.placed c.self.invariant.0 c.args.placement.now.victims c.args.id.now (new_copy_view c.args.kind c.args.len c.in-Ok-replace.extent.offset) c.args.len c.in-Ok-replace.extent.offset nowhere c.requires.stays refl fresh in
    let now_lie : ArePlaced c.replace.new.self.placed (place_of c.evict_for.new.copies) = subst (λ t. ArePlaced c.replace.new.self.placed (place_of t)) (sym copies)
    (subst (λ ps. ArePlaced ps (place_of (all_evicted c.args.placement.now.victims (with_entry c.self.inside.copies c.args.id.now (new_copy_view c.args.kind c.args.len c.in-Ok-replace.extent.offset))))) (sym placed)
    (replaced_placed c.self.inside.copies c.self.inside.window.placed c.self.invariant.0 c.args.placement.now.victims c.args.id.now (new_copy_view c.args.kind c.args.len c.in-Ok-replace.extent.offset) c.args.len c.in-Ok-replace.extent.offset nowhere c.requires.stays refl fresh)) in (
      now_lie,
      c.evict_for.ensures.infos
          (alone c.replace.new.self.placed c.evict_for.new.copies c.args.id.now c.in-Ok-replace.extent now_lie (ap (λ t. place_of t c.args.id.now) copies ∙ there ∙ (λ i. Some (record { offset = c.in-Ok-replace.extent.offset; length = sym c.in-Ok-replace.ensures.length i }))) c.in-Ok-replace.ensures.small)
          unknown,
    )

-- the row then, by what is used in the order of use
replaced_so : (c : goal.After-evict_for) (used : Option ObjectId) → order_ids c.enter_new.new.self ≡ used_last used (order_ids c.self.inside.order)
    → IsReplaced c.args.self.now used c.args.id.now (new_copy_view c.args.kind c.args.len) c.args.len c.args.placement.now.victims c.in-Ok-replace.extent
    (record { job = c.self.inside.job.0; window = c.replace.new.self; device = c.self.inside.device_quota; copies = c.evict_for.new.copies; order = order_ids c.evict_for.new.order; fetches_begun = c.self.inside.fetches_begun; spill_failed = c.self.inside.spill_failed; ended_tasks = c.self.inside.ended_tasks.keys })
replaced_so c used entered =
    let left_then = ap (λ gs. without gs c.self.inside.window.placed) c.deref.ensures.value
    ∙ subst (λ (r : Row). without c.args.placement.now.gone.items r.window.placed ≡ placed_without r c.args.placement.now.victims) (sym c.self.view_is) c.requires.place.gone in
    let offset = some_value c.args.placement.now.offset c.in-Ok-replace.extent.offset
    (sym (ap (λ ps. first (extents_of ps) c.self.inside.window.quota c.args.len) left_then
    ∙ subst (λ (r : Row). first (extents_of (placed_without r c.args.placement.now.victims)) r.window.quota c.args.len ≡ Some c.args.placement.now.offset) (sym c.self.view_is) c.requires.place.first)
    ∙ c.in-Ok-replace.ensures.least) in
    let copies = c.evict_for.ensures.copies ∙ ap (λ vs. all_evicted vs c.insert.new.self) c.as_slice-victims.ensures ∙ ap (all_evicted c.args.placement.now.victims) (c.in_ok-insert.ensures.ok ∙ ap (with_entry c.self.inside.copies c.args.id.now) (c.created-copy.ensures ∙ ap (new_copy_view c.args.kind c.args.len) offset)) in
    let window = c.in-Ok-replace.ensures.placed
    ∙ (λ i. region (put_in (c.in-Ok-replace.extent.offset, replicate (c.in-Ok-replace.ensures.length i) 0) (left_then i))) in
    let order = c.evict_for.ensures.ids ∙ (λ i. without_missing (copies i) (c.as_slice-victims.ensures i) (entered i)) in
    record {
      least = ap (λ (r : Row). first (extents_of (placed_without r c.args.placement.now.victims)) r.window.quota c.args.len) (sym c.self.view_is)
          ∙ ap (λ ps. first (extents_of ps) c.self.inside.window.quota c.args.len) (sym left_then) ∙ c.in-Ok-replace.ensures.least;
      length = c.in-Ok-replace.ensures.length;
      row = (λ i. row_of (window i) (copies i) (order i)) ∙ ap (λ (r : Row). replaced r used c.args.id.now (new_copy_view c.args.kind c.args.len c.in-Ok-replace.extent.offset) c.args.len c.in-Ok-replace.extent.offset c.args.placement.now.victims) c.self.view_is;
      small = omega (arith, c.in-Ok-replace.ensures.small);
      fresh = ap (λ (r : Row). lookup (nat_eq c.in-Ok-replace.extent.offset) (placed_without r c.args.placement.now.victims)) (sym c.self.view_is) ∙ ap (lookup (nat_eq c.in-Ok-replace.extent.offset)) (sym left_then) ∙ c.in-Ok-replace.ensures.fresh;
    }
  where
    region : List (ℕ × List ℕ) → Region
    region placed = record c.self.inside.window { placed = placed }

    row_of : Region → ById CopyView → List ObjectId → Row
    row_of window copies order = record { job = c.self.inside.job.0; window = window; device = c.self.inside.device_quota; copies = copies; order = order; fetches_begun = c.self.inside.fetches_begun; spill_failed = c.self.inside.spill_failed; ended_tasks = c.self.inside.ended_tasks.keys }

pub returns-in-Ok-replace-clause-ok : goal.returns-in-Ok-replace-clause-ok
returns-in-Ok-replace-clause-ok c unlisted =
    replaced_so c (Some c.args.id.now) (c.in-Ok.ensures.ids (c.in-Ok.ensures.entered ∙ ap not (ap (λ (r : Row). is_among r.order c.args.id.now) c.self.view_is ∙ unlisted)))

pub returns-in-Ok-replace-clause-listed : goal.returns-in-Ok-replace-clause-listed
returns-in-Ok-replace-clause-listed c listed =
    replaced_so c None
    (ap order_ids (c.in-Ok.ensures.same (c.in-Ok.ensures.entered ∙ ap not (ap (λ (r : Row). is_among r.order c.args.id.now) c.self.view_is ∙ listed))) ∙ unused (order_ids c.self.inside.order))

pub returns-in-Ok-replace-clause-small : goal.returns-in-Ok-replace-clause-small
returns-in-Ok-replace-clause-small c = omega (arith, c.in-Ok-replace.ensures.small)
