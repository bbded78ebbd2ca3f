use Rattle.lru_evictor.specs.Orders.{order_ids}
use Rattle.std.proofs.Common.{◌≡◌, ℕ, nat_eq, false, replicate, List, Some, None, sym, ap, subst, ◌∙◌, arith}
use Rattle.std.specs.Map.{lookup}
use Rattle.std.specs.Option.{option_map_or}
use Rattle.obj_id.specs.declared.ids.ObjectId.{ObjectId}
use Rattle.private_store.specs.rules.Tables.{ById, at, with_entry}
use Rattle.private_store.specs.rules.Extents.{first}
use Rattle.job_region.specs.Region.{Region, extents_of, put_in, without}
use Rattle.job_row.specs.Evicting.{all_evicted, placed_without, replaced, without_missing}
use Rattle.row_copy.specs.CopyViews.{CopyView, waits_for_place, after_placing}
use Rattle.job_row.specs.Row.{Row, place_of, ArePlaced}
use Rattle.job_row.proofs.Changes.{changed-found}
use Rattle.job_row.proofs.Replacing.{new_lies, replaced_placed, alone}
use Rattle.job_row.proofs.FollowsCopies.{changed_but, placed_unknown}
use Rattle.job_row.proofs.row.JobRow.place_copy.Goals as goal
use Rattle.job_row.proofs.Waiting.{waiting, unused, placed_lies}

pub apply-requires : goal.apply-requires
apply-requires c k found = c.requires.awaits k (ap (λ (r : Row). at r.copies c.args.id.now) (sym c.self.view_is) ∙ found)

pub invariant_of-self-2 : goal.invariant_of-self-2
invariant_of-self-2 c =
    let w = waiting c.self.inside.copies c.args.id.now c.args.len (ap (λ (r : Row). option_map_or (waits_for_place c.args.len) (at r.copies c.args.id.now) false) c.self.view_is ∙ c.requires.waits) in
    let left = ap (λ gs. without gs c.self.inside.window.placed) c.deref.ensures.value
    ∙ subst (λ (r : Row). without c.args.placement.now.gone.items r.window.placed ≡ placed_without r c.args.placement.now.victims) (sym c.self.view_is) c.requires.place.gone in
    let copies = c.evict_for.ensures.copies ∙ ap (λ vs. all_evicted vs c.apply.new.self) c.as_slice-victims.ensures ∙ ap (all_evicted c.args.placement.now.victims) (c.apply.ensures.copies ∙ changed-found (after_placing c.args.awaited c.in_ok-extent.extent.offset) c.args.id.now c.self.inside.copies w.k w.found) in
    let placed = ap (λ (w : Region). w.placed) c.in_ok-extent.ensures.placed
    ∙ (λ i. put_in (c.in_ok-extent.extent.offset, replicate (c.in_ok-extent.ensures.length i) 0) (left i)) in
    let fresh = ap (lookup (nat_eq c.in_ok-extent.extent.offset)) (sym left) ∙ c.in_ok-extent.ensures.fresh in
    let stays = c.requires.stays in
    let lies = placed_lies c.args.awaited c.in_ok-extent.extent.offset w.k c.args.len w.long in
    let there = new_lies c.self.inside.copies c.self.inside.window.placed c.self.invariant.0 c.args.placement.now.victims c.args.id.now (after_placing c.args.awaited c.in_ok-extent.extent.offset w.k) c.args.len c.in_ok-extent.extent.offset w.nowhere stays lies fresh in
    let now_lie : ArePlaced c.replace.new.self.placed (place_of c.evict_for.new.copies) = subst (λ t. ArePlaced c.replace.new.self.placed (place_of t)) (sym copies)
    (subst (λ ps. ArePlaced ps (place_of (all_evicted c.args.placement.now.victims (with_entry c.self.inside.copies c.args.id.now (after_placing c.args.awaited c.in_ok-extent.extent.offset w.k))))) (sym placed)
    (replaced_placed c.self.inside.copies c.self.inside.window.placed c.self.invariant.0 c.args.placement.now.victims c.args.id.now (after_placing c.args.awaited c.in_ok-extent.extent.offset w.k) c.args.len c.in_ok-extent.extent.offset w.nowhere stays lies fresh)) in (
      now_lie,
      c.evict_for.ensures.infos
          (alone c.replace.new.self.placed c.evict_for.new.copies c.args.id.now c.in_ok-extent.extent now_lie (ap (λ t. place_of t c.args.id.now) copies ∙ there ∙ (λ i. Some (record { offset = c.in_ok-extent.extent.offset; length = sym c.in_ok-extent.ensures.length i }))) c.in_ok-extent.ensures.small)
          (placed_unknown c.args.id.now c.self.inside.copies c.apply.new.self (changed_but (after_placing c.args.awaited c.in_ok-extent.extent.offset) c.self.inside.copies c.apply.new.self c.args.id.now c.apply.ensures.copies) w.nowhere c.self.inside.order c.self.invariant.1),
    )

pub returns-clause-ok : goal.returns-clause-ok
returns-clause-ok c k found =
    let left = ap (λ gs. without gs c.self.inside.window.placed) c.deref.ensures.value
    ∙ subst (λ (r : Row). without c.args.placement.now.gone.items r.window.placed ≡ placed_without r c.args.placement.now.victims) (sym c.self.view_is) c.requires.place.gone in
    let there = ap (λ (r : Row). at r.copies c.args.id.now) c.self.view_is ∙ found in
    let copies = c.evict_for.ensures.copies ∙ ap (λ vs. all_evicted vs c.apply.new.self) c.as_slice-victims.ensures ∙ ap (all_evicted c.args.placement.now.victims) (c.apply.ensures.copies ∙ changed-found (after_placing c.args.awaited c.in_ok-extent.extent.offset) c.args.id.now c.self.inside.copies k there) in
    let window = c.in_ok-extent.ensures.placed
    ∙ (λ i. region (put_in (c.in_ok-extent.extent.offset, replicate (c.in_ok-extent.ensures.length i) 0) (left i))) in
    let order = c.evict_for.ensures.ids ∙ (λ i. without_missing (copies i) (c.as_slice-victims.ensures i) (unused (order_ids c.self.inside.order) i)) in
    record {
      least = ap (λ (r : Row). first (extents_of (placed_without r c.args.placement.now.victims)) r.window.quota c.args.len) (sym c.self.view_is)
          ∙ ap (λ ps. first (extents_of ps) c.self.inside.window.quota c.args.len) (sym left) ∙ c.in_ok-extent.ensures.least;
      length = c.in_ok-extent.ensures.length;
      row = (λ i. row_of (window i) (copies i) (order i)) ∙ ap (λ (r : Row). replaced r None c.args.id.now (after_placing c.args.awaited c.in_ok-extent.extent.offset k) c.args.len c.in_ok-extent.extent.offset c.args.placement.now.victims) c.self.view_is;
      small = omega (arith, c.in_ok-extent.ensures.small);
      fresh = ap (λ (r : Row). lookup (nat_eq c.in_ok-extent.extent.offset) (placed_without r c.args.placement.now.victims)) (sym c.self.view_is) ∙ ap (lookup (nat_eq c.in_ok-extent.extent.offset)) (sym left) ∙ c.in_ok-extent.ensures.fresh;
    }
  where
    region : List (ℕ × List ℕ) → Region
    region placed = record c.self.inside.window { placed = placed }

    row_of : Region → ById CopyView → List ObjectId → Row
    row_of window copies order = record { job = c.self.inside.job.0; window = window; device = c.self.inside.device_quota; copies = copies; order = order; fetches_begun = c.self.inside.fetches_begun; spill_failed = c.self.inside.spill_failed; ended_tasks = c.self.inside.ended_tasks.keys }
