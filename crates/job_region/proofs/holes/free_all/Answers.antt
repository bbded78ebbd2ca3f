use Rattle.std.proofs.Common.{refl, sym, ap, ◌∙◌, arith, take, get_or, nat_eq, List}
use Rattle.std.specs.Map.{remove_entry}
use Rattle.std.proofs.lemmas.List.{take_all}
use Rattle.obj_id.specs.declared.works.Extent.{Extent}
use Rattle.job_region.specs.Layout.{staying, placed_in, without_extent}
use Rattle.job_region.specs.Region.{without}
use Rattle.job_region.proofs.Kept.{kept_laid, placed_kept}
use Rattle.job_region.proofs.Places.{taken_placed}
use Rattle.job_region.proofs.Zipped.{memory_of, memory_placed}
use Rattle.job_region.proofs.Going.{none_go, kept_next, without_is_kept}
use Rattle.job_region.proofs.holes.free_all.Goals as goal

abbrev none : Extent
none = record { offset = 0; length = 0 }

pub loop-e-init : goal.loop-e-init
loop-e-init c = record { left = sym (none_go c.args.extents.now.items); free = c.requires.free; spare = refl; capacity = refl; filled = c.requires.filled; placed = sym (memory_placed c.args.quota c.args.extents.now.items c.args.buffers.now.items c.requires.laid c.requires.filled); room = refl }

pub free_at-requires-clause-laid : goal.free_at-requires-clause-laid
free_at-requires-clause-laid c =
    rw c.loop-e.invariant.left (kept_laid (take c.loop-e.e-index c.args.gone.now) c.args.quota 0 c.args.extents.now.items c.requires.laid)

pub loop-e-preserved : goal.loop-e-preserved
loop-e-preserved c =
    let gone = c.args.gone.now in
    let i = c.loop-e.e-index in
    let es = c.args.extents.now.items in
    let e = get_or gone i none in
    let m = memory_of c.args.quota c.args.extents.now.items c.args.buffers.now.items in
    record {
      left = c.free_at.ensures.left ∙ ap (without_extent e.offset) c.loop-e.invariant.left
          ∙ without_is_kept e c.args.quota 0 (staying (take i gone) es) (kept_laid (take i gone) c.args.quota 0 es c.requires.laid)
          ∙ sym (kept_next gone i none es c.loop-e-test.true);
      free = c.free_at.ensures.free;
      spare = omega (arith, c.free_at.ensures.spare, c.loop-e.invariant.spare);
      capacity = c.free_at.ensures.capacity ∙ c.loop-e.invariant.capacity;
      filled = c.free_at.ensures.filled;
      placed = c.free_at.ensures.placed ∙ ap (remove_entry (nat_eq e.offset)) c.loop-e.invariant.placed
          ∙ sym (taken_placed m e.offset c.loop-e.extents.items) ∙ ap (placed_in m) (sym c.free_at.ensures.left);
      room = c.free_at.ensures.room ∙ c.loop-e.invariant.room;
    }

pub returns-clause-placed : goal.returns-clause-placed
returns-clause-placed c =
    let gone = c.args.gone.now in
    let es = c.args.extents.now.items in
    let bs = c.args.buffers.now.items in
    let m = memory_of c.args.quota es bs in
    let left = c.loop-e.invariant.left ∙ ap (λ (g : List Extent). staying g es) (take_all c.loop-e.e-index gone (omega (arith, c.loop-e-test.false))) in
    c.loop-e.invariant.placed ∙ ap (placed_in m) left ∙ placed_kept m gone es ∙ ap (without gone) (memory_placed c.args.quota es bs c.requires.laid c.requires.filled)
