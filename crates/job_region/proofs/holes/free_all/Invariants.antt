use Rattle.std.proofs.Common.{◌≡◌, ◌+◌, take, length, vec_len}
use Rattle.std.specs.Vec.{vec_capacity}
use Rattle.job_region.specs.Gaps.{gaps}
use Rattle.job_region.specs.Layout.{staying, placed_in, zipped, AreFilled}
use Rattle.job_region.proofs.Zipped.{memory_of}
use Rattle.job_region.proofs.holes.free_all.Given as goal

abbrev pub invariant-loop-e : goal.invariant-loop-e
invariant-loop-e l = record {
  left : l.extents.items ≡ staying (take l.e-index l.gone) l.fn.extents.items;
  free : l.holes ≡ gaps l.quota 0 l.extents.items;
  spare : vec_len l.rooms + length l.fn.extents.items ≡ vec_len l.fn.rooms + length l.extents.items;
  capacity : vec_capacity l.extents ≡ vec_capacity l.fn.extents;
  filled : AreFilled l.extents.items l.buffers.items;
  placed : zipped l.extents.items l.buffers.items ≡ placed_in (memory_of l.quota l.fn.extents.items l.fn.buffers.items) l.extents.items;
  room : vec_capacity l.buffers ≡ vec_capacity l.fn.buffers;
}
