use Rattle.std.proofs.Common.{nat_eq, sym, ap, subst}
use Rattle.std.specs.Map.{lookup}
use Rattle.job_region.specs.Layout.{zipped}
use Rattle.job_region.specs.Region.{Region, IsAt}
use Rattle.job_region.proofs.Bisected.{laid_rising}
use Rattle.job_region.proofs.Zipped.{some_of}
use Rattle.job_region.proofs.Window.compare.Goals as goal

pub compare_at-requires-clause-rising : goal.compare_at-requires-clause-rising
compare_at-requires-clause-rising c =
    rw c.deref.ensures.value (laid_rising c.self.inside.quota 0 c.self.inside.extents.items c.self.invariant.laid)

pub compare_at-requires-clause-filled : goal.compare_at-requires-clause-filled
compare_at-requires-clause-filled c =
    rw c.deref.ensures.value c.self.invariant.filled

pub compare_at-requires-clause-there : goal.compare_at-requires-clause-there
compare_at-requires-clause-there c =
    let w = c.self.inside in
    let placed = ap (λ (r : Region). r.placed) c.self.view_is in
    let o = c.args.extent.now.offset in
    rw c.deref.ensures.value (some_of _ (lookup (nat_eq o) (zipped w.extents.items w.buffers.items)) (subst (IsAt c.args.extent.now) (sym placed) c.requires))
