use Rattle.std.proofs.Common.{rules, arith, get_or}
use Rattle.std.specs.Prelude.{nat_lt}
use Rattle.std.proofs.lemmas.List.Sorted.{IsPartitionedBy-ltb, IsPartitionPoint-from_clause}
use Rattle.obj_id.specs.declared.works.Extent.{Extent}
use Rattle.job_region.proofs.Bisected.{less, not_less}
use Rattle.job_region.proofs.extents.place_of.Goals as goal

pub returns-clause-before : goal.returns-clause-before
returns-clause-before c =
    let parted = IsPartitionPoint-from_clause (λ (e : Extent). nat_lt e.offset c.args.offset) c.args.extents.now c.partition_point.result c.partition_point.ensures.partitioned
    (IsPartitionedBy-ltb (λ (e : Extent). e.offset) c.args.extents.now c.args.offset c.requires) (λ a r g called. search rules) in
    λ j d lt. less (get_or c.args.extents.now j d).offset c.args.offset (parted.0 j d (omega arith) lt)

pub returns-clause-after : goal.returns-clause-after
returns-clause-after c =
    let parted = IsPartitionPoint-from_clause (λ (e : Extent). nat_lt e.offset c.args.offset) c.args.extents.now c.partition_point.result c.partition_point.ensures.partitioned
    (IsPartitionedBy-ltb (λ (e : Extent). e.offset) c.args.extents.now c.args.offset c.requires) (λ a r g called. search rules) in
    λ j d ge lt. not_less (get_or c.args.extents.now j d).offset c.args.offset (parted.1 j d ge lt)
