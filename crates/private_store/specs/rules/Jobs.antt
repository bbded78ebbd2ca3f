-- Jobs by number.
use Rattle.std.specs.Prelude.{nat_eq, Bool}
use Rattle.obj_id.specs.declared.ids.JobNo.{JobNo}

-- whether they have one number
abbrev pub same_job : JobNo → JobNo → Bool
same_job a b = nat_eq a.0 b.0
