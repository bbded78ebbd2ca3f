-- Device works, by their kind.
use Rattle.std.specs.Prelude.{Bool, false, true}
use Rattle.obj_id.specs.declared.works.WorkKind.{WorkKind}
use Rattle.obj_id.specs.declared.works.WorkKind.TheVariants.{Read, Write}

abbrev pub is_write : WorkKind → Bool
is_write Write = true
is_write Read = false
