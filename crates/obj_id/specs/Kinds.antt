-- The word for an object's first copy.
use Rattle.std.specs.Prelude.{Bool, true, false}
use Rattle.obj_id.specs.declared.commands.Kind.{Kind}
use Rattle.obj_id.specs.declared.commands.Kind.TheVariants.{Primary, Secondary}

abbrev pub is_primary : Kind → Bool
is_primary Primary = true
is_primary Secondary = false
