-- Classes of victims.
use Rattle.std.specs.Prelude.{Bool}
use Rattle.use_tree.specs.declared.classes.VictimClass.{VictimClass}
use Rattle.use_tree.specs.declared.classes.VictimClass.TheVariants.{Evictable, Draining, Spillable}
use Rattle.use_tree.specs.declared.classes.VictimClasses.{VictimClasses}

-- whether a class is among them
abbrev pub has : VictimClass → VictimClasses → Bool
has Evictable m = m.evictable
has Draining m = m.draining
has Spillable m = m.spillable
