-- Lists of uses by rising turn.
use Rattle.std.specs.Prelude.{◌≡◌, ℕ, ◌-◌, ◌^◌, Bool, false, ◌&&◌, ◌||◌, nat_lt, if◌then◌else◌, List, [], ◌∷◌, Option, Some, None}
use Rattle.augmented_tree.specs.Lists.{IsRisingBy, take_item, has_item, change_item}
use Rattle.use_tree.specs.declared.classes.VictimClass.{VictimClass}
use Rattle.use_tree.specs.declared.classes.VictimClasses.{VictimClasses}
use Rattle.use_tree.specs.declared.uses.Use.{Use}
use Rattle.use_tree.specs.Classes.{has}

abbrev pub turn_of : Use → ℕ
turn_of u = u.turn

-- nothing is asked of a use
abbrev pub IsAnyUse : Use → Type 0
IsAnyUse u = Unit {0}

abbrev pub use_in_classes : VictimClasses → Use → Use
use_in_classes m u = record u { classes = m }

-- each turn is below all later ones
abbrev pub AreUsesRising : List Use → Type 0
AreUsesRising = IsRisingBy turn_of

-- without the use of a turn
abbrev pub take_use : ℕ → List Use → List Use
take_use = take_item turn_of

-- whether there is a use of a turn
abbrev pub has_use : ℕ → List Use → Bool
has_use = has_item turn_of

-- with these choices for the use of a turn
abbrev pub use_with_classes : ℕ → VictimClasses → List Use → List Use
use_with_classes t m = change_item turn_of (use_in_classes m) t

-- whether any use has the choice
abbrev pub any_chosen : VictimClass → List Use → Bool
any_chosen k [] = false
any_chosen k (x ∷ xs) = has k x.classes || any_chosen k xs

-- these are the choices of all uses
abbrev pub AreClassesOf : VictimClasses → List Use → Type 0
AreClassesOf m xs = (k : VictimClass) → has k m ≡ any_chosen k xs

-- the first one, if there is one, and otherwise the second
abbrev pub either : Option Use → Option Use → Option Use
either (Some x) o = Some x
either None o = o

-- the last use with the choice of a turn below b
abbrev pub last_chosen : VictimClass → ℕ → List Use → Option Use
last_chosen k b [] = None
last_chosen k b (x ∷ xs) = either (last_chosen k b xs) (if nat_lt x.turn b && has k x.classes then Some x else None)

-- where the last turns begin that are 2 to this many
abbrev pub start : ℕ → ℕ
start bits = 4611686018427387904 - 2 ^ bits
