-- What a store uses of a window.
use Rattle.std.specs.Prelude.{ℕ, nat_le, Bool, true}
use Rattle.std.specs.Option.{option_map_or}
use Rattle.private_store.specs.rules.Shape.{Copy}
use Rattle.private_store.specs.rules.Extents.{end_of}
use Rattle.private_store.specs.rules.Copies.{extent_of}

-- whether the copy's extent, if it has one, doesn't reach past this end of a window
abbrev pub has_extent_within : ℕ → Copy → Bool
has_extent_within window copy = option_map_or (λ e. nat_le (end_of e) window) (extent_of copy) true
