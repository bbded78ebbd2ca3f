-- How a fetch's stage and its missing indexes are its phase.
use Rattle.std.specs.Prelude.{ℕ, List}
use Rattle.private_store.specs.rules.Shape.{Phase, locating, sized, pulling, failed}
use Rattle.fetch_core.specs.declared.Stage.{Stage}
use Rattle.fetch_core.specs.declared.Stage.TheVariants as stage

abbrev pub phase_of : Stage → List ℕ → Phase
phase_of stage.Locating missing = locating
phase_of (stage.Sized source) missing = sized source
phase_of (stage.Pulling source) missing = pulling source missing
phase_of (stage.Failed fault) missing = failed fault
