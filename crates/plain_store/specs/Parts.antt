-- How far a fetch is, and how far a job, as the private store says it.
use Rattle.std.specs.Prelude.{Bool, true, false}
use Rattle.private_store.specs.rules.Shape.{Phase, locating, sized, pulling, failed, Life as StoreLife, not_begun, live, ended}
use Rattle.plain_store.specs.declared.copies.FetchPhase.{FetchPhase}
use Rattle.plain_store.specs.declared.copies.FetchPhase.TheVariants as phase
use Rattle.plain_store.specs.declared.store.Life.{Life}
use Rattle.plain_store.specs.declared.store.Life.TheVariants as life

abbrev pub plain_phase_of : FetchPhase → Phase
plain_phase_of phase.Locating = locating
plain_phase_of (phase.Sized source) = sized source
plain_phase_of (phase.Pulling source missing) = pulling source missing.items
plain_phase_of (phase.Failed fault) = failed fault

abbrev pub life_of : Life → StoreLife
life_of life.NotBegun = not_begun
life_of life.Live = live
life_of life.Ended = ended

-- whether it was ever admitted
abbrev pub has_begun : StoreLife → Bool
has_begun not_begun = false
has_begun live = true
has_begun ended = true
