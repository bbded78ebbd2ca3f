-- Get of a copy that is on its way, by its fetch.
use Rattle.std.specs.Prelude.{ℕ, List}
use Rattle.std.specs.Option.{option_map_or}
use Rattle.obj_id.specs.declared.ids.ObjectId.{ObjectId}
use Rattle.obj_id.specs.declared.refusals.Refusal.TheVariants.{Absent}
use Rattle.private_store.specs.rules.Tables.{at}
use Rattle.private_store.specs.rules.Shape.{Copy, Shape, Change, Phase, locating, sized, pulling, failed}
use Rattle.private_store.specs.rules.Marks.{marked}
use Rattle.private_store.specs.rules.Marks as mark
use Rattle.private_store.specs.rules.Room.{set_copy}
use Rattle.private_store.specs.rules.Change.{needing}
use Rattle.private_store.specs.rules.Commands.{get_fetching}
use Rattle.plain_store.specs.declared.fetching.NextStep.{NextStep}
use Rattle.plain_store.specs.declared.fetching.NextStep.TheVariants.{Wait, Pull, Tell}

-- what the next Get does in the phase
abbrev pub next_step_of : Phase → NextStep
next_step_of locating = Wait
next_step_of (sized source) = Pull source
next_step_of (pulling source missing) = Wait
next_step_of (failed fault) = Tell fault

abbrev pub get_fetch : List ObjectId → Shape → ObjectId → Copy → Change
get_fetch order store id copy = needing store copy.fetch Absent (λ fetch. get_fetching order store id copy fetch fetch.phase)

-- of a copy whose source is known
abbrev pub get_sized : List ObjectId → Shape → ObjectId → ℕ → Copy → Change
get_sized order store id source copy = needing store copy.fetch Absent (λ fetch. get_fetching order store id copy fetch (sized source))

-- the copy takes its extent, and waits for all chunks
abbrev pub pulled_copy : Copy → ℕ → ℕ → Copy
pulled_copy copy source offset =
    option_map_or (λ fetch. marked (mark.pulled fetch offset source) copy) copy.fetch copy

abbrev pub pulled : Shape → ObjectId → ℕ → ℕ → Shape
pulled store id source offset = option_map_or (λ copy. set_copy store id (pulled_copy copy source offset)) (at store.copies id) store
