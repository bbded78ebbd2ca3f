-- What arrives for a fetch, and the copy after it.
use Rattle.std.specs.Prelude.{ℕ, ◌==◌, Bool, false, not, ◌&&◌, if◌then◌else◌, List, [], ◌∷◌, filter, Option, Some, None}
use Rattle.std.specs.Option.{option_map_or}
use Rattle.obj_id.specs.declared.ids.ObjectId.{ObjectId}
use Rattle.private_store.specs.declared.inputs.Source.{Source}
use Rattle.private_store.specs.declared.faults.FetchFault.{FetchFault}
use Rattle.private_store.specs.declared.faults.FetchFault.TheVariants as fetch_fault
use Rattle.private_store.specs.declared.inputs.ChunkVerdict.{ChunkVerdict}
use Rattle.private_store.specs.declared.inputs.ChunkVerdict.TheVariants as chunk
use Rattle.private_store.specs.rules.Tables.{at}
use Rattle.private_store.specs.rules.Shape.{Copy, Fetch, Phase, Shape, pulling}
use Rattle.private_store.specs.rules.Marks.{marked}
use Rattle.private_store.specs.rules.Marks as mark
use Rattle.private_store.specs.rules.Room.{set_copy}
use Rattle.plain_store.specs.Marks.{fetch_under}
use Rattle.private_store.specs.rules.Contents.{is_locating}
use Rattle.private_store.specs.rules.Events.{is_missing}

abbrev pub pulls_from : ℕ → Phase → Bool
pulls_from from (pulling source missing) = from == source
pulls_from from _ = false

abbrev pub lacks_from : ℕ → ℕ → Phase → Bool
lacks_from index from (pulling source missing) = from == source && is_missing missing index
lacks_from index from _ = false

-- whether the copy is in the fetch of this number, and the fetch in such a phase
abbrev pub is_fetched : ℕ → (Phase → Bool) → Copy → Bool
is_fetched number test copy = option_map_or (λ fetch. fetch.number == number && test fetch.phase) copy.fetch false

-- whether its source isn't known
abbrev pub awaits_location : ℕ → Copy → Bool
awaits_location number copy = is_fetched number is_locating copy

-- whether it pulls from this node
abbrev pub awaits_from : ℕ → ℕ → Copy → Bool
awaits_from number from copy = is_fetched number (pulls_from from) copy

-- whether it pulls from this node and lacks the chunk
abbrev pub awaits : ℕ → ℕ → ℕ → Copy → Bool
awaits number index from copy = is_fetched number (lacks_from index from) copy

-- a source, or that there is no copy anywhere
abbrev pub located_under : ℕ → Option Source → Copy → Copy
located_under number source copy = marked (mark.located (fetch_under number) source) copy

-- the fetch is over with this fault, and the extent is given back
abbrev pub lost : ℕ → FetchFault → Copy → Copy
lost number fault copy = marked (mark.fetch_failed (fetch_under number) fault) copy

-- another copy in place of the id's own, if there is one that passes the test
abbrev pub changed_if : (Copy → Bool) → (Copy → Copy) → Shape → ObjectId → Shape
changed_if test f store id = option_map_or (λ copy. if test copy then set_copy store id (f copy) else store) (at store.copies id) store

-- the copy after a chunk, with what is missing then: a copy of a fetch that lacks none is sealed, or damaged
abbrev pub filled : ℕ → ℕ → List ℕ → ChunkVerdict → Copy → Copy
filled number source missing chunk.Ignored copy = copy
filled number source (i ∷ missing) _ copy = marked (mark.lacking (fetch_under number) source (i ∷ missing)) copy
filled number source [] chunk.Damaged copy = lost number fetch_fault.Damaged copy
filled number source [] _ copy = marked mark.brought copy

-- the copy after a chunk in this phase
abbrev pub chunked_in : Copy → Fetch → Phase → ℕ → ChunkVerdict → Copy
chunked_in copy fetch (pulling source missing) index verdict =
    filled fetch.number source (filter (λ i. not (i == index)) missing) verdict (record copy { fetch = None })
chunked_in copy fetch _ index verdict = copy

-- the copy after a chunk
abbrev pub chunked : ℕ → ChunkVerdict → Copy → Copy
chunked index verdict copy = option_map_or (λ fetch. chunked_in copy fetch fetch.phase index verdict) copy.fetch copy
