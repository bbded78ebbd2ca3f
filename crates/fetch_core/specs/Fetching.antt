-- A fetch as the node that fetches has it, and what becomes of it.
use Rattle.std.specs.Prelude.{ℕ, Bool, false, not, if◌then◌else◌, ◌&&◌, ◌==◌, List, [], length, filter, Option, Some, None}
use Rattle.std.specs.Option.{option_map_or}
use Rattle.obj_id.specs.declared.messages.Digest.{Digest}
use Rattle.obj_id.specs.declared.messages.Location.{Location}
use Rattle.private_store.specs.declared.faults.FetchFault.{FetchFault}
use Rattle.private_store.specs.declared.faults.FetchFault.TheVariants.{Absent}
use Rattle.private_store.specs.rules.Shape.{Phase, locating, sized, pulling, failed}
use Rattle.private_store.specs.rules.Marks.{chunk_count, counted}
use Rattle.private_store.specs.rules.Events.{is_missing}
use Rattle.private_store.specs.rules.Contents.{entry_elsewhere, has_digest, chunk_length}

-- the fetch, with the length and the digest that its location told
pub record Fetching : Type 0 where
  pub number : ℕ
  pub phase : Phase
  pub length : ℕ
  pub digest : Option Digest

abbrev pub begun : ℕ → Fetching
begun number = record { number = number; phase = locating; length = 0; digest = None }

-- the indexes that are still missing
abbrev pub missing_of : Phase → List ℕ
missing_of (pulling source missing) = missing
missing_of _ = []

-- a fetch that failed keeps its length, and has no digest any more
abbrev pub failed_with : Fetching → FetchFault → Fetching
failed_with fetch fault = record fetch { phase = failed fault; digest = None }

-- ---- the directory's answer

-- the first entry of another node is the source, and tells length and digest
abbrev pub sized_by : Fetching → Option Location → Fetching
sized_by fetch (Some e) = record fetch { phase = sized e.node; length = e.length; digest = Some e.digest }
sized_by fetch None = failed_with fetch Absent

abbrev pub fetch_after_located : ℕ → ℕ → List Location → Fetching → Fetching
fetch_after_located node number entries fetch =
    if number == fetch.number then (elim fetch.phase [
      | locating ↦ sized_by fetch (entry_elsewhere node entries)
      | _ ↦ fetch
    ]) else fetch

-- ---- asking for the chunks

-- all of them are missing
abbrev pub pull_begun : Fetching → Fetching
pull_begun fetch =
    elim fetch.phase [
      | sized source ↦ record fetch { phase = pulling source (counted 0 (chunk_count fetch.length)) }
      | _ ↦ fetch
    ]

-- whether this source's chunk of n bytes fills a gap
abbrev pub fetch_fills : Fetching → ℕ → ℕ → ℕ → ℕ → ℕ → List ℕ → Bool
fetch_fills fetch number from index n source missing =
    number == fetch.number && from == source && is_missing missing index && n == chunk_length fetch.length index

-- the fetch without that gap, where the chunk fills one
abbrev pub fetch_chunk_taken : ℕ → ℕ → ℕ → ℕ → Fetching → Fetching
fetch_chunk_taken number from index n fetch =
    elim fetch.phase [
      | pulling source missing ↦
          if fetch_fills fetch number from index n source missing
          then record fetch { phase = pulling source (filter (λ i. not (i == index)) missing) }
          else fetch
      | _ ↦ fetch
    ]

abbrev pub fills_one : ℕ → ℕ → ℕ → ℕ → Fetching → Bool
fills_one number from index n fetch =
    elim fetch.phase [
      | pulling source missing ↦ fetch_fills fetch number from index n source missing
      | _ ↦ false
    ]

-- ---- how it ends

-- bytes of the length and the digest that were told
abbrev pub is_whole : Fetching → List ℕ → Bool
is_whole fetch bytes = length bytes == fetch.length && option_map_or (has_digest bytes) fetch.digest false

-- whether the source is asked, and says that it has no such copy
abbrev pub is_pulled_from : ℕ → ℕ → Fetching → Bool
is_pulled_from number from fetch =
    elim fetch.phase [
      | pulling source missing ↦ number == fetch.number && from == source
      | _ ↦ false
    ]
