-- What messages make of a copy that is on its way.
use Rattle.std.specs.Prelude.{ℕ, Bool, false, ◌&&◌, ◌==◌, if◌then◌else◌, List, is_none, Option, Some, None, option_map}
use Rattle.std.specs.Option.{option_map_or}
use Rattle.std.specs.List.{list_all}
use Rattle.obj_id.specs.declared.messages.Location.{Location}
use Rattle.private_store.specs.declared.faults.FetchFault.{FetchFault}
use Rattle.private_store.specs.declared.faults.FetchFault.TheVariants.{Absent}
use Rattle.private_store.specs.rules.Shape.{Fetch, Phase, sized, failed}
use Rattle.private_store.specs.laws.Invariants.{is_fetching}
use Rattle.private_store.specs.rules.Marks.{marked}
use Rattle.private_store.specs.rules.Marks as mark
use Rattle.private_store.specs.rules.Contents.{is_locating, entry_elsewhere}
use Rattle.fetch_core.specs.Fetching.{Fetching, missing_of, is_pulled_from, fills_one, fetch_chunk_taken}
use Rattle.row_copy.specs.CopyViews.{CopyView, store_fetch_of}

-- the fetch of a copy of n bytes, without its digest
abbrev pub fetch_of_length : ℕ → Fetch → Fetching
fetch_of_length n fetch = record { number = fetch.number; phase = fetch.phase; length = n; digest = None }

-- the fetch in this phase
abbrev pub with_phase : Phase → Fetch → Fetch
with_phase phase fetch = record fetch { phase = phase }

abbrev pub in_phase : Phase → Option Fetch → Option Fetch
in_phase phase o = option_map (with_phase phase) o

-- ---- the directory's answer

-- whether an answer of this number is of the copy's fetch, whose source isn't known
abbrev pub awaits_source : ℕ → CopyView → Bool
awaits_source number kept =
    is_fetching kept.copy.state && is_none kept.copy.offset && option_map_or (λ fetch. fetch.number == number && is_locating fetch.phase) kept.copy.fetch false

-- the source is this entry, or there is none
abbrev pub after_source : Option Location → CopyView → CopyView
after_source (Some e) kept =
    record kept { copy = record kept.copy { length = e.length; fetch = in_phase (sized e.node) kept.copy.fetch }; digest = Some e.digest }
after_source None kept = record kept { copy = record kept.copy { fetch = in_phase (failed Absent) kept.copy.fetch }; digest = None }

abbrev pub after_located : ℕ → ℕ → List Location → CopyView → CopyView
after_located node number entries kept = if awaits_source number kept then after_source (entry_elsewhere node entries) kept else kept

-- ---- chunks

-- whether the copy's fetch has this number and asks this source
abbrev pub asks : ℕ → ℕ → CopyView → Bool
asks number from kept =
    is_fetching kept.copy.state && option_map_or (λ fetch. is_pulled_from number from (fetch_of_length kept.copy.length fetch)) kept.copy.fetch false

-- whether this source's chunk of n bytes fills a gap
abbrev pub fills : ℕ → ℕ → ℕ → ℕ → CopyView → Bool
fills number from index n kept =
    is_fetching kept.copy.state && option_map_or (λ fetch. fills_one number from index n (fetch_of_length kept.copy.length fetch)) kept.copy.fetch false

-- whether no other chunk is missing
abbrev pub lacks_only : ℕ → CopyView → Bool
lacks_only index kept = option_map_or (λ fetch. list_all (λ i. i == index) (missing_of fetch.phase)) kept.copy.fetch false

-- without the gap that the chunk fills
abbrev pub after_chunk : ℕ → ℕ → ℕ → ℕ → CopyView → CopyView
after_chunk number from index n kept =
    record kept { copy = record kept.copy { fetch = option_map (λ fetch. store_fetch_of (fetch_chunk_taken number from index n (fetch_of_length kept.copy.length fetch))) kept.copy.fetch } }

-- all its bytes are there
abbrev pub after_last_chunk : CopyView → CopyView
after_last_chunk kept = record kept { copy = marked mark.brought kept.copy }

-- ---- a fetch that fails

-- it has no place and no digest any more
abbrev pub after_failed_fetch : FetchFault → CopyView → CopyView
after_failed_fetch fault kept =
    record kept { copy = record kept.copy { offset = None; fetch = in_phase (failed fault) kept.copy.fetch }; digest = None }
