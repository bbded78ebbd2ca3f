-- A fetch as a private store has it, and what a chunk makes of it.
use Rattle.std.specs.Prelude.{◌≡◌, ℕ, not, if◌then◌else◌, List, [], ◌∷◌, length, Option, Some, None}
use Rattle.obj_id.specs.declared.ids.ObjectId.{ObjectId}
use Rattle.obj_id.specs.declared.commands.CopyState.TheVariants.{Sealed}
use Rattle.private_store.specs.declared.faults.FetchFault.TheVariants.{Damaged}
use Rattle.private_store.specs.rules.Tables.{at}
use Rattle.private_store.specs.rules.Shape.{Copy, Shape, Fetch}
use Rattle.fetch_core.specs.Fetching.{Fetching, missing_of, failed_with, fetch_chunk_taken, fills_one, is_whole}

-- the store's copy of the object is in this fetch
pub record IsFetchAt (store : Shape) (id : ObjectId) (f : Fetching) : Type 0 where
  pub copy : Copy
  pub fetch : Fetch
  pub there : at store.copies id ≡ Some copy
  pub in_fetch : copy.fetch ≡ Some fetch
  pub number : f.number ≡ fetch.number
  pub phase : f.phase ≡ fetch.phase
  pub length : f.length ≡ copy.length

-- the store's copy of the object came by a fetch, which is over
pub record IsBroughtAt (store : Shape) (id : ObjectId) : Type 0 where
  pub copy : Copy
  pub there : at store.copies id ≡ Some copy
  pub sealed : copy.state ≡ Sealed
  pub over : copy.fetch ≡ None

-- a chunk that fills no gap leaves the fetch as it was, and one that isn't the last leaves the others missing.
-- The last one ends it, if these are the object's bytes: it is over then; otherwise it has failed
abbrev pub store_after_chunk : ℕ → ℕ → ℕ → List ℕ → List ℕ → Fetching → Option Fetching
store_after_chunk number from index chunk bytes f =
    let taken = fetch_chunk_taken number from index (length chunk) f in
    if not (fills_one number from index (length chunk) f) then Some f else
    (elim (missing_of taken.phase) [
      | _ ∷ _ ↦ Some taken
      | [] ↦ if is_whole taken bytes then None else Some (failed_with taken Damaged)
    ])

-- the store has that fetch, or what it brought
abbrev pub IsLedTo : Shape → ObjectId → Option Fetching → Type 0
IsLedTo store id (Some f) = IsFetchAt store id f
IsLedTo store id None = IsBroughtAt store id
