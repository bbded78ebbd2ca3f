-- What lies under a standing grant: the object's copy in the store of its own job, and its bytes.
use Rattle.std.specs.Prelude.{◌≡◌, ℕ, true, List, ◌∷◌, reverse, Some, is_some}
use Rattle.private_store.specs.declared.schedules.Traced.{Traced}
use Rattle.private_store.specs.rules.Tables.{at}
use Rattle.private_store.specs.rules.Shape.{Copy, Shape}
use Rattle.obj_id.specs.Kinds.{is_primary}
use Rattle.private_store.specs.rules.Copies.{is_sealed}
use Rattle.private_store.specs.rules.Contents.{bytes_at}
use Rattle.private_store.specs.rules.Private.{Store}
use Rattle.private_store.specs.rules.Grants.{StandingGrant}
use Rattle.private_store.specs.rules.Trace.{grants_at}
use Rattle.private_store.specs.rules.Shared.{store_at}
use Rattle.run_laws.specs.Ending.{stands}

-- the own job's store has a copy of the object: a sealed primary, which lies in the window
pub record IsHeldOnTo (own : Shape) (grant : StandingGrant) : Type 0 where
  pub copy : Copy
  pub here : at own.copies grant.id ≡ Some copy
  pub sealed : is_sealed copy.state ≡ true
  pub primary : is_primary copy.kind ≡ true
  pub resident : is_some copy.offset ≡ true

-- it is so of each grant that stands after the trace
pub record HoldsOn (nodes node : ℕ) (trace : List Traced) : Type 0 where
  pub each : (grant : StandingGrant) → stands grant (grants_at node (reverse trace)) → (own : Store) → store_at nodes node (reverse trace) grant.id.job.0 ≡ Some own → IsHeldOnTo own.shape grant

-- and the grantee's store has the very bytes that the own job's store has
pub record ShowsWhatIs (nodes node : ℕ) (trace : List Traced) : Type 0 where
  pub each : (grant : StandingGrant) → stands grant (grants_at node (reverse trace)) → (own grantee : Store) → store_at nodes node (reverse trace) grant.id.job.0 ≡ Some own → store_at nodes node (reverse trace) grant.grantee ≡ Some grantee
      → bytes_at grantee.contents.received grant.id ≡ bytes_at own.contents.bytes grant.id

-- one step more leaves those bytes as they are, if the grant still stands after it
pub record BytesStay (nodes node : ℕ) (trace : List Traced) (entry : Traced) : Type 0 where
  pub each : (grant : StandingGrant) → stands grant (grants_at node (reverse trace)) → stands grant (grants_at node (entry ∷ reverse trace)) → (before after : Store)
      → store_at nodes node (reverse trace) grant.id.job.0 ≡ Some before → store_at nodes node (entry ∷ reverse trace) grant.id.job.0 ≡ Some after
      → bytes_at after.contents.bytes grant.id ≡ bytes_at before.contents.bytes grant.id
