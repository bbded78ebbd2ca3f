-- What ends together with the grants that a grantor ends, in words that don't go through the table in any order.
use Rattle.std.specs.Prelude.{◌≡◌, ℕ, zero, suc, ◌==◌, Bool, true, false, not, ◌&&◌, ◌||◌, List, [], ◌∷◌, map, filter}
use Rattle.std.specs.List.{list_any}
use Rattle.std.specs.Ordering.{is_lt}
use Rattle.obj_id.specs.declared.commands.Reply.TheVariants.{Ok}
use Rattle.private_store.specs.declared.schedules.Event.{Event}
use Rattle.private_store.specs.declared.schedules.Step.TheVariants.{At}
use Rattle.private_store.specs.declared.schedules.StepAnswer.TheVariants.{Response}
use Rattle.private_store.specs.declared.schedules.Traced.{Traced}
use Rattle.private_store.specs.rules.Cluster.{ClusterInput}
use Rattle.private_store.specs.rules.Limits.{greatest_depth}
use Rattle.grants.specs.Chains.{one_is}
use Rattle.private_store.specs.rules.Grants.{StandingGrant, is_child_of, grant_cmp, grants_ended, grants_left, grants_sorted}
use Rattle.private_store.specs.rules.Trace.{grants_at, grants_step, notes, withdrawn_note}

-- the grant passes the test, or so many grants at most lead down from it to one that does
abbrev pub ends_within : ℕ → (StandingGrant → Bool) → List StandingGrant → StandingGrant → Bool
ends_within zero test grants grant = test grant
ends_within (suc n) test grants grant = test grant || list_any (λ below. is_child_of grant below && ends_within n test grants below) grants

-- as far down as there are grants
abbrev pub ends_with : (StandingGrant → Bool) → List StandingGrant → StandingGrant → Bool
ends_with test grants grant = ends_within greatest_depth test grants grant

-- the grant is in the table
abbrev pub stands : StandingGrant → List StandingGrant → Type 0
stands grant grants = one_is (λ h. h ≡ grant) grants

-- by depth, object, grantor and grantee, each grant comes after the one before it or equals it there
abbrev pub rises_from : StandingGrant → List StandingGrant → Bool
rises_from grant [] = true
rises_from grant (h ∷ hs) = not (is_lt (grant_cmp h grant)) && rises_from h hs

abbrev pub rises : List StandingGrant → Bool
rises [] = true
rises (grant ∷ grants) = rises_from grant grants

-- what a table loses to a test
pub record EndsAlong (test : StandingGrant → Bool) (grants : List StandingGrant) : Type 0 where
  -- it keeps all other grants, oldest first
  pub left : grants_left test grants ≡ filter (λ grant. not (ends_with test grants grant)) grants
  -- the grantees are notified of just those that it loses
  pub response : grants_ended test grants ≡ grants_sorted (filter (ends_with test grants) grants)
  -- .. in order of depth, object, grantor and grantee
  pub in_order : rises (grants_ended test grants) ≡ true
  -- a grant that passes is lost
  pub test_ends : (grant : StandingGrant) → test grant ≡ true → ends_with test grants grant ≡ true
  -- with a grant that is lost goes each grant that hangs on it
  pub along : (grant below : StandingGrant) → stands grant grants → stands below grants → is_child_of grant below ≡ true → ends_with test grants below ≡ true → ends_with test grants grant ≡ true

-- an event that ends grants, accepted at the node after this history: its one step takes those grants and all that hang on
-- them out of the node's table, gives the notes of just these, and leaves the tables of other nodes
pub record EndsThere (nodes node : ℕ) (history : List Traced) (e : Event) (test : StandingGrant → Bool) : Type 0 where
  pub left : grants_step node (grants_at node history) (At node e) (Response Ok) ≡ filter (λ grant. not (ends_with test (grants_at node history) grant)) (grants_at node history)
  pub response : (inputs : ℕ → List ClusterInput) → notes nodes inputs history (At node e) (Response Ok)
      ≡ map (withdrawn_note node) (grants_sorted (filter (ends_with test (grants_at node history)) (grants_at node history)))
  pub elsewhere : (other : ℕ) → (node == other) ≡ false → grants_step other (grants_at other history) (At node e) (Response Ok) ≡ grants_at other history
  pub along : EndsAlong test (grants_at node history)
