-- A store knows each object that others gave by the length that it has in the store of its own job.
use Rattle.std.proofs.Common.{◌≡◌, ℕ, zero, suc, true, List, [], ◌∷◌, length, reverse, slice_get, Option, Some, None, is_some, refl, sym, ap, ◌∙◌}
use Rattle.std.specs.Prelude.{if◌then◌else◌, option_map, ◌==◌}
use Rattle.std.specs.Option.{option_map_or}
use Rattle.obj_id.specs.declared.ids.ObjectId.{ObjectId}
use Rattle.obj_id.specs.declared.messages.Message.{Message}
use Rattle.obj_id.specs.declared.messages.Message.TheVariants as message
use Rattle.obj_id.specs.declared.messages.Endpoint.{Endpoint}
use Rattle.obj_id.specs.declared.messages.Endpoint.TheVariants.{Node, Directory}
use Rattle.private_store.specs.declared.inputs.Input.{Input}
use Rattle.private_store.specs.declared.inputs.Input.TheVariants.{Arrive}
use Rattle.private_store.specs.declared.schedules.Traced.{Traced}
use Rattle.private_store.specs.rules.Tables.{at}
use Rattle.private_store.specs.rules.Shape.{Seen}
use Rattle.private_store.specs.rules.Contents.{bytes_at}
use Rattle.private_store.specs.rules.Private.{Store, private_step}
use Rattle.private_store.specs.rules.Cluster.{Cluster, ClusterInput, at_node, deliver, cluster_step, cluster_from, no_cluster, handed_over, handed_to_directory, message_at, damaged, arrival_of, input_at, unmoved}
use Rattle.private_store.specs.rules.Trace.{grants_at, inputs_until, cluster_until}
use Rattle.store_facts.proofs.Tests.{true_false}
use Rattle.grants.specs.Private.{HasGrants}
use Rattle.run_laws.specs.Standing.{ArePrivate, HaveGrants, own_lengths}
use Rattle.run_laws.proofs.ClusterInputs.{input_stores}
use Rattle.run_laws.proofs.Halves.{HasHalves, halves_have}
use Rattle.run_laws.proofs.Histories.{stand_of, trace_private}
use Rattle.run_laws.proofs.ShownBytes.{showing_until}
use Rattle.run_laws.proofs.StoresKept.{come_kept, all_come}

-- ---- all jobs have stores at the same nodes

some_mapped : (f : Store → Store) (o : Option Store) → is_some (option_map f o) ≡ is_some o
some_mapped f None = refl
some_mapped f (Some s) = refl

input_there : (C : Cluster) (m : ℕ) (x : Input) (n : ℕ) → is_some (slice_get (input_at C m x).cluster.stores n) ≡ is_some (slice_get C.stores n)
input_there C m x n = ap is_some (input_stores C m x n) ∙ some_mapped (λ s. if m == n then private_step m s x else s) (slice_get C.stores n)

directory_there : (C : Cluster) (m : Message) (n : ℕ) → is_some (slice_get (handed_to_directory C m).cluster.stores n) ≡ is_some (slice_get C.stores n)
directory_there C (message.ToDirectory m) n = refl
directory_there C (message.Located id number entries) n = refl
directory_there C (message.ToPeer m) n = refl

handed_there : (C : Cluster) (from to : Endpoint) (m : Message) (n : ℕ) → is_some (slice_get (handed_over C from to m).cluster.stores n) ≡ is_some (slice_get C.stores n)
handed_there C from Directory m n = directory_there C m n
handed_there C from (Node node) m n =
    elim (arrival_of from m) as (λ o. is_some (slice_get (option_map_or (λ a. input_at C node (Arrive a)) o (unmoved C)).cluster.stores n) ≡ is_some (slice_get C.stores n)) [
      | None ↦ refl
      | Some a ↦ input_there C node (Arrive a) n
    ]

step_there : (C : Cluster) (x : ClusterInput) (n : ℕ) → is_some (slice_get (cluster_step C x).cluster.stores n) ≡ is_some (slice_get C.stores n)
step_there C (at_node m x) n = input_there C m x n
step_there C (deliver from to k damage) n =
    elim (message_at C from to k) as (λ o. is_some (slice_get (option_map_or (λ message. handed_over C from to (if damage then damaged message else message)) o (unmoved C)).cluster.stores n) ≡ is_some (slice_get C.stores n)) [
      | None ↦ refl
      | Some m ↦ handed_there C from to (if damage then damaged m else m) n
    ]

from_there : (C : Cluster) (xs : List ClusterInput) (n : ℕ) → is_some (slice_get (cluster_from C xs).stores n) ≡ is_some (slice_get C.stores n)
from_there C [] n = refl
from_there C (x ∷ xs) n = from_there (cluster_step C x).cluster xs n ∙ step_there C x n

all_there : (j k nodes n : ℕ) → is_some (slice_get (no_cluster j nodes).stores n) ≡ is_some (slice_get (no_cluster k nodes).stores n)
all_there j k zero n = refl
all_there j k (suc nodes) zero = refl
all_there j k (suc nodes) (suc n) = all_there j k nodes n

also_there : (nodes : ℕ) (history : List Traced) (j k n : ℕ) (s : Store) → slice_get (cluster_until nodes j history).stores n ≡ Some s → is_some (slice_get (cluster_until nodes k history).stores n) ≡ true
also_there nodes history j k n s e =
    from_there (no_cluster k nodes) (inputs_until nodes k history) n ∙ all_there k j nodes n ∙ sym (from_there (no_cluster j nodes) (inputs_until nodes j history) n) ∙ ap is_some e

-- ---- lengths

module _ (nodes : ℕ) (trace : List Traced) (private : ArePrivate nodes trace) (node job : ℕ) (store : Store) (here : slice_get (cluster_until nodes job (reverse trace)).stores node ≡ Some store) where
  known_length : (id : ObjectId) (seen : Seen) → at store.shape.received id ≡ Some seen → own_lengths nodes node (reverse trace) id ≡ seen.length
  known_length id seen e = by_own (slice_get (cluster_until nodes id.job.0 (reverse trace)).stores node) refl (also_there nodes (reverse trace) job id.job.0 node store here)
    where
      by_own : (o : Option Store) → slice_get (cluster_until nodes id.job.0 (reverse trace)).stores node ≡ o → is_some o ≡ true → own_lengths nodes node (reverse trace) id ≡ seen.length
      by_own None is there = true_false there
      by_own (Some own) is there =
          ap (λ o. length (option_map_or (λ s. bytes_at s.contents.bytes id) o [])) is
          ∙ ap length (sym (showing_until nodes (reverse trace) (trace_private nodes trace private) node job id own store is here (ap is_some e)))
          ∙ (come_kept job node store (all_come job nodes (inputs_until nodes job (reverse trace)) node store here)).kept.filled.received id seen e

  pub has_lengths : HasHalves job (grants_at node (reverse trace)) store.shape → HasGrants (own_lengths nodes node (reverse trace)) (grants_at node (reverse trace)) store.shape
  has_lengths fits = halves_have (own_lengths nodes node (reverse trace)) job (grants_at node (reverse trace)) store.shape known_length fits

pub have_grants : (nodes node : ℕ) (trace : List Traced) → ArePrivate nodes trace → HaveGrants nodes node trace
have_grants nodes node trace h =
    let stand = stand_of nodes trace h in
    record {
      table = stand.table node;
      halves = λ job store e. let fits = stand.fit node job store e in (fits.job, has_lengths nodes trace h node job store e fits);
    }
