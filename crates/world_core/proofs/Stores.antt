-- What every store of a private cluster is, whatever its inputs were.
use Rattle.std.proofs.Common.{◌≡◌, ◌≢◌, ℕ, zero, suc, cond, ◌<◌, List, [], ◌∷◌, length, Some, None, slice_get, slice_set, refl, sym, ap, subst, ◌∙◌, ⊎_elim}
use Rattle.std.specs.Option.{option_map_or}
use Rattle.std.proofs.lemmas.Bool.{cases_eq}
use Rattle.obj_id.specs.declared.messages.Endpoint.{Endpoint}
use Rattle.obj_id.specs.declared.messages.Endpoint.TheVariants.{Node, Directory}
use Rattle.obj_id.specs.declared.messages.Message.{Message}
use Rattle.obj_id.specs.declared.messages.Message.TheVariants as message
use Rattle.private_store.specs.declared.inputs.Input.{Input}
use Rattle.private_store.specs.declared.inputs.Input.TheVariants.{Arrive}
use Rattle.private_store.specs.rules.Private.{Store, no_store, private_outcome, private_step}
use Rattle.private_store.specs.rules.Cluster.{Cluster, ClusterInput, at_node, deliver, input_at, moved_at, unmoved, message_at, damaged, handed_over, handed_to_directory, arrival_of, cluster_step, cluster_from, stores_of, no_cluster}
use Rattle.store_facts.proofs.Tests.{none_some, some_value}
use Rattle.store_facts.proofs.Stamped.{IsStamped, private_step_IsStamped, no_store_IsStamped}
use Rattle.world_core.proofs.Places.{length-slice_set, slice_get-slice_set, slice_get-slice_set_other, found_within}

-- so many stores, each with its stamps
pub record AreStamped (nodes : ℕ) (stores : List Store) : Type 0 where
  pub many : length stores ≡ nodes
  pub each : (place : ℕ) (store : Store) → slice_get stores place ≡ Some store → IsStamped store

-- the stores of a job that was never admitted
stores_at : (job nodes place : ℕ) (store : Store) → slice_get (stores_of job nodes) place ≡ Some store → store ≡ no_store job
stores_at job zero place store e = none_some store e
stores_at job (suc nodes) zero store e = sym (some_value (no_store job) store e)
stores_at job (suc nodes) (suc place) store e = stores_at job nodes place store e

stores_many : (job nodes : ℕ) → length (stores_of job nodes) ≡ nodes
stores_many job zero = refl
stores_many job (suc nodes) = ap (λ n. suc n) (stores_many job nodes)

pub no_cluster_at : (job nodes place : ℕ) (store : Store) → slice_get (no_cluster job nodes).stores place ≡ Some store → store ≡ no_store job
no_cluster_at job nodes place store e = stores_at job nodes place store e

no_cluster_AreStamped : (job nodes : ℕ) → AreStamped nodes (no_cluster job nodes).stores
no_cluster_AreStamped job nodes = record {
  many = stores_many job nodes;
  each = λ place store e. subst IsStamped (sym (stores_at job nodes place store e)) (no_store_IsStamped job);
}

set_AreStamped : (nodes : ℕ) (stores : List Store) (place : ℕ) (old store : Store) → AreStamped nodes stores → slice_get stores place ≡ Some old → IsStamped store → AreStamped nodes (slice_set stores place store)
set_AreStamped nodes stores place old store h found k = record {
  many = length-slice_set stores place store ∙ h.many;
  each = λ other at_other e. ⊎_elim
      (λ (same : other ≡ place). subst IsStamped (some_value store at_other (sym (slice_get-slice_set stores place old store found) ∙ ap (slice_get (slice_set stores place store)) (sym same) ∙ e)) k)
      (λ (apart : other ≢ place). h.each other at_other (sym (slice_get-slice_set_other stores place other store apart) ∙ e))
      (cases_eq other place);
}

module _ (nodes : ℕ) (cluster : Cluster) (h : AreStamped nodes cluster.stores) where
  input_AreStamped : (place : ℕ) (x : Input) → AreStamped nodes (input_at cluster place x).cluster.stores
  input_AreStamped place x =
      elim (slice_get cluster.stores place) as (λ o. slice_get cluster.stores place ≡ o → AreStamped nodes (option_map_or (λ store. moved_at cluster place store (private_outcome place store x)) o (unmoved cluster)).cluster.stores) [
        | None ↦ λ _. h
        | Some store ↦ λ e. set_AreStamped nodes cluster.stores place store (private_step place store x) h e (private_step_IsStamped place store x (h.each place store e))
      ] refl

  directory_AreStamped : (m : Message) → AreStamped nodes (handed_to_directory cluster m).cluster.stores
  directory_AreStamped (message.ToDirectory m) = h
  directory_AreStamped (message.Located id number entries) = h
  directory_AreStamped (message.ToPeer m) = h

  handed_AreStamped : (from to : Endpoint) (m : Message) → AreStamped nodes (handed_over cluster from to m).cluster.stores
  handed_AreStamped from (Node place) m =
      elim (arrival_of from m) as (λ o. AreStamped nodes (option_map_or (λ a. input_at cluster place (Arrive a)) o (unmoved cluster)).cluster.stores) [
        | None ↦ h
        | Some a ↦ input_AreStamped place (Arrive a)
      ]
  handed_AreStamped from Directory m = directory_AreStamped m

  step_AreStamped : (x : ClusterInput) → AreStamped nodes (cluster_step cluster x).cluster.stores
  step_AreStamped (at_node place x) = input_AreStamped place x
  step_AreStamped (deliver from to m damage) =
      elim (message_at cluster from to m) as (λ o. AreStamped nodes (option_map_or (λ message. handed_over cluster from to (cond damage (damaged message) message)) o (unmoved cluster)).cluster.stores) [
        | None ↦ h
        | Some message ↦ handed_AreStamped from to (cond damage (damaged message) message)
      ]

from_AreStamped : (nodes : ℕ) (cluster : Cluster) (xs : List ClusterInput) → AreStamped nodes cluster.stores → AreStamped nodes (cluster_from cluster xs).stores
from_AreStamped nodes cluster [] h = h
from_AreStamped nodes cluster (x ∷ xs) h = from_AreStamped nodes (cluster_step cluster x).cluster xs (step_AreStamped nodes cluster h x)

-- every store of a private cluster has its stamps
pub cluster_AreStamped : (nodes job : ℕ) (xs : List ClusterInput) → AreStamped nodes (cluster_from (no_cluster job nodes) xs).stores
cluster_AreStamped nodes job xs = from_AreStamped nodes (no_cluster job nodes) xs (no_cluster_AreStamped job nodes)

-- and there is one at each place
pub store_found : (nodes : ℕ) (stores : List Store) (place : ℕ) → AreStamped nodes stores → place < nodes → (store : Store) × (slice_get stores place ≡ Some store)
store_found nodes stores place h lt = found_within stores place (subst (λ n. place < n) (sym h.many) lt)
