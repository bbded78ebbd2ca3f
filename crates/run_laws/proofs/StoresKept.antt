-- Each store of a cluster was made by inputs from one that hadn't begun, so the laws of every store hold of it.
use Rattle.std.proofs.Common.{◌≡◌, ℕ, true, false, ◌==◌, List, [], ◌∷◌, ◌++◌, slice_get, Some, None, refl, sym, ap, subst, ◌∙◌}
use Rattle.std.specs.Prelude.{if◌then◌else◌}
use Rattle.std.specs.Option.{option_map_or}
use Rattle.std.proofs.lemmas.Bool.{eqb-true}
use Rattle.obj_id.specs.declared.messages.Endpoint.{Endpoint}
use Rattle.obj_id.specs.declared.messages.Endpoint.TheVariants.{Node, Directory}
use Rattle.obj_id.specs.declared.messages.Message.{Message}
use Rattle.obj_id.specs.declared.messages.Message.TheVariants as message
use Rattle.private_store.specs.declared.inputs.Input.{Input}
use Rattle.private_store.specs.declared.inputs.Input.TheVariants.{Arrive}
use Rattle.private_store.specs.rules.Private.{Store, private_step, store_from, view_of, no_store}
use Rattle.private_store.specs.rules.Contents.{judge}
use Rattle.private_store.specs.rules.Cluster.{Cluster, ClusterInput, at_node, deliver, cluster_step, cluster_from, input_at, unmoved, handed_over, handed_to_directory, message_at, damaged, arrival_of, no_cluster}
use Rattle.private_store.specs.laws.Invariants.{IsViewKept}
use Rattle.store_facts.proofs.OwnJob.{step_keeps_job}
use Rattle.store_facts.proofs.StepsKept.{run_keeps}
use Rattle.run_laws.proofs.ClusterInputs.{input_stores, some_of_map, no_stores}

one_more : (n : ℕ) (s : Store) (xs : List Input) (x : Input) → store_from n s (xs ++ x ∷ []) ≡ private_step n (store_from n s xs) x
one_more n s [] x = refl
one_more n s (y ∷ xs) x = one_more n (private_step n s y) xs x

abbrev pub HasCome : ℕ → ℕ → Store → Type 0
HasCome job n s = (xs : List Input) × (s ≡ store_from n (no_store job) xs)

abbrev pub AllHaveCome : ℕ → Cluster → Type 0
AllHaveCome job C = (n : ℕ) (s : Store) → slice_get C.stores n ≡ Some s → HasCome job n s

input_comes : (job : ℕ) (C : Cluster) (m : ℕ) (x : Input) → AllHaveCome job C → AllHaveCome job (input_at C m x).cluster
input_comes job C m x all n s e =
    let o = some_of_map (λ s. if m == n then private_step m s x else s) (slice_get C.stores n) s (sym (input_stores C m x n) ∙ e) in
    let from = all n o.0 o.1 in
    subst (HasCome job n) o.2
    (elim (m == n) as (λ t. (m == n) ≡ t → HasCome job n (if t then private_step m o.0 x else o.0)) [
      | true ↦ λ t. (from.0 ++ x ∷ [], ap (λ k. private_step k o.0 x) (eqb-true m n t) ∙ ap (λ s. private_step n s x) from.1 ∙ sym (one_more n (no_store job) from.0 x))
      | false ↦ λ t. from
    ] refl)

directory_comes : (job : ℕ) (C : Cluster) (m : Message) → AllHaveCome job C → AllHaveCome job (handed_to_directory C m).cluster
directory_comes job C (message.ToDirectory m) all = all
directory_comes job C (message.Located id number entries) all = all
directory_comes job C (message.ToPeer m) all = all

handed_comes : (job : ℕ) (C : Cluster) (from to : Endpoint) (m : Message) → AllHaveCome job C → AllHaveCome job (handed_over C from to m).cluster
handed_comes job C from Directory m all = directory_comes job C m all
handed_comes job C from (Node node) m all =
    elim (arrival_of from m) as (λ o. AllHaveCome job (option_map_or (λ a. input_at C node (Arrive a)) o (unmoved C)).cluster) [
      | None ↦ all
      | Some a ↦ input_comes job C node (Arrive a) all
    ]

pub step_comes : (job : ℕ) (C : Cluster) (x : ClusterInput) → AllHaveCome job C → AllHaveCome job (cluster_step C x).cluster
step_comes job C (at_node m x) all = input_comes job C m x all
step_comes job C (deliver from to k damage) all =
    elim (message_at C from to k) as (λ o. AllHaveCome job (option_map_or (λ message. handed_over C from to (if damage then damaged message else message)) o (unmoved C)).cluster) [
      | None ↦ all
      | Some m ↦ handed_comes job C from to (if damage then damaged m else m) all
    ]

pub from_comes : (job : ℕ) (C : Cluster) (xs : List ClusterInput) → AllHaveCome job C → AllHaveCome job (cluster_from C xs)
from_comes job C [] all = all
from_comes job C (x ∷ xs) all = from_comes job (cluster_step C x).cluster xs (step_comes job C x all)

pub store_kept : (job nodes : ℕ) (xs : List ClusterInput) (n : ℕ) (s : Store) → slice_get (cluster_from (no_cluster job nodes) xs).stores n ≡ Some s → IsViewKept (view_of s)
store_kept job nodes xs n s e =
    let c = from_comes job (no_cluster job nodes) xs (λ n s e. ([], no_stores job nodes n s e)) n s e in
    subst (λ x. IsViewKept (view_of x)) (sym c.1) (run_keeps n job c.0)

pub come_more : (job n : ℕ) (s : Store) (x : Input) → HasCome job n s → HasCome job n (private_step n s x)
come_more job n s x from = (from.0 ++ x ∷ [], ap (λ s. private_step n s x) from.1 ∙ sym (one_more n (no_store job) from.0 x))

pub come_kept : (job n : ℕ) (s : Store) → HasCome job n s → IsViewKept (view_of s)
come_kept job n s c = subst (λ x. IsViewKept (view_of x)) (sym c.1) (run_keeps n job c.0)

pub all_come : (job nodes : ℕ) (xs : List ClusterInput) (n : ℕ) (s : Store) → slice_get (cluster_from (no_cluster job nodes) xs).stores n ≡ Some s → HasCome job n s
all_come job nodes xs n s e = from_comes job (no_cluster job nodes) xs (λ n s e. ([], no_stores job nodes n s e)) n s e

from_job : (n : ℕ) (s : Store) (xs : List Input) → (store_from n s xs).shape.job ≡ s.shape.job
from_job n s [] = refl
from_job n s (x ∷ xs) = from_job n (private_step n s x) xs ∙ step_keeps_job (view_of s).order s.shape (judge n (view_of s) x)

pub come_job : (job n : ℕ) (s : Store) → HasCome job n s → s.shape.job ≡ job
come_job job n s c = ap (λ x. x.shape.job) c.1 ∙ from_job n (no_store job) c.0
