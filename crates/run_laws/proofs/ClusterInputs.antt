-- Inputs of a cluster, seen from the store at one node.
use Rattle.std.proofs.Common.{◌≡◌, ℕ, zero, suc, Bool, true, false, ◌==◌, List, [], ◌∷◌, map, slice_get, slice_set, Option, Some, None, refl, sym, ap, subst, ◌∙◌, eq-eqb, arith}
use Rattle.std.specs.Prelude.{if◌then◌else◌}
use Rattle.std.specs.Option.{option_map, option_map_or}
use Rattle.std.proofs.lemmas.Bool.{eqb-true}
use Rattle.std.proofs.lemmas.Bool.Decides.{nat_tests}
use Rattle.run_laws.proofs.WhatEnds.{same_test}
use Rattle.obj_id.specs.declared.messages.Endpoint.{Endpoint}
use Rattle.obj_id.specs.declared.messages.Endpoint.TheVariants.{Node, Directory}
use Rattle.obj_id.specs.declared.messages.Message.{Message}
use Rattle.obj_id.specs.declared.messages.Message.TheVariants as message
use Rattle.obj_id.specs.declared.messages.PeerMessage.TheVariants as peer
use Rattle.obj_id.specs.declared.messages.Arrival.{Arrival}
use Rattle.obj_id.specs.declared.messages.Arrival.TheVariants as arrival
use Rattle.private_store.specs.declared.inputs.Input.{Input}
use Rattle.private_store.specs.declared.inputs.Input.TheVariants.{Arrive}
use Rattle.private_store.specs.rules.Private.{Store, private_step, private_outcome, store_from, view_of, no_store}
use Rattle.private_store.specs.rules.Cluster.{Cluster, ClusterInput, at_node, deliver, cluster_step, cluster_from, input_at, moved_at, unmoved, handed_over, handed_to_directory, message_at, damaged, arrival_of, no_cluster}
use Rattle.private_store.specs.rules.Contents.{View, judge}
use Rattle.private_store.specs.laws.Made.{changes_grants}
use Rattle.store_facts.proofs.Tests.{none_some, some_value}
use Rattle.run_laws.proofs.GrantsStay.{SameGrants, same_grants, grants_stay}

zero_suc : (n : ℕ) → (zero == suc n) ≡ false
zero_suc n = grind (arith, nat_tests)

suc_zero : (n : ℕ) → (suc n == zero) ≡ false
suc_zero n = grind (arith, nat_tests)

suc_suc : (m n : ℕ) → (suc m == suc n) ≡ (m == n)
suc_suc m n =
    same_test (suc m == suc n) (m == n) (λ t. let e = eqb-true (suc m) (suc n) t in eq-eqb m n (omega (arith, e))) (λ t. eq-eqb (suc m) (suc n) (ap (λ k. suc k) (eqb-true m n t)))

get_set : (xs : List Store) (m n : ℕ) (s v : Store) → slice_get xs m ≡ Some s → slice_get (slice_set xs m v) n ≡ (if m == n then Some v else slice_get xs n)
get_set [] m n s v e = none_some s e
get_set (x ∷ xs) zero zero s v e = refl
get_set (x ∷ xs) zero (suc n) s v e = ap (λ t. if t then Some v else slice_get xs n) (sym (zero_suc n))
get_set (x ∷ xs) (suc m) zero s v e = ap (λ t. if t then Some v else Some x) (sym (suc_zero m))
get_set (x ∷ xs) (suc m) (suc n) s v e = get_set xs m n s v e ∙ ap (λ t. if t then Some v else slice_get xs n) (sym (suc_suc m n))

kept_map : (o : Option Store) → o ≡ option_map (λ s. s) o
kept_map None = refl
kept_map (Some s) = refl

-- the store at the second node after an input at the first
pub input_stores : (C : Cluster) (m : ℕ) (x : Input) (n : ℕ) → slice_get (input_at C m x).cluster.stores n ≡ option_map (λ s. if m == n then private_step m s x else s) (slice_get C.stores n)
input_stores C m x n =
    elim (slice_get C.stores m) as (λ o. slice_get C.stores m ≡ o → slice_get (option_map_or (λ store. moved_at C m store (private_outcome m store x)) o (unmoved C)).cluster.stores n ≡ option_map (λ s. if m == n then private_step m s x else s) (slice_get C.stores n)) [
      | None ↦ λ e. elim (m == n) as (λ t. (m == n) ≡ t → slice_get C.stores n ≡ option_map (λ s. if t then private_step m s x else s) (slice_get C.stores n)) [
        | true ↦ λ t. (let none : slice_get C.stores n ≡ None = ap (slice_get C.stores) (sym (eqb-true m n t)) ∙ e in none ∙ ap (option_map (λ s. private_step m s x)) (sym none))
        | false ↦ λ t. kept_map (slice_get C.stores n)
      ] refl
      | Some store ↦ λ e.
          get_set C.stores m n store (private_step m store x) e
          ∙ elim (m == n) as (λ t. (m == n) ≡ t → (if t then Some (private_step m store x) else slice_get C.stores n) ≡ option_map (λ s. if t then private_step m s x else s) (slice_get C.stores n)) [
            | true ↦ λ t. ap (option_map (λ s. private_step m s x)) (sym e ∙ ap (slice_get C.stores) (eqb-true m n t))
            | false ↦ λ t. kept_map (slice_get C.stores n)
          ] refl
    ] refl

-- after inputs at another node
pub elsewhere : (C : Cluster) (m : ℕ) (xs : List Input) (n : ℕ) → (m == n) ≡ false → slice_get (cluster_from C (map (at_node m) xs)).stores n ≡ slice_get C.stores n
elsewhere C m [] n e = refl
elsewhere C m (x ∷ xs) n e =
    elsewhere (input_at C m x).cluster m xs n e ∙ input_stores C m x n ∙ ap (λ t. option_map (λ s. if t then private_step m s x else s) (slice_get C.stores n)) e ∙ sym (kept_map (slice_get C.stores n))

map_twice : (f g : Store → Store) (o : Option Store) → option_map g (option_map f o) ≡ option_map (λ s. g (f s)) o
map_twice f g None = refl
map_twice f g (Some s) = refl

-- after inputs at this node
pub here : (C : Cluster) (m : ℕ) (xs : List Input) → slice_get (cluster_from C (map (at_node m) xs)).stores m ≡ option_map (λ s. store_from m s xs) (slice_get C.stores m)
here C m [] = kept_map (slice_get C.stores m)
here C m (x ∷ xs) =
    here (input_at C m x).cluster m xs
    ∙ ap (option_map (λ s. store_from m s xs)) (input_stores C m x m ∙ ap (λ t. option_map (λ s. if t then private_step m s x else s) (slice_get C.stores m)) (eq-eqb m m refl))
    ∙ map_twice (λ s. private_step m s x) (λ s. store_from m s xs) (slice_get C.stores m)

pub some_of_map : (f : Store → Store) (o : Option Store) (t : Store) → option_map f o ≡ Some t → (s : Store) × (o ≡ Some s) × (f s ≡ t)
some_of_map f None t e = none_some t e
some_of_map f (Some s) t e = (s, refl, some_value (f s) t e)

-- ---- inputs that change no grants

-- each store afterwards has the grants that it had
abbrev pub StillInput : Cluster → ClusterInput → Type 0
StillInput C x = (n : ℕ) (after : Store) → slice_get (cluster_step C x).cluster.stores n ≡ Some after → (s : Store) × (slice_get C.stores n ≡ Some s) × SameGrants s.shape after.shape

pub still_unmoved : (C : Cluster) (n : ℕ) (after : Store) → slice_get C.stores n ≡ Some after → (s : Store) × (slice_get C.stores n ≡ Some s) × SameGrants s.shape after.shape
still_unmoved C n after e = (after, e, same_grants after.shape)

pub still_at : (C : Cluster) (m : ℕ) (x : Input) → ((s : Store) → slice_get C.stores m ≡ Some s → SameGrants s.shape (private_step m s x).shape) → StillInput C (at_node m x)
still_at C m x still n after e =
    let o = some_of_map (λ s. if m == n then private_step m s x else s) (slice_get C.stores n) after (sym (input_stores C m x n) ∙ e) in (
      o.0,
      o.1,
      subst (λ s. SameGrants o.0.shape s.shape) o.2
          (elim (m == n) as (λ t. (m == n) ≡ t → SameGrants o.0.shape (if t then private_step m o.0 x else o.0).shape) [
            | true ↦ λ t. still o.0 (ap (slice_get C.stores) (eqb-true m n t) ∙ o.1)
            | false ↦ λ t. same_grants o.0.shape
          ] refl),
    )

-- no message changes grants
arrival_stays : (m : ℕ) (view : View) (a : Arrival) → changes_grants (judge m view (Arrive a)) ≡ false
arrival_stays m view (arrival.Located id number entries) = refl
arrival_stays m view (arrival.FromPeer from (peer.Pull id number n digest indexes)) = refl
arrival_stays m view (arrival.FromPeer from (peer.Chunk id number index bytes)) = refl
arrival_stays m view (arrival.FromPeer from (peer.NotHere id number)) = refl

arrive_still : (m : ℕ) (s : Store) (a : Arrival) → SameGrants s.shape (private_step m s (Arrive a)).shape
arrive_still m s a = grants_stay (view_of s).order s.shape (judge m (view_of s) (Arrive a)) (arrival_stays m (view_of s) a)

directory_still : (C : Cluster) (m : Message) (n : ℕ) (after : Store) → slice_get (handed_to_directory C m).cluster.stores n ≡ Some after → (s : Store) × (slice_get C.stores n ≡ Some s) × SameGrants s.shape after.shape
directory_still C (message.ToDirectory m) n after e = still_unmoved C n after e
directory_still C (message.Located id number entries) n after e = still_unmoved C n after e
directory_still C (message.ToPeer m) n after e = still_unmoved C n after e

handed_still : (C : Cluster) (from to : Endpoint) (m : Message) (n : ℕ) (after : Store) → slice_get (handed_over C from to m).cluster.stores n ≡ Some after → (s : Store) × (slice_get C.stores n ≡ Some s) × SameGrants s.shape after.shape
handed_still C from Directory m n after e = directory_still C m n after e
handed_still C from (Node node) m n after e =
    elim (arrival_of from m) as (λ o. slice_get (option_map_or (λ a. input_at C node (Arrive a)) o (unmoved C)).cluster.stores n ≡ Some after → (s : Store) × (slice_get C.stores n ≡ Some s) × SameGrants s.shape after.shape) [
      | None ↦ λ f. still_unmoved C n after f
      | Some a ↦ λ f. still_at C node (Arrive a) (λ s _. arrive_still node s a) n after f
    ] e

pub still_deliver : (C : Cluster) (from to : Endpoint) (k : ℕ) (damage : Bool) → StillInput C (deliver from to k damage)
still_deliver C from to k damage n after e =
    elim (message_at C from to k) as (λ o. slice_get (option_map_or (λ message. handed_over C from to (if damage then damaged message else message)) o (unmoved C)).cluster.stores n ≡ Some after → (s : Store) × (slice_get C.stores n ≡ Some s) × SameGrants s.shape after.shape) [
      | None ↦ λ f. still_unmoved C n after f
      | Some m ↦ λ f. handed_still C from to (if damage then damaged m else m) n after f
    ] e

-- a job that was never admitted has unbegun stores
pub no_stores : (job nodes n : ℕ) (s : Store) → slice_get (no_cluster job nodes).stores n ≡ Some s → s ≡ no_store job
no_stores job zero n s e = none_some s e
no_stores job (suc nodes) zero s e = sym (some_value (no_store job) s e)
no_stores job (suc nodes) (suc n) s e = no_stores job nodes n s e
