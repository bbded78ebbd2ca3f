-- Clusters whose stores have the same own parts, node by node, and which sent the same messages, have and send the same
-- after the same input.
use Rattle.std.proofs.Common.{◌≡◌, ℕ, zero, suc, true, false, cond, ◌==◌, List, [], ◌∷◌, ◌++◌, map, filter, slice_get, Option, Some, None, option_map, refl, sym, ap, subst, ◌∙◌}
use Rattle.std.specs.Prelude.{if◌then◌else◌}
use Rattle.std.specs.Option.{option_map_or}
use Rattle.std.proofs.lemmas.Bool.{eqb-true}
use Rattle.std.proofs.lemmas.List.{append-nil}
use Rattle.obj_id.specs.declared.messages.Endpoint.{Endpoint}
use Rattle.obj_id.specs.declared.messages.Endpoint.TheVariants.{Node, Directory}
use Rattle.obj_id.specs.declared.messages.Message.{Message}
use Rattle.obj_id.specs.declared.messages.Message.TheVariants as message
use Rattle.private_store.specs.declared.inputs.Input.{Input}
use Rattle.private_store.specs.declared.inputs.Input.TheVariants as input
use Rattle.private_store.specs.rules.Contents.{View, judge}
use Rattle.private_store.specs.rules.Directory.{locations_after, directory_posts}
use Rattle.private_store.specs.rules.Private.{Store, view_of, private_outcome, private_step}
use Rattle.private_store.specs.rules.Shared.{AskedWork, outcome_works}
use Rattle.private_store.specs.rules.Cluster.{Cluster, ClusterOutcome, ClusterInput, at_node, deliver, cluster_step, cluster_from, input_at, moved_at, unmoved, handed_over, handed_to_directory, message_at, messages_between, damaged, arrival_of, posted}
use Rattle.private_store.specs.rules.Trace.{Given, for_job}
use Rattle.store_facts.proofs.Tests.{true_false, none_some, some_value}
use Rattle.run_laws.proofs.ClusterInputs.{input_stores}
use Rattle.run_laws.proofs.OverStores.{Each}
use Rattle.run_laws.proofs.StoresKept.{AllHaveCome, come_kept, come_job, step_comes}
use Rattle.run_laws.proofs.SettledViews.{come_settled, come_step}
use Rattle.run_laws.proofs.OwnSteps.{is_plain}
use Rattle.run_laws.proofs.OwnViews.{own_view, is_aside_of, stays_aside, is_granting, same_after, plain_told}

abbrev pub part : Store → View
part s = own_view (view_of s)

pub record SamePart (C D : Cluster) : Type 0 where
  pub stores : (n : ℕ) → option_map part (slice_get C.stores n) ≡ option_map part (slice_get D.stores n)
  pub locations : C.locations ≡ D.locations
  pub sent : C.sent ≡ D.sent

pub same_itself : (C : Cluster) → SamePart C C
same_itself C = record { stores = λ n. refl; locations = refl; sent = refl }

pub same_back : (C D : Cluster) → SamePart C D → SamePart D C
same_back C D h = record { stores = λ n. sym (h.stores n); locations = sym h.locations; sent = sym h.sent }

pub same_then : (C D E : Cluster) → SamePart C D → SamePart D E → SamePart C E
same_then C D E h k = record { stores = λ n. h.stores n ∙ k.stores n; locations = h.locations ∙ k.locations; sent = h.sent ∙ k.sent }

-- ---- the stores of one node

-- there is no such node, or the two stores there have the same own part
pub data Pair (C D : Cluster) (n : ℕ) : Type 0 where
  neither : slice_get C.stores n ≡ None → slice_get D.stores n ≡ None → Pair C D n
  two : (s t : Store) → slice_get C.stores n ≡ Some s → slice_get D.stores n ≡ Some t → part s ≡ part t → Pair C D n

pub pair_at : (C D : Cluster) → SamePart C D → (n : ℕ) → Pair C D n
pair_at C D h n = by (slice_get C.stores n) refl (slice_get D.stores n) refl (h.stores n)
  where
    by : (o : Option Store) → slice_get C.stores n ≡ o → (p : Option Store) → slice_get D.stores n ≡ p → option_map part o ≡ option_map part p → Pair C D n
    by None e None f same = neither e f
    by None e (Some t) f same = none_some (part t) same
    by (Some s) e None f same = none_some (part s) (sym same)
    by (Some s) e (Some t) f same = two s t e f (some_value (part s) (part t) same)

moved_by : (C : Cluster) (m : ℕ) (x : Input) (s : Store) → slice_get C.stores m ≡ Some s → input_at C m x ≡ moved_at C m s (private_outcome m s x)
moved_by C m x s e = ap (λ o. option_map_or (λ store. moved_at C m store (private_outcome m store x)) o (unmoved C)) e

unmoved_by : (C : Cluster) (m : ℕ) (x : Input) → slice_get C.stores m ≡ None → input_at C m x ≡ unmoved C
unmoved_by C m x e = ap (λ o. option_map_or (λ store. moved_at C m store (private_outcome m store x)) o (unmoved C)) e

twice : (f : Store → Store) (o : Option Store) → option_map part (option_map f o) ≡ option_map (λ s. part (f s)) o
twice f None = refl
twice f (Some s) = refl

-- the parts afterwards: that of the node which took the input, and all others as they were
parts_after : (C : Cluster) (m : ℕ) (x : Input) (s : Store) → slice_get C.stores m ≡ Some s → (n : ℕ)
    → option_map part (slice_get (input_at C m x).cluster.stores n) ≡ (if m == n then Some (part (private_step m s x)) else option_map part (slice_get C.stores n))
parts_after C m x s e n =
    ap (option_map part) (input_stores C m x n)
    ∙ twice (λ s. if m == n then private_step m s x else s) (slice_get C.stores n)
    ∙ elim (m == n) as (λ b. (m == n) ≡ b → option_map (λ s. part (if b then private_step m s x else s)) (slice_get C.stores n) ≡ (if b then Some (part (private_step m s x)) else option_map part (slice_get C.stores n))) [
      | true ↦ λ t. ap (λ k. option_map (λ s. part (private_step m s x)) (slice_get C.stores k)) (sym (eqb-true m n t)) ∙ ap (option_map (λ s. part (private_step m s x))) e
      | false ↦ λ _. refl
    ] refl

-- ---- one input

module _ (job : ℕ) where
  -- of a grant that both stores take the answer is the same
  abbrev pub RepliesAlike : Cluster → Cluster → ℕ → Input → Type 0
  RepliesAlike C D m x = is_granting x ≡ true → (s t : Store) → slice_get C.stores m ≡ Some s → slice_get D.stores m ≡ Some t → (private_outcome m s x).reply ≡ (private_outcome m t x).reply

  input_same : (C D : Cluster) → AllHaveCome job C → AllHaveCome job D → SamePart C D → (m : ℕ) (x : Input) → RepliesAlike C D m x → SamePart (input_at C m x).cluster (input_at D m x).cluster
  input_same C D come_c come_d h m x replies = by (pair_at C D h m)
    where
      by : Pair C D m → SamePart (input_at C m x).cluster (input_at D m x).cluster
      by (neither e f) = subst (λ o. SamePart o.cluster (input_at D m x).cluster) (sym (unmoved_by C m x e)) (subst (λ o. SamePart C o.cluster) (sym (unmoved_by D m x f)) h)
      by (two s t e f same) =
          let a = come_c m s e in
          let b = come_d m t f in
          let after = same_after m (view_of s) (view_of t) (come_kept job m s a) (come_kept job m t b) (come_settled job m s a) (come_settled job m t b) same x (λ g. replies g s t e f) in
          let parts : part (private_step m s x) ≡ part (private_step m t x) = ap own_view (come_step job m s x a) ∙ after.part ∙ ap own_view (sym (come_step job m t x b)) in
          record {
            stores = λ n. parts_after C m x s e n ∙ (λ i. if m == n then Some (parts i) else h.stores n i) ∙ sym (parts_after D m x t f n);
            locations = ap (λ o. o.cluster.locations) (moved_by C m x s e) ∙ h.locations ∙ sym (ap (λ o. o.cluster.locations) (moved_by D m x t f));
            sent = ap (λ o. o.cluster.sent) (moved_by C m x s e) ∙ (λ i. h.sent i ++ posted (Node m) (after.posts i)) ∙ sym (ap (λ o. o.cluster.sent) (moved_by D m x t f));
          }

  -- two stores with the same own part answer alike what is plain
  pub told_same : (C D : Cluster) → AllHaveCome job C → AllHaveCome job D → SamePart C D → (m : ℕ) (x : Input) → ((i : ℕ) (v : View) → is_plain i (judge m v x) ≡ true)
      → (s t : Store) → slice_get C.stores m ≡ Some s → slice_get D.stores m ≡ Some t → (private_outcome m s x).reply ≡ (private_outcome m t x).reply
  told_same C D come_c come_d h m x plain s t e f =
      let a = come_c m s e in
      let b = come_d m t f in
      let parts : part s ≡ part t = some_value (part s) (part t) (ap (option_map part) (sym e) ∙ h.stores m ∙ ap (option_map part) f) in
      plain_told m (view_of s) (view_of t) (come_kept job m s a) (come_kept job m t b) (come_settled job m s a) (come_settled job m t b) parts x (plain s.shape.job (view_of s))

  input_aside : (C : Cluster) → AllHaveCome job C → (m : ℕ) (x : Input) → ((s : Store) → slice_get C.stores m ≡ Some s → is_aside_of s.shape.job x ≡ true) → SamePart (input_at C m x).cluster C
  input_aside C come m x aside = by (slice_get C.stores m) refl
    where
      by : (o : Option Store) → slice_get C.stores m ≡ o → SamePart (input_at C m x).cluster C
      by None e = subst (λ o. SamePart o.cluster C) (sym (unmoved_by C m x e)) (same_itself C)
      by (Some s) e =
          let a = come m s e in
          let stays = stays_aside m (view_of s) (come_kept job m s a) (come_settled job m s a) x (aside s e) in
          let stay : part (private_step m s x) ≡ part s = ap own_view (come_step job m s x a) ∙ stays.part in
          record {
            stores = λ n.
                parts_after C m x s e n
                ∙ elim (m == n) as (λ b. (m == n) ≡ b → (if b then Some (part (private_step m s x)) else option_map part (slice_get C.stores n)) ≡ option_map part (slice_get C.stores n)) [
                  | true ↦ λ t. ap Some stay ∙ sym (ap (option_map part) (ap (slice_get C.stores) (sym (eqb-true m n t)) ∙ e))
                  | false ↦ λ _. refl
                ] refl;
            locations = ap (λ o. o.cluster.locations) (moved_by C m x s e);
            sent = ap (λ o. o.cluster.sent) (moved_by C m x s e) ∙ (λ i. C.sent ++ posted (Node m) (stays.posts i)) ∙ append-nil C.sent;
          }

  -- ---- works

  -- the works that the input asks for
  abbrev pub works_of : ClusterOutcome → List AskedWork
  works_of o = outcome_works job o.outcome

  input_works : (C D : Cluster) → AllHaveCome job C → AllHaveCome job D → SamePart C D → (m : ℕ) (x : Input) → RepliesAlike C D m x → works_of (input_at C m x) ≡ works_of (input_at D m x)
  input_works C D come_c come_d h m x replies = by (pair_at C D h m)
    where
      by : Pair C D m → works_of (input_at C m x) ≡ works_of (input_at D m x)
      by (neither e f) = ap works_of (unmoved_by C m x e) ∙ sym (ap works_of (unmoved_by D m x f))
      by (two s t e f same) =
          let a = come_c m s e in
          let b = come_d m t f in
          let after = same_after m (view_of s) (view_of t) (come_kept job m s a) (come_kept job m t b) (come_settled job m s a) (come_settled job m t b) same x (λ g. replies g s t e f) in
          ap works_of (moved_by C m x s e) ∙ ap (map (λ w. record { job = job; number = w.number })) after.works ∙ sym (ap works_of (moved_by D m x t f))

  no_works : (C : Cluster) → AllHaveCome job C → (m : ℕ) (x : Input) → is_aside_of job x ≡ true → works_of (input_at C m x) ≡ []
  no_works C come m x aside = by (slice_get C.stores m) refl
    where
      by : (o : Option Store) → slice_get C.stores m ≡ o → works_of (input_at C m x) ≡ []
      by None e = ap works_of (unmoved_by C m x e)
      by (Some s) e =
          let a = come m s e in
          ap works_of (moved_by C m x s e)
          ∙ ap (map (λ w. record { job = job; number = w.number })) (stays_aside m (view_of s) (come_kept job m s a) (come_settled job m s a) x (ap (λ j. is_aside_of j x) (come_job job m s a) ∙ aside)).works

  -- ---- messages

  pub at_same : (C D : Cluster) → SamePart C D → (from to : Endpoint) (k : ℕ) → message_at C from to k ≡ message_at D from to k
  at_same C D h from to zero = refl
  at_same C D h from to (suc k) = ap (λ sent. slice_get (messages_between from to sent) k) h.sent

  directory_same : (C D : Cluster) → SamePart C D → (m : Message) → SamePart (handed_to_directory C m).cluster (handed_to_directory D m).cluster
  directory_same C D h (message.ToDirectory m) = record {
    stores = h.stores;
    locations = ap (λ l. locations_after l m) h.locations;
    sent = λ i. h.sent i ++ posted Directory (directory_posts (h.locations i) m);
  }
  directory_same C D h (message.Located id number entries) = h
  directory_same C D h (message.ToPeer m) = h

  handed_same : (C D : Cluster) → AllHaveCome job C → AllHaveCome job D → SamePart C D → (from to : Endpoint) (m : Message) → SamePart (handed_over C from to m).cluster (handed_over D from to m).cluster
  handed_same C D come_c come_d h from Directory m = directory_same C D h m
  handed_same C D come_c come_d h from (Node node) m =
      elim (arrival_of from m) as (λ o. SamePart (option_map_or (λ a. input_at C node (input.Arrive a)) o (unmoved C)).cluster (option_map_or (λ a. input_at D node (input.Arrive a)) o (unmoved D)).cluster) [
        | None ↦ h
        | Some a ↦ input_same C D come_c come_d h node (input.Arrive a) (λ g. true_false g)
      ]

  -- a grant at a node is answered alike
  abbrev pub Alike : Cluster → Cluster → ClusterInput → Type 0
  Alike C D (at_node m x) = RepliesAlike C D m x
  Alike C D (deliver from to k damage) = Unit {0}

  pub step_same : (C D : Cluster) → AllHaveCome job C → AllHaveCome job D → SamePart C D → (x : ClusterInput) → Alike C D x → SamePart (cluster_step C x).cluster (cluster_step D x).cluster
  step_same C D come_c come_d h (at_node m x) replies = input_same C D come_c come_d h m x replies
  step_same C D come_c come_d h (deliver from to k damage) replies =
      let given : (E : Cluster) → Option Message → Cluster = λ E o. (option_map_or (λ message. handed_over E from to (if damage then damaged message else message)) o (unmoved E)).cluster in
      subst (λ o. SamePart (given C (message_at C from to k)) (given D o)) (at_same C D h from to k)
      (elim (message_at C from to k) as (λ o. SamePart (given C o) (given D o)) [
        | None ↦ h
        | Some m ↦ handed_same C D come_c come_d h from to (if damage then damaged m else m)
      ])

  directory_works : (C D : Cluster) (m : Message) → works_of (handed_to_directory C m) ≡ works_of (handed_to_directory D m)
  directory_works C D (message.ToDirectory m) = refl
  directory_works C D (message.Located id number entries) = refl
  directory_works C D (message.ToPeer m) = refl

  handed_works : (C D : Cluster) → AllHaveCome job C → AllHaveCome job D → SamePart C D → (from to : Endpoint) (m : Message) → works_of (handed_over C from to m) ≡ works_of (handed_over D from to m)
  handed_works C D come_c come_d h from Directory m = directory_works C D m
  handed_works C D come_c come_d h from (Node node) m =
      elim (arrival_of from m) as (λ o. works_of (option_map_or (λ a. input_at C node (input.Arrive a)) o (unmoved C)) ≡ works_of (option_map_or (λ a. input_at D node (input.Arrive a)) o (unmoved D))) [
        | None ↦ refl
        | Some a ↦ input_works C D come_c come_d h node (input.Arrive a) (λ g. true_false g)
      ]

  pub step_works : (C D : Cluster) → AllHaveCome job C → AllHaveCome job D → SamePart C D → (x : ClusterInput) → Alike C D x → works_of (cluster_step C x) ≡ works_of (cluster_step D x)
  step_works C D come_c come_d h (at_node m x) replies = input_works C D come_c come_d h m x replies
  step_works C D come_c come_d h (deliver from to k damage) replies =
      let given : (E : Cluster) → Option Message → ClusterOutcome = λ E o. option_map_or (λ message. handed_over E from to (if damage then damaged message else message)) o (unmoved E) in
      ap (λ o. works_of (given C o)) (at_same C D h from to k)
      ∙ elim (message_at D from to k) as (λ o. works_of (given C o) ≡ works_of (given D o)) [
        | None ↦ refl
        | Some m ↦ handed_works C D come_c come_d h from to (if damage then damaged m else m)
      ]

  -- ---- notes

  -- an input that is about no object of the job
  abbrev pub Aside : ClusterInput → Type 0
  Aside (at_node m x) = is_aside_of job x ≡ true
  Aside (deliver from to k damage) = ⊥

  pub aside_works : (C : Cluster) → AllHaveCome job C → (x : ClusterInput) → Aside x → works_of (cluster_step C x) ≡ []
  aside_works C come (at_node m x) aside = no_works C come m x aside
  aside_works C come (deliver from to k damage) aside = absurd aside

  pub step_aside : (C : Cluster) → AllHaveCome job C → (x : ClusterInput) → Aside x → SamePart (cluster_step C x).cluster C
  step_aside C come (at_node m x) aside = input_aside C come m x (λ s e. ap (λ j. is_aside_of j x) (come_job job m s (come m s e)) ∙ aside)
  step_aside C come (deliver from to k damage) aside = absurd aside

  -- so do all inputs that are aside
  pub all_aside : (C : Cluster) → AllHaveCome job C → (gs : List Given) → Each Aside gs → SamePart (cluster_from C (for_job job gs)) C
  all_aside C come [] each = same_itself C
  all_aside C come (g ∷ gs) each =
      elim (g.job == job) as (λ t. SamePart (cluster_from C (map (λ g. g.input) (cond t (g ∷ filter (λ g. g.job == job) gs) (filter (λ g. g.job == job) gs)))) C) [
        | true ↦ same_then _ _ _ (all_aside (cluster_step C g.input).cluster (step_comes job C g.input come) gs each.1) (step_aside C come g.input each.0)
        | false ↦ all_aside C come gs each.1
      ]
