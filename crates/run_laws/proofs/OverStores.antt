-- A property of every store of a cluster is carried over the cluster's inputs.
use Rattle.std.proofs.Common.{◌≡◌, ℕ, Bool, true, false, cond, ◌==◌, List, [], ◌∷◌, ◌++◌, map, filter, slice_get, option_to_list, Option, Some, None, refl, sym, subst, ◌∙◌}
use Rattle.std.specs.Prelude.{if◌then◌else◌}
use Rattle.std.specs.Option.{option_map_or}
use Rattle.std.proofs.lemmas.Bool.{eqb-true}
use Rattle.obj_id.specs.declared.commands.Command.TheVariants as command
use Rattle.obj_id.specs.declared.commands.Reply.TheVariants as reply
use Rattle.obj_id.specs.declared.messages.Arrival.{Arrival}
use Rattle.obj_id.specs.declared.messages.Endpoint.{Endpoint}
use Rattle.obj_id.specs.declared.messages.Endpoint.TheVariants.{Node, Directory}
use Rattle.obj_id.specs.declared.messages.Message.{Message}
use Rattle.obj_id.specs.declared.messages.Message.TheVariants as message
use Rattle.private_store.specs.declared.inputs.Input.{Input}
use Rattle.private_store.specs.declared.inputs.Input.TheVariants as input
use Rattle.private_store.specs.declared.schedules.Event.TheVariants as event
use Rattle.private_store.specs.declared.schedules.Step.{Step}
use Rattle.private_store.specs.declared.schedules.Step.TheVariants as steps
use Rattle.private_store.specs.declared.schedules.StepAnswer.{StepAnswer}
use Rattle.private_store.specs.declared.schedules.StepAnswer.TheVariants as answer
use Rattle.private_store.specs.declared.schedules.Traced.{Traced}
use Rattle.private_store.specs.rules.Private.{Store, private_step}
use Rattle.private_store.specs.rules.Cluster.{Cluster, ClusterInput, at_node, deliver, cluster_step, cluster_from, input_at, unmoved, handed_over, handed_to_directory, message_at, damaged, arrival_of}
use Rattle.private_store.specs.rules.Grants.{StandingGrant, new_grant}
use Rattle.private_store.specs.rules.Trace.{Given, grants_at, own_input, notes, for_job, is_out, is_no_memory, received_note, withdrawn_note}
use Rattle.run_laws.proofs.ClusterInputs.{input_stores, some_of_map}

abbrev pub AllStores : (ℕ → Store → Type 0) → Cluster → Type 0
AllStores Q C = (n : ℕ) (s : Store) → slice_get C.stores n ≡ Some s → Q n s

-- after the input the stores that it reaches have the second property, if they had the first
abbrev pub Leads : (ℕ → Store → Type 0) → (ℕ → Store → Type 0) → ClusterInput → Type 0
Leads Q R (at_node m x) = (s : Store) → Q m s → R m (private_step m s x)
Leads Q R (deliver from to k damage) = (m : ℕ) (a : Arrival) (s : Store) → Q m s → R m (private_step m s (input.Arrive a))

module _ (Q R : ℕ → Store → Type 0) (weak : (n : ℕ) (s : Store) → Q n s → R n s) where
  input_leads : (C : Cluster) (m : ℕ) (x : Input) → AllStores Q C → ((s : Store) → Q m s → R m (private_step m s x)) → AllStores R (input_at C m x).cluster
  input_leads C m x all leads n s e =
      let o = some_of_map (λ s. if m == n then private_step m s x else s) (slice_get C.stores n) s (sym (input_stores C m x n) ∙ e) in
      subst (R n) o.2
      (elim (m == n) as (λ t. (m == n) ≡ t → R n (if t then private_step m o.0 x else o.0)) [
        | true ↦ λ t. let is : m ≡ n = eqb-true m n t in subst (λ k. R k (private_step m o.0 x)) is (leads o.0 (subst (λ k. Q k o.0) (sym is) (all n o.0 o.1)))
        | false ↦ λ t. weak n o.0 (all n o.0 o.1)
      ] refl)

  directory_leads : (C : Cluster) (m : Message) → AllStores Q C → AllStores R (handed_to_directory C m).cluster
  directory_leads C (message.ToDirectory m) all n s e = weak n s (all n s e)
  directory_leads C (message.Located id number entries) all n s e = weak n s (all n s e)
  directory_leads C (message.ToPeer m) all n s e = weak n s (all n s e)

  handed_leads : (C : Cluster) (from to : Endpoint) (m : Message) → AllStores Q C → ((m : ℕ) (a : Arrival) (s : Store) → Q m s → R m (private_step m s (input.Arrive a))) → AllStores R (handed_over C from to m).cluster
  handed_leads C from Directory m all leads = directory_leads C m all
  handed_leads C from (Node node) m all leads =
      elim (arrival_of from m) as (λ o. AllStores R (option_map_or (λ a. input_at C node (input.Arrive a)) o (unmoved C)).cluster) [
        | None ↦ λ n s e. weak n s (all n s e)
        | Some a ↦ input_leads C node (input.Arrive a) all (leads node a)
      ]

  pub step_leads : (C : Cluster) (x : ClusterInput) → AllStores Q C → Leads Q R x → AllStores R (cluster_step C x).cluster
  step_leads C (at_node m x) all leads = input_leads C m x all leads
  step_leads C (deliver from to k damage) all leads =
      elim (message_at C from to k) as (λ o. AllStores R (option_map_or (λ message. handed_over C from to (if damage then damaged message else message)) o (unmoved C)).cluster) [
        | None ↦ λ n s e. weak n s (all n s e)
        | Some m ↦ handed_leads C from to (if damage then damaged m else m) all leads
      ]

-- the property holds of each of these inputs
abbrev pub Each : (ClusterInput → Type 0) → List Given → Type 0
Each P [] = Unit {0}
Each P (g ∷ gs) = P g.input × Each P gs

pub keep_all : (Q : ℕ → Store → Type 0) (C : Cluster) (j : ℕ) (gs : List Given) → AllStores Q C → Each (Leads Q Q) gs → AllStores Q (cluster_from C (for_job j gs))
keep_all Q C j [] all each = all
keep_all Q C j (g ∷ gs) all each =
    elim (g.job == j) as (λ t. AllStores Q (cluster_from C (map (λ g. g.input) (cond t (g ∷ filter (λ g. g.job == j) gs) (filter (λ g. g.job == j) gs))))) [
      | true ↦ keep_all Q (cluster_step C g.input).cluster j gs (step_leads Q Q (λ n s q. q) C g.input all each.0) each.1
      | false ↦ keep_all Q C j gs all each.1
    ]

pub each_both : (P : ClusterInput → Type 0) (xs ys : List Given) → Each P xs → Each P ys → Each P (xs ++ ys)
each_both P [] ys a b = b
each_both P (x ∷ xs) ys a b = (a.0, each_both P xs ys a.1 b)

-- ---- the inputs of a step, by kind

ends_each : (P : ClusterInput → Type 0) (m : ℕ) (gone : List StandingGrant) → ((h : StandingGrant) → P (withdrawn_note m h).input) → Each P (map (withdrawn_note m) gone)
ends_each P m [] w = tt
ends_each P m (h ∷ gone) w = (w h, ends_each P m gone w)

pub notes_each : (P : ClusterInput → Type 0) (nodes : ℕ) (inputs : ℕ → List ClusterInput) (before : List Traced) (s : Step) (a : StepAnswer)
    → ((m : ℕ) (h : StandingGrant) → P (withdrawn_note m h).input) → ((m : ℕ) (h : StandingGrant) → P (received_note nodes m inputs h).input) → Each P (notes nodes inputs before s a)
notes_each P nodes inputs before (steps.At m (event.Call k session (command.Grant id target))) (answer.Response reply.Ok) w r = (r m (new_grant (grants_at m before) id k.0 target.0), tt)
notes_each P nodes inputs before (steps.At m (event.Call k session (command.Withdraw id target))) (answer.Response reply.Ok) w r = ends_each P m _ (w m)
notes_each P nodes inputs before (steps.At m (event.Call k session (command.EndTask task))) (answer.Response reply.Ok) w r = ends_each P m _ (w m)
notes_each P nodes inputs before (steps.At m (event.Call k session c)) (answer.Response reply.Ok) w r = tt
notes_each P nodes inputs before (steps.At m (event.JobEnd k)) (answer.Response reply.Ok) w r = ends_each P m _ (w m)
notes_each P nodes inputs before (steps.At m e) (answer.Response reply.Ok) w r = tt
notes_each P nodes inputs before (steps.At m e) a w r = tt
notes_each P nodes inputs before (steps.Deliver k from to number damage) a w r = tt

-- not a note of a grant
abbrev pub is_own : Input → Bool
is_own (input.Received id bytes grantor depth) = false
is_own (input.Withdrawn id grantor depth) = false
is_own _ = true

abbrev OptionEach : (ClusterInput → Type 0) → Option Given → Type 0
OptionEach P None = Unit {0}
OptionEach P (Some g) = P g.input

unless : (P : ClusterInput → Type 0) (b : Bool) (o : Option Given) → OptionEach P o → OptionEach P (if b then None else o)
unless P true o p = tt
unless P false o p = p

when : (P : ClusterInput → Type 0) (b : Bool) (o : Option Given) → OptionEach P o → OptionEach P (if b then o else None)
when P true o p = p
when P false o p = tt

own_option : (P : ClusterInput → Type 0) → ((m : ℕ) (x : Input) → is_own x ≡ true → P (at_node m x)) → ((from to : Endpoint) (k : ℕ) (damage : Bool) → P (deliver from to k damage))
    → (before : List Traced) (s : Step) (a : StepAnswer) → OptionEach P (own_input before s a)
own_option P o d before (steps.At m (event.Admit k quota key)) (answer.Response reply.Ok) = o m (input.Begin quota) refl
own_option P o d before (steps.At m (event.Requota k quota)) (answer.Response reply.Ok) = o m (input.Requota quota) refl
own_option P o d before (steps.At m (event.JobEnd k)) (answer.Response reply.Ok) = o m input.End refl
own_option P o d before (steps.At m (event.Finish k number x)) a =
    unless P (is_no_memory a) (if is_out m k.0 number before then Some (record { job = k.0; input = at_node m (input.Answer number x) }) else None) (when P (is_out m k.0 number before) (Some (record { job = k.0; input = at_node m (input.Answer number x) })) (o m (input.Answer number x) refl))
own_option P o d before (steps.At m (event.Call k session c)) a = unless P (is_no_memory a) (Some (record { job = k.0; input = at_node m (input.Call session c) })) (o m (input.Call session c) refl)
own_option P o d before (steps.Deliver k from to number damage) a = unless P (is_no_memory a) (Some (record { job = k.0; input = deliver from to number damage })) (d from to number damage)
own_option P o d before (steps.At m (event.Admit k quota key)) a = tt
own_option P o d before (steps.At m (event.Requota k quota)) a = tt
own_option P o d before (steps.At m (event.JobEnd k)) a = tt
own_option P o d before (steps.At m event.Take) a = tt

pub own_each : (P : ClusterInput → Type 0) → ((m : ℕ) (x : Input) → is_own x ≡ true → P (at_node m x)) → ((from to : Endpoint) (k : ℕ) (damage : Bool) → P (deliver from to k damage))
    → (before : List Traced) (s : Step) (a : StepAnswer) → Each P (option_to_list (own_input before s a))
own_each P o d before s a = listed (own_input before s a) (own_option P o d before s a)
  where
    listed : (g : Option Given) → OptionEach P g → Each P (option_to_list g)
    listed None p = tt
    listed (Some g) p = (p, tt)
