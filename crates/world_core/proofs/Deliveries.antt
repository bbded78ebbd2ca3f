-- A world after a message was handed over, to a node or to the directory, or where there was none.
use Rattle.std.proofs.Common.{◌≡◌, ℕ, zero, suc, Bool, true, false, cond, ◌==◌, List, [], ◌∷◌, ◌++◌, map, filter, Some, None, is_some, option_to_list, slice_get, refl, sym, ap, subst, ◌∙◌}
use Rattle.std.specs.Option.{option_map_or}
use Rattle.std.specs.List.{list_any}
use Rattle.obj_id.specs.declared.ids.JobNo.{JobNo}
use Rattle.obj_id.specs.declared.refusals.Refusal.TheVariants.{Stale}
use Rattle.obj_id.specs.declared.commands.Reply.{Reply}
use Rattle.obj_id.specs.declared.commands.Reply.TheVariants as reply
use Rattle.obj_id.specs.declared.messages.Endpoint.{Endpoint}
use Rattle.obj_id.specs.declared.messages.Endpoint.TheVariants.{Node, Directory}
use Rattle.obj_id.specs.declared.messages.Arrival.{Arrival}
use Rattle.obj_id.specs.declared.messages.DirectoryMessage.{DirectoryMessage}
use Rattle.obj_id.specs.declared.messages.Message.{Message}
use Rattle.private_store.specs.declared.inputs.Input.TheVariants as input
use Rattle.private_store.specs.declared.schedules.StepAnswer.{StepAnswer}
use Rattle.private_store.specs.declared.schedules.StepAnswer.TheVariants.{Response, HandedOver, NoMessage}
use Rattle.private_store.specs.declared.schedules.Traced.{Traced}
use Rattle.private_store.specs.rules.Contents.{View}
use Rattle.private_store.specs.rules.Private.{Store, view_of, view_step}
use Rattle.private_store.specs.rules.Directory.{locations_after, directory_posts}
use Rattle.private_store.specs.rules.Cluster.{Cluster, ClusterOutcome, at_node, deliver, posted, unmoved, input_at, directory_told_of, handed_over, message_at, damaged, cluster_step, cluster_from}
use Rattle.private_store.specs.rules.Trace.{is_no_memory, cluster_until}
use Rattle.private_store.specs.rules.Shared.{AskedWork, LiveJob, leaves, waiting, asked_by, works_asked_by, outcome_works, lives_step, is_admission, is_live_at, goes_to_live, deliver_answer, shared_answer, answer_due}
use Rattle.private_store.specs.rules.Shared as shared
use Rattle.job_admission.specs.Admissions.{Admissions, live_at, lives_of}
use Rattle.job_admission.proofs.ForCallers.{any_live}
use Rattle.owner_directory.specs.Locations.{locations_of}
use Rattle.world_core.specs.Logs.{sent_of, message_in}
use Rattle.private_store.specs.declared.schedules.NodeEvent.TheVariants.{Arrive}
use Rattle.private_store.specs.laws.NodeInputs.{JobInput, Before, before_at, wants_memory, own_here, inputs_to}
use Rattle.node_core.specs.Hosted.{Hosted}
use Rattle.node_core.specs.Steps.{answer_of_check, stale_unless}
use Rattle.world_core.specs.Worlds.{Hosting, untaken, IsNodeAfter, IsJobAfter, IsAfter}
use Rattle.world_core.specs.WorldSteps.{MovesDirectory, as_damaged, handed}
use Rattle.world_core.proofs.Lines.{filter_all}
use Rattle.world_core.proofs.Numbers.{itself, apart_number, same_number}
use Rattle.world_core.proofs.Clusters.{input_found}
use Rattle.world_core.proofs.Entries.{IsEntry}
use Rattle.world_core.proofs.Stepping.{replies_more}
use Rattle.world_core.proofs.Idling.{IsIdle, world_idle, job_idle, delivery, own_delivery, cluster_delivery, told_delivery}

-- ---- the message

at_is : (cluster : Cluster) (from to : Endpoint) (m : ℕ) → message_at cluster from to m ≡ message_in cluster.sent from to m
at_is cluster from to zero = refl
at_is cluster from to (suc m) = refl

module _ (nodes memory : ℕ) (history : List Traced) (old : Hosting) (h : IsAfter nodes memory old history) (job : JobNo) (from to : Endpoint) (m : ℕ) (damage : Bool) where
  abbrev cluster : Cluster
  cluster = cluster_until nodes job.0 history

  -- it is found in what the job sent
  pub message_is : message_at cluster from to m ≡ message_in (sent_of old.messages job.0) from to m
  message_is = at_is cluster from to m ∙ ap (λ sent. message_in sent from to m) (sym (h.each_job job.0).messages)

  pub no_step : message_in (sent_of old.messages job.0) from to m ≡ None → cluster_step cluster (deliver from to m damage) ≡ unmoved cluster
  no_step none = ap (λ o. option_map_or (λ message. handed_over cluster from to (as_damaged damage message)) o (unmoved cluster)) (message_is ∙ none)

  pub step_is : (sent : Message) → message_in (sent_of old.messages job.0) from to m ≡ Some sent → cluster_step cluster (deliver from to m damage) ≡ handed_over cluster from to (as_damaged damage sent)
  step_is sent some = ap (λ o. option_map_or (λ message. handed_over cluster from to (as_damaged damage message)) o (unmoved cluster)) (message_is ∙ some)

  pub no_answer : message_in (sent_of old.messages job.0) from to m ≡ None → deliver_answer nodes memory history job.0 from to m damage ≡ NoMessage
  no_answer none =
      ap (λ o. elim o [ None ↦ NoMessage | Some message ↦ cond (goes_to_live memory history job.0 to) (HandedOver (cond damage (damaged message) message)) (Response (reply.Refused Stale)) ]) (message_is ∙ none)

  pub answer_is : (sent : Message) → message_in (sent_of old.messages job.0) from to m ≡ Some sent
      → deliver_answer nodes memory history job.0 from to m damage ≡ cond (goes_to_live memory history job.0 to) (HandedOver (as_damaged damage sent)) (Response (reply.Refused Stale))
  answer_is sent some =
      ap (λ o. elim o [ None ↦ NoMessage | Some message ↦ cond (goes_to_live memory history job.0 to) (HandedOver (cond damage (damaged message) message)) (Response (reply.Refused Stale)) ]) (message_is ∙ some)

-- ---- what changes no node

module _ (nodes memory : ℕ) (history : List Traced) (job : JobNo) (from to : Endpoint) (m : ℕ) (damage : Bool) (response : StepAnswer) (n : is_no_memory response ≡ false) where
  abbrev entry : Traced
  entry = delivery nodes memory history job from to m damage response n

  abbrev stepped : ClusterOutcome
  stepped = cluster_step (cluster_until nodes job.0 history) (deliver from to m damage)

  asked_none : stepped.outcome ≡ None → (place : ℕ) → asked_by nodes place history entry ≡ []
  asked_none none place =
      ap (λ o. option_map_or (works_asked_by nodes place history) o []) (own_delivery nodes memory history job from to m damage response n)
      ∙ by (option_map_or (λ n. n == place) (shared.taken_at (deliver from to m damage)) false)
    where
      by : (t : Bool) → cond t (outcome_works job.0 stepped.outcome) [] ≡ []
      by true = ap (outcome_works job.0) none
      by false = refl

  stores_same : stepped.cluster.stores ≡ (cluster_until nodes job.0 history).stores → (other : ℕ) → (cluster_until nodes other (entry ∷ history)).stores ≡ (cluster_until nodes other history).stores
  stores_same same other = ap (λ (c : Cluster). c.stores) (cluster_delivery nodes memory history job from to m damage response n other) ∙ by (job.0 == other) refl
    where
      by : (t : Bool) → (job.0 == other) ≡ t → (cond t (cluster_step (cluster_until nodes other history) (deliver from to m damage)).cluster (cluster_until nodes other history)).stores ≡ (cluster_until nodes other history).stores
      by false s = refl
      by true s =
          let j = same_number job.0 other s in
          subst (λ j. (cluster_step (cluster_until nodes j history) (deliver from to m damage)).cluster.stores ≡ (cluster_until nodes j history).stores) j same

  pub delivery_idle : stepped.outcome ≡ None → stepped.cluster.stores ≡ (cluster_until nodes job.0 history).stores → response ≡ deliver_answer nodes memory history job.0 from to m damage → IsIdle nodes memory history entry
  delivery_idle none same is = record {
    grants = λ place grants. refl;
    out = λ place j number was. refl;
    left = λ place waiting. filter_all waiting;
    asked = asked_none none;
    lives = λ place lives. refl;
    admission = λ place j. refl;
    stores = stores_same same;
    due = is ∙ sym (ap (λ t. cond t response (deliver_answer nodes memory history job.0 from to m damage)) n);
  }

  -- the world is as it was
  pub after_nothing : (old : Hosting) → IsAfter nodes memory old history → stepped ≡ unmoved (cluster_until nodes job.0 history) → response ≡ deliver_answer nodes memory history job.0 from to m damage
      → IsAfter nodes memory old (entry ∷ history)
  after_nothing old h still is =
      let idle = delivery_idle (ap (λ o. o.outcome) still) (ap (λ o. o.cluster.stores) still) is in
      world_idle nodes memory history entry idle old old h refl
      (λ other. job_idle nodes memory history entry idle other old h (same other) (told_delivery nodes memory history job from to m damage response n other))
    where
      same : (other : ℕ) → cluster_until nodes other (entry ∷ history) ≡ cluster_until nodes other history
      same other = cluster_delivery nodes memory history job from to m damage response n other ∙ by (job.0 == other) refl
        where
          by : (t : Bool) → (job.0 == other) ≡ t → cond t (cluster_step (cluster_until nodes other history) (deliver from to m damage)).cluster (cluster_until nodes other history) ≡ cluster_until nodes other history
          by false s = refl
          by true s =
              subst (λ j. (cluster_step (cluster_until nodes j history) (deliver from to m damage)).cluster ≡ cluster_until nodes j history) (same_number job.0 other s)
              (ap (λ o. o.cluster) still)

  -- the directory took a message
  pub after_directory : (old new : Hosting) (d : DirectoryMessage) → IsAfter nodes memory old history → stepped ≡ directory_told_of (cluster_until nodes job.0 history) d
      → response ≡ deliver_answer nodes memory history job.0 from to m damage → MovesDirectory old job d new → IsAfter nodes memory new (entry ∷ history)
  after_directory old new d h took is moves =
      world_idle nodes memory history entry (delivery_idle (ap (λ o. o.outcome) took) (ap (λ o. o.cluster.stores) took) is) old new h moves.nodes job_after
    where
      job_at : (other : ℕ) (t : Bool) → (job.0 == other) ≡ t → IsJobAfter nodes other (sent_of new.messages other) (locations_of new.tables (record { 0 = other })) (entry ∷ history)
      job_at other false s =
          let j = h.each_job other in
          let same = cluster_delivery nodes memory history job from to m damage response n other ∙ ap (λ t. cond t (cluster_step (cluster_until nodes other history) (deliver from to m damage)).cluster (cluster_until nodes other history)) s in
          record {
            messages = moves.sent other ∙ ap (λ t. cond t (sent_of old.messages other ++ posted Directory (directory_posts (locations_of old.tables job) d)) (sent_of old.messages other)) s ∙ j.messages ∙ sym (ap (λ (c : Cluster). c.sent) same);
            locations = moves.tables.others (record { 0 = other }) s ∙ j.locations ∙ sym (ap (λ (c : Cluster). c.locations) same);
            replies = replies_more nodes other entry history j.replies (told_delivery nodes memory history job from to m damage response n other);
          }
      job_at other true s =
          let j = h.each_job job.0 in
          let same = cluster_delivery nodes memory history job from to m damage response n job.0
          ∙ ap (λ t. cond t (cluster_step (cluster_until nodes job.0 history) (deliver from to m damage)).cluster (cluster_until nodes job.0 history)) (itself job.0)
          ∙ ap (λ o. o.cluster) took in
          subst (λ k. IsJobAfter nodes k (sent_of new.messages k) (locations_of new.tables (record { 0 = k })) (entry ∷ history)) (same_number job.0 other s)
          (record {
            messages = moves.sent job.0
                ∙ ap (λ t. cond t (sent_of old.messages job.0 ++ posted Directory (directory_posts (locations_of old.tables job) d)) (sent_of old.messages job.0)) (itself job.0)
                ∙ (λ i. j.messages i ++ posted Directory (directory_posts (j.locations i) d))
                ∙ sym (ap (λ (c : Cluster). c.sent) same);
            locations = moves.tables.own ∙ ap (λ t. locations_after t d) j.locations ∙ sym (ap (λ (c : Cluster). c.locations) same);
            replies = replies_more nodes job.0 entry history j.replies (told_delivery nodes memory history job from to m damage response n job.0);
          })

      job_after : (other : ℕ) → IsJobAfter nodes other (sent_of new.messages other) (locations_of new.tables (record { 0 = other })) (entry ∷ history)
      job_after other = job_at other (job.0 == other) refl

-- ---- to a node

pub live_is : (memory place : ℕ) (history : List Traced) (a : Admissions) (job : JobNo) → lives_of a.live ≡ shared.lives_after memory place history → is_live_at memory place history job.0 ≡ is_some (live_at a job)
live_is memory place history a job lives = ap (list_any (shared.job_is job.0)) (sym lives) ∙ any_live job a.live

-- what is answered by the node is answered to the delivery
pub handed_is : (msg : Message) (fine : Bool) → handed msg (answer_of_check (stale_unless fine)) ≡ cond fine (HandedOver msg) (Response (reply.Refused Stale))
handed_is msg true = refl
handed_is msg false = refl

pub handed_wants : (msg : Message) (fine : Bool) → is_no_memory (handed msg (answer_of_check (stale_unless fine))) ≡ false
handed_wants msg true = refl
handed_wants msg false = refl

pub stale_answers : (fine : Bool) → wants_memory (answer_of_check (stale_unless fine)) ≡ false
stale_answers true = refl
stale_answers false = refl

module _ (nodes memory place : ℕ) (history : List Traced) (job : JobNo) (from : Endpoint) (m : ℕ) (damage : Bool) (msg : Message) (a : Arrival) (fine : Bool)
    (node : Hosted) (p : IsNodeAfter nodes memory place node history) (store : ℕ → Store) (found : (job : ℕ) → slice_get (cluster_until nodes job history).stores place ≡ Some (store job))
    (taken : cluster_step (cluster_until nodes job.0 history) (deliver from (Node place) m damage) ≡ input_at (cluster_until nodes job.0 history) place (input.Arrive a))
    (due : deliver_answer nodes memory history job.0 from (Node place) m damage ≡ handed msg (answer_of_check (stale_unless fine))) where
  abbrev v : ℕ → View
  v job = view_of (store job)

  abbrev pub response : StepAnswer
  response = handed msg (answer_of_check (stale_unless fine))

  abbrev r : Reply (List ℕ)
  r = answer_of_check (stale_unless fine)

  pub n : is_no_memory response ≡ false
  n = handed_wants msg fine

  abbrev pub entry_to : Traced
  entry_to = delivery nodes memory history job from (Node place) m damage response n

  abbrev b : Before
  b = before_at nodes place history

  own_arrives : own_here b (Arrive job a) r ≡ Some (record { job = job.0; input = input.Arrive a })
  own_arrives = ap (λ t. cond t None (Some (record { job = job.0; input = input.Arrive a }))) (stale_answers fine)

  inputs_arrive : (other : ℕ) → inputs_to b (Arrive job a) r other ≡ cond (job.0 == other) (input.Arrive a ∷ []) []
  inputs_arrive other =
      ap (λ o. map (λ (x : JobInput). x.input) (filter (λ (x : JobInput). x.job == other) (option_to_list o ++ []))) own_arrives
      ∙ by (job.0 == other)
    where
      by : (t : Bool) → map (λ (x : JobInput). x.input) (cond t (record { job = job.0; input = input.Arrive a } ∷ []) []) ≡ cond t (input.Arrive a ∷ []) []
      by true = refl
      by false = refl

  moves_to : (other : ℕ) → cluster_until nodes other (entry_to ∷ history) ≡ cluster_from (cluster_until nodes other history) (map (at_node place) (inputs_to b (Arrive job a) r other))
  moves_to other =
      cluster_delivery nodes memory history job from (Node place) m damage response n other
      ∙ by (job.0 == other) refl
      ∙ sym (ap (λ xs. cluster_from (cluster_until nodes other history) (map (at_node place) xs)) (inputs_arrive other))
    where
      by : (t : Bool) → (job.0 == other) ≡ t → cond t (cluster_step (cluster_until nodes other history) (deliver from (Node place) m damage)).cluster (cluster_until nodes other history)
          ≡ cluster_from (cluster_until nodes other history) (map (at_node place) (cond t (input.Arrive a ∷ []) []))
      by false s = refl
      by true s =
          subst (λ j. (cluster_step (cluster_until nodes j history) (deliver from (Node place) m damage)).cluster ≡ (input_at (cluster_until nodes j history) place (input.Arrive a)).cluster)
          (same_number job.0 other s) (ap (λ o. o.cluster) taken)

  asked_to : asked_by nodes place history entry_to
      ≡ option_map_or (λ x. map (λ w. record { job = x.job; number = w.number }) (view_step place (v x.job) x.input).works) (own_here b (Arrive job a) r) []
  asked_to =
      ap (λ o. option_map_or (works_asked_by nodes place history) o []) (own_delivery nodes memory history job from (Node place) m damage response n)
      ∙ ap (λ t. cond t (outcome_works job.0 (cluster_step (cluster_until nodes job.0 history) (deliver from (Node place) m damage)).outcome) []) (itself place)
      ∙ ap (λ o. outcome_works job.0 o.outcome) (taken ∙ input_found (cluster_until nodes job.0 history) place (input.Arrive a) (store job.0) (found job.0))
      ∙ sym (ap (λ o. option_map_or (λ (x : JobInput). map (λ w. record { job = x.job; number = w.number }) (view_step place (v x.job) x.input).works) o []) own_arrives)

  pub is_arrival : IsEntry nodes memory place (Arrive job a) r v node.works.works node.admissions history entry_to
  is_arrival = record {
    tables = record {
      grants_here = refl;
      grants_there = λ other apart grants. refl;
      out_here = λ j number. refl;
      out_there = λ other apart j number was. refl;
      left_here = sym (filter_all (untaken node.works.works));
      left_there = λ other apart waiting. filter_all waiting;
      asked_here = asked_to;
      asked_there = λ other apart.
          ap (λ o. option_map_or (works_asked_by nodes other history) o []) (own_delivery nodes memory history job from (Node place) m damage response n)
          ∙ ap (λ t. cond t (outcome_works job.0 (cluster_step (cluster_until nodes job.0 history) (deliver from (Node place) m damage)).outcome) []) (apart_number place other apart);
    };
    lives = record {
      lives_here = λ lives. refl;
      lives_there = λ other apart lives. refl;
      greatest = λ j before was. was;
      admission_there = λ other j apart. refl;
    };
    moves = moves_to;
    replies = told_delivery nodes memory history job from (Node place) m damage response n;
    due = sym (ap (λ t. cond t response (deliver_answer nodes memory history job.0 from (Node place) m damage)) n ∙ due);
  }
