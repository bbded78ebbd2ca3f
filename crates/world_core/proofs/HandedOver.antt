-- A message that is handed over, to a node or to the directory: the world afterwards, and what the parts of a delivery give.
use Rattle.std.proofs.Common.{◌≡◌, ℕ, Bool, true, false, cond, if◌then◌else◌, ◌==◌, ◌<◌, ◌++◌, List, [], ◌∷◌, Some, None, is_some, slice_get, refl, sym, ap, subst, ◌∙◌, Option}
use Rattle.std.specs.Prelude.{Result, Ok, Err, IfOk}
use Rattle.std.specs.Option.{option_map_or}
use Rattle.obj_id.specs.declared.ids.JobNo.{JobNo}
use Rattle.obj_id.specs.declared.refusals.Refusal.TheVariants.{Stale}
use Rattle.obj_id.specs.declared.commands.Reply.{Reply}
use Rattle.obj_id.specs.declared.commands.Reply.TheVariants as reply
use Rattle.obj_id.specs.declared.messages.Endpoint.{Endpoint}
use Rattle.obj_id.specs.declared.messages.Endpoint.TheVariants.{Node, Directory}
use Rattle.obj_id.specs.declared.messages.Arrival.{Arrival}
use Rattle.obj_id.specs.declared.messages.Arrival.TheVariants as arrival
use Rattle.obj_id.specs.declared.messages.DirectoryMessage.{DirectoryMessage}
use Rattle.obj_id.specs.declared.messages.DirectoryMessage.TheVariants.{EndJob}
use Rattle.obj_id.specs.declared.messages.Message.{Message}
use Rattle.obj_id.specs.declared.messages.Message.TheVariants as message
use Rattle.private_store.specs.declared.inputs.Input.TheVariants as input
use Rattle.private_store.specs.declared.schedules.Step.TheVariants.{Deliver}
use Rattle.private_store.specs.declared.schedules.StepAnswer.{StepAnswer}
use Rattle.private_store.specs.declared.schedules.StepAnswer.TheVariants.{Response, HandedOver, NoMessage}
use Rattle.private_store.specs.declared.schedules.Traced.{Traced}
use Rattle.private_store.specs.declared.schedules.NodeEvent.TheVariants.{Arrive}
use Rattle.private_store.specs.rules.Private.{Post, Store}
use Rattle.std.proofs.lemmas.List.{append-nil}
use Rattle.private_store.specs.rules.Cluster.{Cluster, posted, arrival_of, deliver, unmoved, input_at, directory_told_of, handed_to_directory, cluster_step}
use Rattle.private_store.specs.laws.NodeInputs.{wants_memory}
use Rattle.private_store.specs.rules.Shared.{deliver_answer}
use Rattle.private_store.specs.rules.Trace.{is_no_memory, cluster_until}
use Rattle.store_facts.proofs.Tests.{some_value, none_some, true_false}
use Rattle.job_admission.specs.Admissions.{live_at}
use Rattle.node_core.specs.Hosted.{Hosted}
use Rattle.node_core.specs.Steps.{NodeGiven, NodeStep, answer_of_check, stale_unless}
use Rattle.world_core.specs.Logs.{sent_of, message_in}
use Rattle.world_core.specs.Worlds.{Hosting, IsAfter, is_place}
use Rattle.world_core.specs.WorldSteps.{HostingStep, as_damaged, handed, message_of, for_directory, IsDelivered, to_directory, past_directory, to_node, past_node, nothing, delivered, WorldStep, delivers, Arrives}
use Rattle.world_core.specs.Noting.{IsNoted, passes_node}
use Rattle.world_core.proofs.Numbers.{is_less}
use Rattle.world_core.proofs.Places.{slice_set_same}
use Rattle.world_core.proofs.Entries.{IsEntry}
use Rattle.world_core.proofs.Stepping.{here, view_at, shown, after_event}
use Rattle.world_core.proofs.Deliveries.{step_is, answer_is, after_nothing, after_directory, live_is, handed_is, handed_wants, stale_answers, is_arrival}

-- what sends nothing leaves what was sent
nothing_sent : {X : Type 0} (b : Bool) (xs : List X) → xs ≡ (if b then xs ++ [] else xs)
nothing_sent true xs = sym (append-nil xs)
nothing_sent false xs = refl

-- ---- after a delivery

directory_takes : (cluster : Cluster) (m : Message) (d : DirectoryMessage) → for_directory m ≡ Some d → handed_to_directory cluster m ≡ directory_told_of cluster d
directory_takes cluster (message.ToDirectory x) d is = ap (directory_told_of cluster) (some_value x d is)
directory_takes cluster (message.Located id number entries) d is = none_some d is
directory_takes cluster (message.ToPeer m) d is = none_some d is

directory_leaves : (cluster : Cluster) (m : Message) → for_directory m ≡ None → handed_to_directory cluster m ≡ unmoved cluster
directory_leaves cluster (message.ToDirectory x) is = none_some x (sym is)
directory_leaves cluster (message.Located id number entries) is = refl
directory_leaves cluster (message.ToPeer m) is = refl

-- the world after a message arrived at a node
after_arrival : (nodes memory place : ℕ) (history : List Traced) (old new : Hosting) (job : JobNo) (from : Endpoint) (m : ℕ) (damage : Bool) (msg : Message) (a : Arrival) (given : NodeGiven)
    (h : IsAfter nodes memory old history) (within : place < nodes) (moves : HostingStep old place (Arrive job a) given new) (fine : Bool)
    → given.reply ≡ answer_of_check (stale_unless fine)
    → deliver_answer nodes memory history job.0 from (Node place) m damage ≡ handed msg (answer_of_check (stale_unless fine))
    → cluster_step (cluster_until nodes job.0 history) (deliver from (Node place) m damage) ≡ input_at (cluster_until nodes job.0 history) place (input.Arrive a)
    → IsAfter nodes memory new (record { step = Deliver job from (Node place) m damage; answer = handed msg given.reply } ∷ history)
after_arrival nodes memory place history old new job from m damage msg a given h within moves fine is due taken =
    let p = h.each_node place moves.before moves.found in
    let store : ℕ → Store = λ job. (here nodes memory place old history h within moves.before moves.found job).0 in
    subst (λ r. IsAfter nodes memory new (record { step = Deliver job from (Node place) m damage; answer = handed msg r } ∷ history)) (sym is)
    (after_event nodes memory place (Arrive job a) given old new history (record { step = Deliver job from (Node place) m damage; answer = handed msg (answer_of_check (stale_unless fine)) }) h within moves
    (ap wants_memory is ∙ stale_answers fine)
    (subst (λ r. IsEntry nodes memory place (Arrive job a) r (view_at nodes memory place old history h within moves.before moves.found) moves.before.works.works moves.before.admissions history
    (record { step = Deliver job from (Node place) m damage; answer = handed msg (answer_of_check (stale_unless fine)) })) (sym is)
    (is_arrival nodes memory place history job from m damage msg a fine moves.before p store (λ job. (here nodes memory place old history h within moves.before moves.found job).1) taken due)))

-- the world after a message was handed over
pub after_handed : (nodes memory : ℕ) (history : List Traced) (old new : Hosting) (job : JobNo) (from to : Endpoint) (m : ℕ) (damage : Bool) (sent : Message) (response : StepAnswer)
    → IsAfter nodes memory old history → is_place nodes to ≡ true → message_in (sent_of old.messages job.0) from to m ≡ Some sent → IsDelivered old job from (as_damaged damage sent) new to response
    → IsAfter nodes memory new (record { step = Deliver job from to m damage; answer = response } ∷ history)
after_handed nodes memory history old new job from to m damage sent response h inside some (to_directory d is moves) =
    after_directory nodes memory history job from Directory m damage response refl old new d h
    (step_is nodes memory history old h job from Directory m damage sent some ∙ directory_takes (cluster_until nodes job.0 history) (as_damaged damage sent) d is)
    (sym (answer_is nodes memory history old h job from Directory m damage sent some)) moves
after_handed nodes memory history old new job from to m damage sent response h inside some (past_directory is same) =
    subst (λ w. IsAfter nodes memory w (record { step = Deliver job from Directory m damage; answer = HandedOver (as_damaged damage sent) } ∷ history)) (sym same)
    (after_nothing nodes memory history job from Directory m damage response refl old h
    (step_is nodes memory history old h job from Directory m damage sent some ∙ directory_leaves (cluster_until nodes job.0 history) (as_damaged damage sent) is)
    (sym (answer_is nodes memory history old h job from Directory m damage sent some)))
after_handed nodes memory history old new job from to m damage sent response h inside some (to_node place given a is moves) =
    let within = is_less place nodes inside in
    let p = h.each_node place moves.before moves.found in
    let s = moves.steps.each (view_at nodes memory place old history h within moves.before moves.found) (shown nodes memory place old history h within moves.before moves.found) in
    let fine = is_some (live_at moves.before.admissions job) in
    let due = answer_is nodes memory history old h job from (Node place) m damage sent some
    ∙ ap (λ t. cond t (HandedOver (as_damaged damage sent)) (Response (reply.Refused Stale))) (live_is memory place history moves.before.admissions job p.lives)
    ∙ sym (handed_is (as_damaged damage sent) fine) in
    let taken = step_is nodes memory history old h job from (Node place) m damage sent some
    ∙ ap (λ o. option_map_or (λ a. input_at (cluster_until nodes job.0 history) place (input.Arrive a)) o (unmoved (cluster_until nodes job.0 history))) is in
    after_arrival nodes memory place history old new job from m damage (as_damaged damage sent) a given h within moves fine s.operator due taken
after_handed nodes memory history old new job from to m damage sent response h inside some (past_node place node found is same) =
    let within = is_less place nodes inside in
    let p = h.each_node place node found in
    let fine = is_some (live_at node.admissions job) in
    subst (λ w. IsAfter nodes memory w (record { step = Deliver job from (Node place) m damage; answer = handed (as_damaged damage sent) (answer_of_check (stale_unless fine)) } ∷ history)) (sym same)
    (after_nothing nodes memory history job from (Node place) m damage (handed (as_damaged damage sent) (answer_of_check (stale_unless fine))) (handed_wants (as_damaged damage sent) fine) old h
    (step_is nodes memory history old h job from (Node place) m damage sent some
    ∙ ap (λ o. option_map_or (λ a. input_at (cluster_until nodes job.0 history) place (input.Arrive a)) o (unmoved (cluster_until nodes job.0 history))) is)
    (handed_is (as_damaged damage sent) fine
    ∙ sym (answer_is nodes memory history old h job from (Node place) m damage sent some
    ∙ ap (λ t. cond t (HandedOver (as_damaged damage sent)) (Response (reply.Refused Stale))) (live_is memory place history node.admissions job p.lives))))

-- a message that was handed over is never answered NoMemory, unless nothing was done
pub handed_wants_none : (nodes memory : ℕ) (history : List Traced) (old new : Hosting) (job : JobNo) (from to : Endpoint) (m : Message) (response : StepAnswer)
    → IsAfter nodes memory old history → is_place nodes to ≡ true → IsDelivered old job from m new to response → is_no_memory response ≡ true → new ≡ old
handed_wants_none nodes memory history old new job from to m response h inside (to_directory d is moves) n = true_false n
handed_wants_none nodes memory history old new job from to m response h inside (past_directory is same) n = same
handed_wants_none nodes memory history old new job from to m response h inside (to_node place given a is moves) n =
    let within = is_less place nodes inside in
    let s = moves.steps.each (view_at nodes memory place old history h within moves.before moves.found) (shown nodes memory place old history h within moves.before moves.found) in
    true_false (sym (ap (λ r. is_no_memory (handed m r)) s.operator ∙ handed_wants m (is_some (live_at moves.before.admissions job))) ∙ n)
handed_wants_none nodes memory history old new job from to m response h inside (past_node place node found is same) n = same

-- what a message that was handed over is answered is never NoMemory
pub handed_answered : (nodes memory : ℕ) (history : List Traced) (old new : Hosting) (job : JobNo) (from to : Endpoint) (m : Message) (response : StepAnswer)
    → IsAfter nodes memory old history → is_place nodes to ≡ true → IsDelivered old job from m new to response → is_no_memory response ≡ false
handed_answered nodes memory history old new job from to m response h inside (to_directory d is moves) = refl
handed_answered nodes memory history old new job from to m response h inside (past_directory is same) = refl
handed_answered nodes memory history old new job from to m response h inside (to_node place given a is moves) =
    let within = is_less place nodes inside in
    let s = moves.steps.each (view_at nodes memory place old history h within moves.before moves.found) (shown nodes memory place old history h within moves.before moves.found) in
    ap (λ r. is_no_memory (handed m r)) s.operator ∙ handed_wants m (is_some (live_at moves.before.admissions job))
handed_answered nodes memory history old new job from to m response h inside (past_node place node found is same) = handed_wants m (is_some (live_at node.admissions job))

-- a message for a node at which its job isn't live is nothing there, whatever it is
module _ (world : Hosting) (place : ℕ) (node : Hosted) (job : JobNo) (found : slice_get world.nodes place ≡ Some node) (dead : is_some (live_at node.admissions job) ≡ false)
    (given : NodeGiven) (said : given.reply ≡ reply.Refused Stale) (quiet : given.posts ≡ []) (stale : (a : Arrival) → NodeStep node (Arrive job a) given node) where
  stale_step : (a : Arrival) → HostingStep world place (Arrive job a) given world
  stale_step a = record {
    before = node;
    after = node;
    found = found;
    steps = stale a;
    nodes = sym (slice_set_same world.nodes place node found);
    tables = refl;
    sent = λ other. subst (λ (ps : List Post). sent_of world.messages other ≡ (if job.0 == other then sent_of world.messages other ++ posted (Node place) ps else sent_of world.messages other)) (sym quiet)
        (nothing_sent (job.0 == other) (sent_of world.messages other));
  }

  come : (from : Endpoint) (m : Message) (a : Arrival) → arrival_of from m ≡ Some a → IsDelivered world job from m world (Node place) (Response (reply.Refused Stale))
  come from m a is = subst (λ r. IsDelivered world job from m world (Node place) (handed m r)) said (to_node place given a is (stale_step a))

  past : (from : Endpoint) (m : Message) → arrival_of from m ≡ None → IsDelivered world job from m world (Node place) (Response (reply.Refused Stale))
  past from m none =
      subst (λ b. IsDelivered world job from m world (Node place) (handed m (answer_of_check (stale_unless b)))) dead (past_node place node found none refl)

  pub stale_delivered : (from : Endpoint) (m : Message) → IsDelivered world job from m world (Node place) (Response (reply.Refused Stale))
  stale_delivered Directory (message.Located id number entries) = come Directory (message.Located id number entries) (arrival.Located id number entries) refl
  stale_delivered (Node n) (message.ToPeer m) = come (Node n) (message.ToPeer m) (arrival.FromPeer n m) refl
  stale_delivered Directory (message.ToPeer m) = past Directory (message.ToPeer m) refl
  stale_delivered Directory (message.ToDirectory m) = past Directory (message.ToDirectory m) refl
  stale_delivered (Node n) (message.Located id number entries) = past (Node n) (message.Located id number entries) refl
  stale_delivered (Node n) (message.ToDirectory m) = past (Node n) (message.ToDirectory m) refl

-- and nobody is told of it
pub stale_noted : (world : Hosting) (job : JobNo) (place : ℕ) (from : Endpoint) (number : ℕ) (damage : Bool) → IsNoted world world None [] (Deliver job from (Node place) number damage) (Response (reply.Refused Stale))
stale_noted world job place Directory number damage =
    passes_node job Directory place number damage (message.ToDirectory (EndJob 0)) (reply.Refused Stale) refl (record { none = refl; nobody = refl; nodes = refl })
stale_noted world job place (Node n) number damage =
    passes_node job (Node n) place number damage (message.ToDirectory (EndJob 0)) (reply.Refused Stale) refl (record { none = refl; nobody = refl; nodes = refl })

abbrev is_directory : Endpoint → Bool
is_directory Directory = true
is_directory (Node place) = false

-- the directory takes what is handed to it, and the nodes are as they were
pub nodes_stay : (old : Hosting) (job : JobNo) (from to : Endpoint) (m : Message) (new : Hosting) (response : StepAnswer) → is_directory to ≡ true → IsDelivered old job from m new to response → new.nodes ≡ old.nodes
nodes_stay old job from to m new response at (to_directory d is moves) = moves.nodes
nodes_stay old job from to m new response at (past_directory is same) = ap (λ w. w.nodes) same
nodes_stay old job from to m new response at (to_node place given a is moves) = true_false at
nodes_stay old job from to m new response at (past_node place node found is same) = ap (λ w. w.nodes) same

-- ---- what the parts of a delivery give

pub arrived : (old new : Hosting) (place : ℕ) (job : JobNo) (from : Endpoint) (m : Message) (a : Arrival) (r : Reply (List ℕ)) (response : StepAnswer) → arrival_of from m ≡ Some a → Arrives old place job a r new
    → response ≡ handed m r → IsDelivered old job from m new (Node place) response
arrived old new place job from m a r response is k t =
    subst (λ t. IsDelivered old job from m new (Node place) t) (sym t)
    (subst (λ r. IsDelivered old job from m new (Node place) (handed m r)) k.reply
    (to_node place k.given a is (record { before = k.before; after = k.after; found = k.found; steps = k.steps; nodes = k.nodes; tables = k.tables; sent = k.sent })))

-- an arrival is of the message that it was made of
pub message_again : (from : Endpoint) (m : Message) (a : Arrival) → arrival_of from m ≡ Some a → message_of a ≡ m
message_again Directory (message.Located id number entries) a is = ap message_of (sym (some_value _ a is))
message_again (Node from) (message.ToPeer m) a is = ap message_of (sym (some_value _ a is))
message_again Directory (message.ToPeer m) a is = none_some a is
message_again Directory (message.ToDirectory m) a is = none_some a is
message_again (Node from) (message.Located id number entries) a is = none_some a is
message_again (Node from) (message.ToDirectory m) a is = none_some a is

-- what was looked up in the world as it is kept, which shows the old one
module _ (kept old : Hosting) (shown_as : kept ≡ old) (job : JobNo) (from to : Endpoint) (m : ℕ) (damage : Bool) (o : Option Message) (looked : o ≡ message_in (sent_of kept.messages job.0) from to m) where
  found : message_in (sent_of old.messages job.0) from to m ≡ o
  found = sym (ap (λ w. message_in (sent_of w.messages job.0) from to m) shown_as) ∙ sym looked

  pub none_delivered : o ≡ None → WorldStep old old (Deliver job from to m damage) NoMessage
  none_delivered none = delivers job from to m damage NoMessage (nothing (found ∙ none) refl)

  pub one_delivered : (sent : Message) → o ≡ Some sent → (new : Hosting) (msg : Message) (response : StepAnswer) (p : Endpoint) → msg ≡ as_damaged damage sent → to ≡ p
      → IsDelivered old job from msg new p response → WorldStep old new (Deliver job from to m damage) response
  one_delivered sent some new msg response p is there k =
      delivers job from to m damage response (delivered sent response (found ∙ some) (subst (λ p. IsDelivered old job from (as_damaged damage sent) new p response) (sym there) (subst (λ x. IsDelivered old job from x new p response) is k)))

pub if_ok : {A E : Type 0} {P Q : A → Type 0} (r : Result A E) → IfOk r P → ((x : A) → P x → Q x) → IfOk r Q
if_ok (Ok x) h k = k x h
if_ok (Err e) h k = tt
