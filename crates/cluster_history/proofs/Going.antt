-- One step more at a place, whatever the others did meanwhile: an event at a node, a message that arrives there, one that the directory takes.
use Rattle.std.proofs.Common.{◌≡◌, ℕ, ◌<◌, ◌==◌, nat_lt, Bool, true, false, cond, List, [], ◌∷◌, ◌++◌, length, Some, None, slice_get, slice_set, refl, sym, ap, subst, ◌∙◌, arith}
use Rattle.std.specs.Prelude.{if◌then◌else◌, unwrap_or}
use Rattle.std.specs.Map.{lookup}
use Rattle.std.proofs.lemmas.Bool.Decides.{nat_tests}
use Rattle.obj_id.specs.declared.ids.JobNo.{JobNo}
use Rattle.obj_id.specs.declared.commands.Reply.{Reply}
use Rattle.obj_id.specs.declared.messages.Arrival.{Arrival}
use Rattle.obj_id.specs.declared.messages.DirectoryMessage.{DirectoryMessage}
use Rattle.obj_id.specs.declared.messages.Endpoint.{Endpoint}
use Rattle.obj_id.specs.declared.messages.Endpoint.TheVariants.{Node, Directory}
use Rattle.obj_id.specs.declared.messages.Message.{Message}
use Rattle.private_store.specs.declared.schedules.Event.{Event}
use Rattle.private_store.specs.declared.schedules.Event.TheVariants as event
use Rattle.private_store.specs.declared.schedules.NodeEvent.{NodeEvent}
use Rattle.private_store.specs.declared.schedules.NodeEvent.TheVariants.{Own, Arrive}
use Rattle.private_store.specs.declared.schedules.Step.{Step}
use Rattle.private_store.specs.declared.schedules.Step.TheVariants.{At, Deliver}
use Rattle.private_store.specs.declared.schedules.StepAnswer.{StepAnswer}
use Rattle.private_store.specs.declared.schedules.StepAnswer.TheVariants.{Response, HandedOver}
use Rattle.private_store.specs.declared.schedules.Traced.{Traced}
use Rattle.private_store.specs.rules.Cluster.{Sent, posted, arrival_of}
use Rattle.private_store.specs.rules.Directory.{directory_posts}
use Rattle.private_store.specs.rules.Jobs.{same_job}
use Rattle.private_store.specs.rules.Trace.{cluster_until}
use Rattle.owner_directory.specs.Locations.{DirectoryRows, Applies, locations_of}
use Rattle.node_core.specs.Hosted.{Hosted}
use Rattle.node_core.specs.Steps.{NodeGiven, NodeStep, job_of}
use Rattle.world_core.specs.Logs.{sent_of, message_in}
use Rattle.world_core.specs.Worlds.{Hosting, IsNodeAfter, IsAfter, is_within}
use Rattle.world_core.specs.WorldSteps.{HostingStep, MovesDirectory, handed, for_directory, IsDelivered, to_directory, to_node, nothing, delivered, WorldStep, at, delivers}
use Rattle.world_core.proofs.ForCallers.{after_turn, slice_get-slice_set, found_within, view_at, shown}
use Rattle.cluster_history.specs.Histories.{stands_at, IsGrown, begun, goes_on, IsTableAfter}
use Rattle.cluster_history.proofs.Others.{with_node, after_with_node, with_tables, after_with_tables}
use Rattle.cluster_history.proofs.Carried.{grown_world}

-- ---- one job's messages more

abbrev more_sent : List (JobNo × List Sent) → ℕ → List Sent → List (JobNo × List Sent)
more_sent messages job more = (record { 0 = job }, sent_of messages job ++ more) ∷ messages

sent_more : (messages : List (JobNo × List Sent)) (job : ℕ) (more : List Sent) (other : ℕ)
    → sent_of (more_sent messages job more) other ≡ (if job == other then sent_of messages other ++ more else sent_of messages other)
sent_more messages job more other = by (job == other) (other == job) refl refl
  where
    by : (b c : Bool) → (job == other) ≡ b → (other == job) ≡ c → unwrap_or (cond c (Some (sent_of messages job ++ more)) (lookup (same_job (record { 0 = other })) messages)) [] ≡ (if b then sent_of messages other ++ more else sent_of messages other)
    by true true is si = let same : job ≡ other = grind (arith, nat_tests) in ap (λ n. sent_of messages n ++ more) same
    by true false is si = absurd (grind (arith, nat_tests))
    by false true is si = absurd (grind (arith, nat_tests))
    by false false is si = refl

module _ (nodes memory place : ℕ) (within : place < nodes) (node after : Hosted) (e : NodeEvent) (given : NodeGiven) (history : List Traced)
    (g : IsGrown nodes memory history) (q : IsNodeAfter nodes memory place node history) (s : NodeStep node e given after) where
  -- a world of that history in which this is the node
  old : Hosting
  old = with_node (grown_world nodes memory history g).0 place node

  old_after : IsAfter nodes memory old history
  unfolding old
  old_after = after_with_node nodes memory place within node (grown_world nodes memory history g).0 history (grown_world nodes memory history g).1 q

  new : Hosting
  new = record { nodes = slice_set old.nodes place after; tables = old.tables; messages = more_sent old.messages (job_of e) (posted (Node place) given.posts) }

  found : slice_get old.nodes place ≡ Some node
  unfolding old
  found =
      let world : Hosting = (grown_world nodes memory history g).0 in
      let was = found_within world.nodes place (subst (λ n. place < n) (sym (grown_world nodes memory history g).1.count) within) in
      slice_get-slice_set world.nodes place was.0 node was.1

  hosting : HostingStep old place e given new
  unfolding new
  hosting = record {
    before = node;
    after = after;
    found = found;
    steps = s;
    nodes = refl;
    tables = refl;
    sent = sent_more old.messages (job_of e) (posted (Node place) given.posts);
  }

  -- a step of the world that is this one of the node
  module _ (step : Step) (response : StepAnswer) (inside : is_within nodes step ≡ true) (turn : WorldStep old new step response) where
    after_it : IsAfter nodes memory new (record { step = step; answer = response } ∷ history)
    after_it = after_turn nodes memory history old new step response old_after inside turn

    node_after : IsNodeAfter nodes memory place after (record { step = step; answer = response } ∷ history)
    unfolding new
    node_after = after_it.each_node place after (slice_get-slice_set old.nodes place node after found)

    sent_after : (other : ℕ) → (cluster_until nodes other (record { step = step; answer = response } ∷ history)).sent
        ≡ (if job_of e == other then (cluster_until nodes other history).sent ++ posted (Node place) given.posts else (cluster_until nodes other history).sent)
    unfolding new
    sent_after other =
        sym (after_it.each_job other).messages
        ∙ sent_more old.messages (job_of e) (posted (Node place) given.posts) other
        ∙ ap (λ l. if job_of e == other then l ++ posted (Node place) given.posts else l) (old_after.each_job other).messages

  inside_at : nat_lt place nodes ≡ true
  inside_at = grind (arith, nat_tests)

-- a Take sends nothing
pub take_is_quiet : (nodes memory place : ℕ) → place < nodes → (node after : Hosted) (given : NodeGiven) (history : List Traced)
    → IsGrown nodes memory history → IsNodeAfter nodes memory place node history → NodeStep node (Own event.Take) given after → given.posts ≡ []
take_is_quiet nodes memory place within node after given history g q s =
    let h = old_after nodes memory place within node after (Own event.Take) given history g q s in
    let f = found nodes memory place within node after (Own event.Take) given history g q s in
    let v = view_at nodes memory place _ history h within node f in
    (s.each v (shown nodes memory place _ history h within node f)).response.posts

-- what follows of a step of a node: the history grows by it, the node shows what it showed then, and what it sends was sent
pub record NodeGoesOn (nodes memory place : ℕ) (after : Hosted) (e : NodeEvent) (given : NodeGiven) (history : List Traced) (entry : Traced) : Type 0 where
  pub grown : IsGrown nodes memory (entry ∷ history)
  pub node : IsNodeAfter nodes memory place after (entry ∷ history)
  pub sent : (other : ℕ) → (cluster_until nodes other (entry ∷ history)).sent
      ≡ (if job_of e == other then (cluster_until nodes other history).sent ++ posted (Node place) given.posts else (cluster_until nodes other history).sent)

-- an event
pub event_goes_on : (nodes memory place : ℕ) → place < nodes → (node after : Hosted) (e : Event) (given : NodeGiven) (history : List Traced)
    → IsGrown nodes memory history → IsNodeAfter nodes memory place node history → NodeStep node (Own e) given after
    → NodeGoesOn nodes memory place after (Own e) given history (record { step = At place e; answer = Response given.reply })
event_goes_on nodes memory place within node after e given history g q s =
    let turn = at place e given (hosting nodes memory place within node after (Own e) given history g q s) in
    let inside = inside_at nodes memory place within node after (Own e) given history g q s in
    record {
      grown = goes_on history _ _ (At place e) (Response given.reply) g (old_after nodes memory place within node after (Own e) given history g q s) inside refl turn;
      node = node_after nodes memory place within node after (Own e) given history g q s (At place e) (Response given.reply) inside turn;
      sent = sent_after nodes memory place within node after (Own e) given history g q s (At place e) (Response given.reply) inside turn;
    }

-- a message that arrives
pub arrival_goes_on : (nodes memory place : ℕ) → place < nodes → (node after : Hosted) (job : JobNo) (from : Endpoint) (m : ℕ) (message : Message) (a : Arrival) (given : NodeGiven) (history : List Traced)
    → IsGrown nodes memory history → IsNodeAfter nodes memory place node history → NodeStep node (Arrive job a) given after
    → message_in (cluster_until nodes job.0 history).sent from (Node place) m ≡ Some message → arrival_of from message ≡ Some a
    → NodeGoesOn nodes memory place after (Arrive job a) given history (record { step = Deliver job from (Node place) m false; answer = handed message given.reply })
arrival_goes_on nodes memory place within node after job from m message a given history g q s there is =
    let world = old_after nodes memory place within node after (Arrive job a) given history g q s in
    let sent = ap (λ l. message_in l from (Node place) m) (world.each_job job.0).messages ∙ there in
    let turn = delivers job from (Node place) m false (handed message given.reply) (delivered message (handed message given.reply) sent
    (to_node place given a is (hosting nodes memory place within node after (Arrive job a) given history g q s)))
    in
    let inside = inside_at nodes memory place within node after (Arrive job a) given history g q s in
    record {
      grown = goes_on history _ _ (Deliver job from (Node place) m false) (handed message given.reply) g world inside refl turn;
      node = node_after nodes memory place within node after (Arrive job a) given history g q s (Deliver job from (Node place) m false) (handed message given.reply) inside turn;
      sent = sent_after nodes memory place within node after (Arrive job a) given history g q s (Deliver job from (Node place) m false) (handed message given.reply) inside turn;
    }

-- ---- the directory

-- what follows of a message that the directory takes
pub record DirectoryGoesOn (nodes memory : ℕ) (after : DirectoryRows) (job : JobNo) (answers : List Sent) (history : List Traced) (entry : Traced) : Type 0 where
  pub grown : IsGrown nodes memory (entry ∷ history)
  pub tables : IsTableAfter nodes after (entry ∷ history)
  pub sent : (cluster_until nodes job.0 (entry ∷ history)).sent ≡ (cluster_until nodes job.0 history).sent ++ answers

pub directory_goes_on : (nodes memory : ℕ) (old new : DirectoryRows) (job : JobNo) (from : Endpoint) (m : ℕ) (message : Message) (d : DirectoryMessage) (history : List Traced)
    → IsGrown nodes memory history → IsTableAfter nodes old history → Applies old new job d
    → message_in (cluster_until nodes job.0 history).sent from Directory m ≡ Some message → for_directory message ≡ Some d
    → DirectoryGoesOn nodes memory new job (posted Directory (directory_posts (locations_of old job) d)) history (record { step = Deliver job from Directory m false; answer = HandedOver message })
directory_goes_on nodes memory old new job from m message d history g q applies there is =
    let w = grown_world nodes memory history g in
    let before : Hosting = with_tables w.0 old in
    let h : IsAfter nodes memory before history = after_with_tables nodes memory old w.0 history w.1 q in
    let answers : List Sent = posted Directory (directory_posts (locations_of old job) d) in
    let after : Hosting = record { nodes = before.nodes; tables = new; messages = more_sent before.messages job.0 answers } in
    let sent = ap (λ l. message_in l from Directory m) (h.each_job job.0).messages ∙ there in
    let moves : MovesDirectory before job d after = record { nodes = refl; tables = applies; sent = sent_more before.messages job.0 answers } in
    let turn : WorldStep before after (Deliver job from Directory m false) (HandedOver message) = delivers job from Directory m false (HandedOver message) (delivered message (HandedOver message) sent (to_directory d is moves)) in
    let now = after_turn nodes memory history before after (Deliver job from Directory m false) (HandedOver message) h refl turn in
    record {
      grown = goes_on history before after (Deliver job from Directory m false) (HandedOver message) g h refl refl turn;
      tables = record { each = λ other. (now.each_job other).locations };
      sent = sym (now.each_job job.0).messages ∙ sent_more before.messages job.0 answers job.0
          ∙ (let same : (job.0 == job.0) ≡ true = grind (arith, nat_tests) in ap (λ b. if b then sent_of before.messages job.0 ++ answers else sent_of before.messages job.0) same)
          ∙ ap (λ l. l ++ answers) (h.each_job job.0).messages;
    }
