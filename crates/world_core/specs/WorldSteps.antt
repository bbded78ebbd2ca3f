-- What a step does to a world: an event at a node, or a message to the directory, or nothing.
use Rattle.std.specs.Prelude.{◌≡◌, ℕ, ◌==◌, Bool, if◌then◌else◌, List, ◌++◌, slice_get, slice_set, Option, Some, None, is_some}
use Rattle.obj_id.specs.declared.ids.JobNo.{JobNo}
use Rattle.obj_id.specs.declared.refusals.Refusal.TheVariants.{NoMemory}
use Rattle.obj_id.specs.declared.commands.Reply.{Reply}
use Rattle.obj_id.specs.declared.commands.Reply.TheVariants as reply
use Rattle.obj_id.specs.declared.messages.Arrival.{Arrival}
use Rattle.obj_id.specs.declared.messages.Arrival.TheVariants as arrival
use Rattle.obj_id.specs.declared.messages.DirectoryMessage.{DirectoryMessage}
use Rattle.obj_id.specs.declared.messages.Endpoint.{Endpoint}
use Rattle.obj_id.specs.declared.messages.Endpoint.TheVariants.{Node, Directory}
use Rattle.obj_id.specs.declared.messages.Message.{Message}
use Rattle.obj_id.specs.declared.messages.Message.TheVariants as message
use Rattle.private_store.specs.declared.schedules.Event.{Event}
use Rattle.private_store.specs.declared.schedules.Step.{Step}
use Rattle.private_store.specs.declared.schedules.Step.TheVariants.{At, Deliver}
use Rattle.private_store.specs.declared.schedules.StepAnswer.{StepAnswer}
use Rattle.private_store.specs.declared.schedules.StepAnswer.TheVariants.{Response, HandedOver, NoMessage}
use Rattle.private_store.specs.rules.Cluster.{posted, damaged, arrival_of}
use Rattle.private_store.specs.rules.Directory.{directory_posts}
use Rattle.owner_directory.specs.Locations.{Applies, locations_of}
use Rattle.world_core.specs.Logs.{sent_of, message_in}
use Rattle.private_store.specs.declared.schedules.NodeEvent.{NodeEvent}
use Rattle.private_store.specs.declared.schedules.NodeEvent.TheVariants.{Own, Arrive}
use Rattle.node_core.specs.Hosted.{Hosted}
use Rattle.job_admission.specs.Admissions.{live_at}
use Rattle.node_core.specs.Steps.{NodeGiven, NodeStep, job_of, job_of_event, answer_of_check, stale_unless}
use Rattle.world_core.specs.Worlds.{Hosting}

-- the node at the place steps, and what it sends is sent for the event's job
pub record HostingStep (old : Hosting) (place : ℕ) (e : NodeEvent) (given : NodeGiven) (new : Hosting) : Type 0 where
  pub before : Hosted
  pub after : Hosted
  pub found : slice_get old.nodes place ≡ Some before
  pub steps : NodeStep before e given after
  pub nodes : new.nodes ≡ slice_set old.nodes place after
  pub tables : new.tables ≡ old.tables
  pub sent : (job : ℕ) → sent_of new.messages job
      ≡ (if job_of e == job then sent_of old.messages job ++ posted (Node place) given.posts else sent_of old.messages job)

-- the directory takes a message of the job
pub record MovesDirectory (old : Hosting) (job : JobNo) (m : DirectoryMessage) (new : Hosting) : Type 0 where
  pub nodes : new.nodes ≡ old.nodes
  pub tables : Applies old.tables new.tables job m
  pub sent : (other : ℕ) → sent_of new.messages other
      ≡ (if job.0 == other then sent_of old.messages other ++ posted Directory (directory_posts (locations_of old.tables job) m) else sent_of old.messages other)

-- as it arrives
abbrev pub as_damaged : Bool → Message → Message
as_damaged damage m = if damage then damaged m else m

-- the answer to a delivery, by what the node answers
abbrev pub handed : Message → Reply (List ℕ) → StepAnswer
handed m reply.Ok = HandedOver m
handed m response = Response response

-- the message that an arrival was
abbrev pub message_of : Arrival → Message
message_of (arrival.Located id number entries) = message.Located id number entries
message_of (arrival.FromPeer from m) = message.ToPeer m

-- what the directory takes
abbrev pub for_directory : Message → Option DirectoryMessage
for_directory (message.ToDirectory d) = Some d
for_directory _ = None

-- a message is handed over, as it arrived; what isn't made for its place is nothing there
pub data IsDelivered (old : Hosting) (job : JobNo) (from : Endpoint) (m : Message) (new : Hosting) : Endpoint → StepAnswer → Type 0 where
  to_directory : (d : DirectoryMessage) → for_directory m ≡ Some d → MovesDirectory old job d new → IsDelivered old job from m new Directory (HandedOver m)
  past_directory : for_directory m ≡ None → new ≡ old → IsDelivered old job from m new Directory (HandedOver m)
  to_node : (place : ℕ) (given : NodeGiven) (a : Arrival) → arrival_of from m ≡ Some a → HostingStep old place (Arrive job a) given new
      → IsDelivered old job from m new (Node place) (handed m given.reply)
  past_node : (place : ℕ) (node : Hosted) → slice_get old.nodes place ≡ Some node → arrival_of from m ≡ None → new ≡ old
      → IsDelivered old job from m new (Node place) (handed m (answer_of_check (stale_unless (is_some (live_at node.admissions job)))))

-- a delivery of the m-th message, if there is one
pub data Delivers (old : Hosting) (job : JobNo) (from to : Endpoint) (m : ℕ) (damage : Bool) (new : Hosting) : StepAnswer → Type 0 where
  nothing : message_in (sent_of old.messages job.0) from to m ≡ None → new ≡ old → Delivers old job from to m damage new NoMessage
  delivered : (sent : Message) (response : StepAnswer) → message_in (sent_of old.messages job.0) from to m ≡ Some sent → IsDelivered old job from (as_damaged damage sent) new to response
      → Delivers old job from to m damage new response

-- what a step does to a world
pub data WorldStep (old : Hosting) (new : Hosting) : Step → StepAnswer → Type 0 where
  at : (place : ℕ) (e : Event) (given : NodeGiven) → HostingStep old place (Own e) given new → WorldStep old new (At place e) (Response given.reply)
  delivers : (job : JobNo) (from to : Endpoint) (m : ℕ) (damage : Bool) (response : StepAnswer) → Delivers old job from to m damage new response → WorldStep old new (Deliver job from to m damage) response
  wants : (step : Step) → new ≡ old → WorldStep old new step (Response (reply.Refused NoMemory))

-- an event of a schedule at the place, with this answer
pub record EventStep (old : Hosting) (place : ℕ) (e : Event) (response : Reply (List ℕ)) (new : Hosting) : Type 0 where
  pub before : Hosted
  pub given : NodeGiven
  pub after : Hosted
  pub found : slice_get old.nodes place ≡ Some before
  pub steps : NodeStep before (Own e) given after
  pub reply : given.reply ≡ response
  pub nodes : new.nodes ≡ slice_set old.nodes place after
  pub tables : new.tables ≡ old.tables
  pub sent : (job : ℕ) → sent_of new.messages job
      ≡ (if job_of_event e == job then sent_of old.messages job ++ posted (Node place) given.posts else sent_of old.messages job)

-- the job's message arrives at the place, with this answer
pub record Arrives (old : Hosting) (place : ℕ) (job : JobNo) (a : Arrival) (response : Reply (List ℕ)) (new : Hosting) : Type 0 where
  pub before : Hosted
  pub given : NodeGiven
  pub after : Hosted
  pub found : slice_get old.nodes place ≡ Some before
  pub steps : NodeStep before (Arrive job a) given after
  pub reply : given.reply ≡ response
  pub nodes : new.nodes ≡ slice_set old.nodes place after
  pub tables : new.tables ≡ old.tables
  pub sent : (other : ℕ) → sent_of new.messages other
      ≡ (if job.0 == other then sent_of old.messages other ++ posted (Node place) given.posts else sent_of old.messages other)
