-- What a step was to the jobs, without contents, as journals keep it.
use Rattle.std.specs.Prelude.{◌≡◌, ℕ, Bool, List, [], slice_get, slice_set, Option, Some, None}
use Rattle.obj_id.specs.declared.ids.JobNo.{JobNo}
use Rattle.obj_id.specs.declared.refusals.Refusal.TheVariants.{NoMemory, Stale}
use Rattle.obj_id.specs.declared.commands.Reply.{Reply}
use Rattle.obj_id.specs.declared.commands.Reply.TheVariants as reply
use Rattle.obj_id.specs.declared.messages.Arrival.{Arrival}
use Rattle.obj_id.specs.declared.messages.Message.{Message}
use Rattle.obj_id.specs.declared.messages.Endpoint.{Endpoint}
use Rattle.obj_id.specs.declared.messages.Endpoint.TheVariants.{Node, Directory}
use Rattle.private_store.specs.declared.inputs.Judged.{Judged}
use Rattle.private_store.specs.declared.schedules.Event.{Event}
use Rattle.private_store.specs.declared.schedules.NodeEvent.TheVariants.{Own, Arrive}
use Rattle.private_store.specs.declared.schedules.Step.{Step}
use Rattle.private_store.specs.declared.schedules.Step.TheVariants.{At, Deliver}
use Rattle.private_store.specs.declared.schedules.StepAnswer.{StepAnswer}
use Rattle.private_store.specs.declared.schedules.StepAnswer.TheVariants.{Response, NoMessage}
use Rattle.private_store.specs.rules.Cluster.{arrival_of}
use Rattle.node_core.specs.declared.outcome.Note.{Note}
use Rattle.node_core.specs.Hosted.{Hosted}
use Rattle.node_core.specs.Judged.{IsJudged, IsArrivalJudged}
use Rattle.node_core.specs.Outcomes.{inputs_noted}
use Rattle.node_core.specs.Steps.{NodeGiven, NodeStep}
use Rattle.world_core.specs.WorldSteps.{handed, message_of}
use Rattle.world_core.specs.Worlds.{Hosting}

-- an event at the place, with this answer: what it was to its own job, and what it told the grantees
pub record IsEventNoted (old new : Hosting) (place : ℕ) (e : Event) (response : Reply (List ℕ)) (was : Option Judged) (noted : List Note) : Type 0 where
  pub before : Hosted
  pub given : NodeGiven
  pub after : Hosted
  pub found : slice_get old.nodes place ≡ Some before
  pub steps : NodeStep before (Own e) given after
  pub nodes : new.nodes ≡ slice_set old.nodes place after
  pub reply : given.reply ≡ response
  pub judged : IsJudged before e response was
  pub notes : given.notes ≡ inputs_noted noted

-- the same of a job's message that arrives at the place, which tells nobody of a grant
pub record IsArrivalNoted (old new : Hosting) (place : ℕ) (job : JobNo) (a : Arrival) (response : Reply (List ℕ)) (was : Option Judged) (noted : List Note) : Type 0 where
  pub before : Hosted
  pub given : NodeGiven
  pub after : Hosted
  pub found : slice_get old.nodes place ≡ Some before
  pub steps : NodeStep before (Arrive job a) given after
  pub nodes : new.nodes ≡ slice_set old.nodes place after
  -- what comes too late is nothing there
  pub stale : response ≡ reply.Refused Stale → after ≡ before
  pub reply : given.reply ≡ response
  pub judged : IsArrivalJudged before job a response was
  pub notes : noted ≡ []

-- nothing to anybody, and the nodes are as they were
pub record NotesNothing (old new : Hosting) (judged : Option Judged) (notes : List Note) : Type 0 where
  pub none : judged ≡ None
  pub nobody : notes ≡ []
  pub nodes : new.nodes ≡ old.nodes

-- what a step with this answer was to the jobs
pub data IsNoted (old new : Hosting) (judged : Option Judged) (notes : List Note) : Step → StepAnswer → Type 0 where
  keeps_event : (place : ℕ) (e : Event) (response : Reply (List ℕ)) → IsEventNoted old new place e response judged notes → IsNoted old new judged notes (At place e) (Response response)
  keeps_arrival : (job : JobNo) (from : Endpoint) (place m : ℕ) (damage : Bool) (a : Arrival) (response : Reply (List ℕ))
      → arrival_of from (message_of a) ≡ Some a → IsArrivalNoted old new place job a response judged notes
      → IsNoted old new judged notes (Deliver job from (Node place) m damage) (handed (message_of a) response)
  -- what isn't made for a node
  passes_node : (job : JobNo) (from : Endpoint) (place m : ℕ) (damage : Bool) (msg : Message) (response : Reply (List ℕ)) → arrival_of from msg ≡ None → NotesNothing old new judged notes
      → IsNoted old new judged notes (Deliver job from (Node place) m damage) (handed msg response)
  tells_directory : (job : JobNo) (from : Endpoint) (m : ℕ) (damage : Bool) (response : StepAnswer) → NotesNothing old new judged notes → IsNoted old new judged notes (Deliver job from Directory m damage) response
  finds_nothing : (job : JobNo) (from to : Endpoint) (m : ℕ) (damage : Bool) → NotesNothing old new judged notes → IsNoted old new judged notes (Deliver job from to m damage) NoMessage
  wants_memory : (step : Step) → NotesNothing old new judged notes → IsNoted old new judged notes step (Response (reply.Refused NoMemory))
