-- When a step of a world may be answered out of memory: not if another answer is all that it comes to.
use Rattle.std.specs.Prelude.{◌≡◌, ℕ, true, slice_get, Some, is_some}
use Rattle.obj_id.specs.declared.ids.JobNo.{JobNo}
use Rattle.obj_id.specs.declared.messages.Endpoint.{Endpoint}
use Rattle.obj_id.specs.declared.messages.Endpoint.TheVariants.{Node, Directory}
use Rattle.private_store.specs.declared.schedules.NodeEvent.{NodeEvent}
use Rattle.private_store.specs.declared.schedules.NodeEvent.TheVariants.{Own}
use Rattle.private_store.specs.declared.schedules.Step.{Step}
use Rattle.private_store.specs.declared.schedules.Step.TheVariants.{At, Deliver}
use Rattle.job_admission.specs.Admissions.{live_at}
use Rattle.node_core.specs.Hosted.{Hosted}
use Rattle.node_core.specs.MemoryLast.{IsMemoryLast}
use Rattle.world_core.specs.Logs.{sent_of, message_in}
use Rattle.world_core.specs.Worlds.{Hosting}

-- the node at the place may want memory for the event
abbrev pub IsMemoryLastAt : Hosting → ℕ → NodeEvent → Type 0
IsMemoryLastAt world place e = (node : Hosted) → slice_get world.nodes place ≡ Some node → IsMemoryLast node e

-- the job is live at the place, if that is a node
abbrev pub IsTakenAt : Hosting → JobNo → Endpoint → Type 0
IsTakenAt world job (Node place) = (node : Hosted) → slice_get world.nodes place ≡ Some node → is_some (live_at node.admissions job) ≡ true
IsTakenAt world job Directory = Unit {0}

-- the message was sent, and isn't stale where it arrives
pub record IsDeliveryDue (world : Hosting) (job : JobNo) (from to : Endpoint) (m : ℕ) : Type 0 where
  pub sent : is_some (message_in (sent_of world.messages job.0) from to m) ≡ true
  pub taken : IsTakenAt world job to

-- a step of the world may want memory
abbrev pub IsMemoryLastIn : Hosting → Step → Type 0
IsMemoryLastIn world (At place e) = IsMemoryLastAt world place (Own e)
IsMemoryLastIn world (Deliver job from to m damage) = IsDeliveryDue world job from to m
