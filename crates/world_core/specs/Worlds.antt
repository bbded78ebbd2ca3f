-- A world of nodes and a directory, and what it shows after a history: a trace so far, newest first.
use Rattle.std.specs.Prelude.{◌≡◌, ℕ, ◌==◌, nat_le, nat_lt, Bool, true, false, not, ◌&&◌, List, [], length, map, reverse, filter, slice_get, Some}
use Rattle.std.specs.List.{list_any}
use Rattle.obj_id.specs.declared.ids.JobNo.{JobNo}
use Rattle.obj_id.specs.declared.messages.Endpoint.{Endpoint}
use Rattle.obj_id.specs.declared.messages.Endpoint.TheVariants.{Node, Directory}
use Rattle.private_store.specs.declared.schedules.Step.{Step}
use Rattle.private_store.specs.declared.schedules.Step.TheVariants.{At, Deliver}
use Rattle.private_store.specs.declared.schedules.Traced.{Traced}
use Rattle.private_store.specs.rules.Private.{Store, view_of, no_store}
use Rattle.private_store.specs.rules.Cluster.{Sent, private_run}
use Rattle.private_store.specs.rules.Trace.{grants_at, is_out, inputs_until, cluster_until, replies_of, is_answered}
use Rattle.private_store.specs.rules.Shared.{AskedWork, waiting, lives_after, is_admission, answers_due}
use Rattle.spill_work.specs.declared.queue.Queued.{Queued}
use Rattle.job_admission.specs.Admissions.{largest_memory, lives_of}
use Rattle.world_core.specs.declared.ClusterSize.{ClusterSize}
use Rattle.owner_directory.specs.Locations.{DirectoryRows, Locations, locations_of}
use Rattle.world_core.specs.Logs.{sent_of}
use Rattle.node_core.specs.Hosted.{Hosted, Shows}
use Rattle.node_core.specs.Steps.{is_taken}

-- what a contract sees of a world
pub record Hosting : Type 0 where
  -- by number
  pub nodes : List Hosted
  -- by job, the directory's locations
  pub tables : DirectoryRows
  -- by job, all messages ever sent, oldest first
  pub messages : List (JobNo × List Sent)

-- one of the nodes, or the directory
abbrev pub is_place : ℕ → Endpoint → Bool
is_place nodes (Node place) = nat_lt place nodes
is_place nodes Directory = true

-- an event at one of the nodes, or a delivery to a place that is there
abbrev pub is_within : ℕ → Step → Bool
is_within nodes (At place e) = nat_lt place nodes
is_within nodes (Deliver job from to m damage) = is_place nodes to

-- ---- a node's line of works, as the trace tells it

abbrev pub is_waiting : Queued → Bool
is_waiting work = not work.taken

abbrev pub asked_of : Queued → AskedWork
asked_of work = record { job = work.asked.job.0; number = work.asked.number }

-- the works that nobody has taken
abbrev pub untaken : List Queued → List AskedWork
untaken works = map asked_of (filter is_waiting works)

-- ---- after a history

-- a node after a history
pub record IsNodeAfter (nodes memory place : ℕ) (node : Hosted) (history : List Traced) : Type 0 where
  pub number : node.number ≡ place
  pub size : node.admissions.memory ≡ memory
  -- its live jobs are those that were admitted here and haven't ended
  pub lives : lives_of node.admissions.live ≡ lives_after memory place history
  -- a number was admitted here, or a greater one, where it isn't above the greatest
  pub greatest : (job : ℕ) → (job == 0) ≡ false
      → list_any (λ entry. is_admission place job entry.step entry.answer) history ≡ nat_le job node.admissions.greatest
  -- it shows of every job number the job's private store at this place
  pub shows : (job : ℕ) (store : Store) → slice_get (cluster_until nodes job history).stores place ≡ Some store → Shows node job (view_of store)
  -- its grants are those that stand
  pub grants : node.grants ≡ grants_at place history
  -- of its works, in the order asked, the untaken ones wait, and the taken ones are out
  pub waiting : untaken node.works.works ≡ waiting nodes place history
  pub out : (job number : ℕ) → is_taken node.works.works job number ≡ is_out place job number history

-- a job, with all that it sent and the directory's locations, after a history
pub record IsJobAfter (nodes job : ℕ) (sent : List Sent) (table : Locations) (history : List Traced) : Type 0 where
  -- its messages and locations are those of its private cluster
  pub messages : sent ≡ (cluster_until nodes job history).sent
  pub locations : table ≡ (cluster_until nodes job history).locations
  -- its replies, but for NoMemory, are those of its private cluster
  pub replies : filter is_answered (replies_of job (reverse history)) ≡ private_run job nodes (inputs_until nodes job history)

-- the world after a history
pub record IsAfter (nodes memory : ℕ) (world : Hosting) (history : List Traced) : Type 0 where
  pub count : length world.nodes ≡ nodes
  pub each_node : (place : ℕ) (node : Hosted) → slice_get world.nodes place ≡ Some node → IsNodeAfter nodes memory place node history
  pub each_job : (job : ℕ) → IsJobAfter nodes job (sent_of world.messages job) (locations_of world.tables (record { 0 = job })) history
  -- what was answered is what was due
  pub due : map (λ entry. entry.answer) history ≡ answers_due nodes memory history

-- a node in which nothing has happened
pub record IsNew (memory place : ℕ) (node : Hosted) : Type 0 where
  pub number : node.number ≡ place
  pub admissions : node.admissions ≡ record { memory = memory; greatest = 0; live = [] }
  pub works : node.works.works ≡ []
  pub grants : node.grants ≡ []
  pub shows : (job : ℕ) → Shows node job (view_of (no_store job))

-- so many of them, by number
pub record AreNew (memory many : ℕ) (nodes : List Hosted) : Type 0 where
  pub count : length nodes ≡ many
  pub each : (place : ℕ) (node : Hosted) → slice_get nodes place ≡ Some node → IsNew memory place node

-- the nodes of the largest world
abbrev pub most_nodes : ℕ
most_nodes = 8

-- a node at least, and none with more than the largest memory
abbrev pub is_shape : ClusterSize → Bool
is_shape shape = nat_le 1 shape.nodes && nat_le shape.nodes most_nodes && nat_le shape.memory largest_memory
