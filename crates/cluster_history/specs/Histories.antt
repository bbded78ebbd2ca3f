-- The history of a cluster whose nodes are served by threads: what happened at its places, in one order.
use Rattle.std.specs.Prelude.{◌≡◌, ◌≤◌, ℕ, suc, ◌+◌, ◌==◌, Bool, true, false, List, [], ◌∷◌, ◌++◌, length, filter}
use Rattle.obj_id.specs.declared.messages.Endpoint.{Endpoint}
use Rattle.obj_id.specs.declared.messages.Endpoint.TheVariants.{Node, Directory}
use Rattle.private_store.specs.declared.schedules.Step.{Step}
use Rattle.private_store.specs.declared.schedules.Step.TheVariants.{At, Deliver}
use Rattle.private_store.specs.declared.schedules.StepAnswer.{StepAnswer}
use Rattle.private_store.specs.declared.schedules.Traced.{Traced}
use Rattle.private_store.specs.rules.Trace.{Agree, IsPrivate, cluster_until, is_answered, replies_of}
use Rattle.private_store.specs.rules.Shared.{AreSharedAnswers}
use Rattle.owner_directory.specs.Locations.{DirectoryRows, locations_of}
use Rattle.world_core.specs.Runs.{is_replied, all_replied}
use Rattle.world_core.specs.Worlds.{Hosting, IsAfter, is_within}
use Rattle.world_core.specs.WorldSteps.{WorldStep}

-- ---- what is said of one

-- a trace of a cluster of so many nodes, each with so much memory
pub record IsServed (nodes memory : ℕ) (trace : List Traced) : Type 0 where
  -- no event was left without a reply
  pub replied : all_replied trace ≡ true
  -- what the operator, the workers and the links were answered is what was due
  pub shared : AreSharedAnswers nodes memory trace
  -- of every job number, admitted or not: its replies are those of its private cluster
  pub private : (job : ℕ) → IsPrivate nodes job trace

-- of two clusters, of as many nodes, whose histories agree for a job: its replies, but for want of memory, are equal
abbrev pub EqualInputsHaveEqualReplies : Type 0
EqualInputsHaveEqualReplies = (nodes memory other job : ℕ) (first second : List Traced) → IsServed nodes memory first → IsServed nodes other second → Agree nodes job first second
    → filter is_answered (replies_of job first) ≡ filter is_answered (replies_of job second)

-- ---- where its entries stand

-- the directory stands after the nodes
abbrev pub place_of : ℕ → Endpoint → ℕ
place_of nodes (Node place) = place
place_of nodes Directory = nodes

-- the place at which the step is made
abbrev pub stands_at : ℕ → Step → ℕ
stands_at nodes (At place e) = place
stands_at nodes (Deliver job from to m damage) = place_of nodes to

-- how many entries stand at a place
abbrev pub count_at : ℕ → ℕ → List Traced → ℕ
count_at nodes place entries = length (filter (λ entry. stands_at nodes entry.step == place) entries)

-- ---- what places show after it

-- the directory after a history, newest first: it has each job's own locations
pub record IsTableAfter (nodes : ℕ) (tables : DirectoryRows) (history : List Traced) : Type 0 where
  pub each : (job : ℕ) → locations_of tables (record { 0 = job }) ≡ (cluster_until nodes job history).locations

-- ---- how it comes about

-- a history, newest first, each of whose entries is a step of a world as the entries before it leave it
pub data IsGrown (nodes memory : ℕ) : List Traced → Type 0 where
  begun : (world : Hosting) → IsAfter nodes memory world [] → IsGrown nodes memory []
  goes_on : (history : List Traced) (old new : Hosting) (step : Step) (response : StepAnswer) → IsGrown nodes memory history → IsAfter nodes memory old history
      → is_within nodes step ≡ true → is_replied step response ≡ true → WorldStep old new step response → IsGrown nodes memory (record { step = step; answer = response } ∷ history)
