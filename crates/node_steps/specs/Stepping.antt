-- What is done with a node that is locked: one step, or nothing.
use Rattle.std.specs.Prelude.{◌≡◌, ◌⊎◌, ℕ, List}
use Rattle.obj_id.specs.declared.ids.JobNo.{JobNo}
use Rattle.obj_id.specs.declared.commands.Command.TheVariants as command
use Rattle.obj_id.specs.declared.commands.Reply.{Reply}
use Rattle.private_store.specs.declared.schedules.Event.{Event}
use Rattle.private_store.specs.declared.schedules.Event.TheVariants as event
use Rattle.private_store.specs.rules.Private.{Post}

-- one step was made, and then the job's journal was folded, or not
pub record FoldsAfter {K : Type 0} (folds : JobNo → K → K → Type 0) (job : JobNo) (step : K → K → Type 0) (old new : K) : Type 0 where
  pub between : K
  pub stepped : step old between
  pub folded : (new ≡ between) ⊎ folds job between new

-- the session was left
pub record IsOneLeave {K T : Type 0} (steps : Event → Reply (List ℕ) → List Post → T → K → K → Type 0) (job : JobNo) (session : ℕ) (sent : List Post) (old new : K) : Type 0 where
  pub response : Reply (List ℕ)
  pub receipt : T
  pub step : steps (event.Call job session command.Leave) response sent receipt old new

-- a message arrived, whatever was answered and sent
pub record HasArrived {K M T : Type 0} (arrives : M → Reply (List ℕ) → List Post → T → K → K → Type 0) (posted : M) (old new : K) : Type 0 where
  pub response : Reply (List ℕ)
  pub sent : List Post
  pub receipt : T
  pub arrival : arrives posted response sent receipt old new
