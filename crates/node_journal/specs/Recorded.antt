-- A node with its journal at its place in the history of its cluster.
use Rattle.std.specs.Prelude.{◌≡◌, ◌<◌, ℕ, ◌+◌, true, false, List, [], ◌∷◌, ◌++◌, reverse, Option, Some, IfSome, is_some, option_map}
use Rattle.std.specs.Option.{option_to_list}
use mathlib.Core.List.{IsPrefix}
use Rattle.obj_id.specs.declared.ids.JobNo.{JobNo}
use Rattle.obj_id.specs.declared.commands.Reply.{Reply}
use Rattle.obj_id.specs.declared.commands.Reply.TheVariants as reply
use Rattle.obj_id.specs.declared.messages.Endpoint.{Endpoint}
use Rattle.obj_id.specs.declared.messages.Endpoint.TheVariants as endpoint
use Rattle.obj_id.specs.declared.messages.Message.{Message}
use Rattle.private_store.specs.declared.schedules.Event.{Event}
use Rattle.private_store.specs.declared.schedules.Step.{Step}
use Rattle.private_store.specs.declared.schedules.Step.TheVariants.{At, Deliver}
use Rattle.private_store.specs.declared.schedules.StepAnswer.TheVariants.{Response}
use Rattle.private_store.specs.declared.schedules.Traced.{Traced}
use Rattle.node_core.specs.Hosted.{Hosted}
use Rattle.world_core.specs.Worlds.{IsNodeAfter}
use Rattle.world_core.specs.WorldSteps.{handed}
use Rattle.owner_directory.specs.Locations.{DirectoryRows}
use Rattle.cluster_history.specs.Histories.{count_at, IsTableAfter}
use Rattle.cluster_history.specs.Rules.{GoesOn}
use Rattle.cluster_history.specs.Sending.{number_of}
use Rattle.node_journal.specs.declared.posts.Posted.{Posted}
use Rattle.node_journal.specs.Posts.{PassesOn, directory_message_in, post_of}

-- what is known under the node's lock: its place in the history has as many entries as its journal, and the node shows what it shows
-- after all that the place knows
pub record IsRecorded (nodes memory : ℕ) (node : Hosted) (number count : ℕ) (place : ℕ × List Traced) : Type 0 where
  pub within : number < nodes
  pub stands : place.0 ≡ number
  pub counted : count_at nodes number place.1 ≡ count
  pub shown : ∥ IsNodeAfter nodes memory number node (reverse place.1) ∥₁

-- an event at a node, with its answer
abbrev pub event_entry : ℕ → Event → Reply (List ℕ) → Traced
event_entry node e response = record { step = At node e; answer = Response response }

-- a message handed over: the one that its sender's newest entry in a history sent after so many others, with what its place answered
abbrev pub delivery_entry : ℕ → JobNo → Endpoint → Endpoint → Message → List Traced → ℕ → Reply (List ℕ) → Traced
delivery_entry nodes job from to message log index response =
    record { step = Deliver job from to (number_of nodes job.0 from to log index) false; answer = handed message response }

-- the last of these entries is this one
pub record IsLastIn (entry : Traced) (log : List Traced) : Type 0 where
  pub earlier : List Traced
  pub ends : log ≡ earlier ++ entry ∷ []

-- the second history goes on from all of the first, and then by other entries, of which there is one at least
pub record ComesAfter (earlier now : List Traced) : Type 0 where
  pub before : List Traced
  pub entry : Traced
  pub log : now ≡ before ++ entry ∷ []
  pub begins : IsPrefix earlier before

-- what is known under the directory's lock: it has as many entries in the history as messages that it took, and each job's own locations
-- after all that its place knows
pub record IsDirectoryRecorded (nodes : ℕ) (rows : DirectoryRows) (count : ℕ) (place : ℕ × List Traced) : Type 0 where
  pub stands : place.0 ≡ nodes
  pub counted : count_at nodes nodes place.1 ≡ count
  pub shown : ∥ IsTableAfter nodes rows (reverse place.1) ∥₁

-- the directory took a message, and answers it
pub record HasPassed {L : Type 0} (old new : DirectoryRows) (posted : Posted L) (answer : Option (Posted L)) : Type 0 where
  pub passes : PassesOn old new posted.job (directory_message_in posted.message) (option_to_list (option_map post_of answer))
  pub sender : IfSome answer (λ p. (p.job ≡ posted.job) × (p.from ≡ endpoint.Directory) × (p.entry ≡ posted.entry))

-- the history went on by the delivery of a message that is for the directory, and any answer was sent by that
abbrev pub GoesThrough : {L : Type 0} → ℕ → ℕ → ℕ × List Traced → ℕ × List Traced → Posted L → List Traced × ℕ → Option (List Traced × ℕ) → Type 0
GoesThrough nodes memory old new posted sent answer =
    (is_some (directory_message_in posted.message) ≡ true → GoesOn nodes memory old.0 old.1 sent.0 new.1 (delivery_entry nodes posted.job posted.from endpoint.Directory posted.message sent.0 sent.1 reply.Ok))
    × IfSome answer (λ a. a ≡ (new.1, 0))
