-- The numbers of messages: each counts those that its job sent the same way before, and itself.
use Rattle.std.specs.Prelude.{◌≡◌, ℕ, suc, ◌+◌, List, [], ◌∷◌, ◌++◌, length, take, reverse, Some}
use Rattle.obj_id.specs.declared.messages.Endpoint.{Endpoint}
use Rattle.obj_id.specs.declared.messages.Message.{Message}
use Rattle.private_store.specs.declared.schedules.Traced.{Traced}
use Rattle.private_store.specs.rules.Cluster.{Sent, messages_between, posted}
use Rattle.private_store.specs.rules.Private.{Post}
use Rattle.private_store.specs.rules.Trace.{cluster_until}
use Rattle.world_core.specs.Logs.{message_in}

-- all that the job sent, oldest first, in a history
abbrev pub sent_until : ℕ → ℕ → List Traced → List Sent
sent_until nodes job log = (cluster_until nodes job (reverse log)).sent

-- of the message that stands after so many others in what its job sent
abbrev pub number_at : List Sent → Endpoint → Endpoint → ℕ → ℕ
number_at sent from to position = suc (length (messages_between from to (take position sent)))

-- the history without its newest entry
abbrev pub before_newest : List Traced → List Traced
before_newest [] = []
before_newest (entry ∷ history) = history

-- how much the job had sent before the newest entry
abbrev pub sent_before : ℕ → ℕ → List Traced → List Sent
sent_before nodes job log = (cluster_until nodes job (before_newest (reverse log))).sent

-- of the message that stands after so many others in what the newest entry sent
abbrev pub number_of : ℕ → ℕ → Endpoint → Endpoint → List Traced → ℕ → ℕ
number_of nodes job from to log index = number_at (sent_until nodes job log) from to (length (sent_before nodes job log) + index)

-- the newest entry sent this message, after so many others
abbrev pub IsSentBy : ℕ → ℕ → Endpoint → Endpoint → Message → List Traced → ℕ → Type 0
IsSentBy nodes job from to message log index = message_in (sent_until nodes job log) from to (number_of nodes job from to log index) ≡ Some message

-- of what the newest entry sent for the job this is left, after so many messages
pub record IsMailOf (nodes job : ℕ) (from : Endpoint) (log : List Traced) (index : ℕ) (left : List Post) : Type 0 where
  pub earlier : List Post
  pub count : length earlier ≡ index
  pub sent : sent_until nodes job log ≡ sent_before nodes job log ++ posted from (earlier ++ left)
