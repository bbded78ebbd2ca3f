-- The locations of all jobs, and what a message of one job does to them.
use Rattle.std.specs.Prelude.{◌≡◌, Bool, true, false, List, [], ◌∷◌, length, nat_lt, unwrap_or}
use Rattle.std.specs.Map.{lookup}
use Rattle.obj_id.specs.declared.ids.JobNo.{JobNo}
use Rattle.obj_id.specs.declared.messages.Location.{Location}
use Rattle.obj_id.specs.declared.messages.Endpoint.TheVariants.{Node}
use Rattle.obj_id.specs.declared.messages.Message.TheVariants as message
use Rattle.obj_id.specs.declared.messages.DirectoryMessage.{DirectoryMessage}
use Rattle.obj_id.specs.declared.messages.DirectoryMessage.TheVariants.{AddLocation, RemoveLocation, Free, EndJob, Locate}
use Rattle.private_store.specs.rules.Jobs.{same_job}
use Rattle.private_store.specs.rules.Tables.{ById}
use Rattle.private_store.specs.rules.Private.{Post}
use Rattle.private_store.specs.rules.Directory.{locations_after, entries_at, entry_placed}
use Rattle.owner_directory.specs.declared.DirectoryReply.{DirectoryReply}
use Rattle.owner_directory.specs.declared.DirectoryReply.TheVariants.{Nothing, Located}

-- the locations of a job's objects
abbrev pub Locations : Type 0
Locations = ById (List Location)

-- those of all jobs
abbrev pub DirectoryRows : Type 0
DirectoryRows = List (JobNo × Locations)

-- a job that never sent a message has no locations
abbrev pub locations_of : DirectoryRows → JobNo → Locations
locations_of rows job = unwrap_or (lookup (same_job job) rows) []

-- the message is applied to its own job's locations, and other jobs' stay
pub record Applies (old new : DirectoryRows) (job : JobNo) (message : DirectoryMessage) : Type 0 where
  pub own : locations_of new job ≡ locations_after (locations_of old job) message
  pub others : (other : JobNo) → same_job job other ≡ false → locations_of new other ≡ locations_of old other

-- the reply as what the directory sends
abbrev pub answer_posts : DirectoryReply → List Post
answer_posts Nothing = []
answer_posts (Located to id number entries) = (Node to, message.Located id number entries) ∷ []

-- whether memory may be wanting: what only takes entries out needs none
abbrev pub needs_memory : DirectoryMessage → Bool
needs_memory (AddLocation id entry) = true
needs_memory (RemoveLocation id node) = false
needs_memory (Free id) = false
needs_memory (EndJob node) = false
needs_memory (Locate id node number) = true

-- whether entries are more than others
abbrev pub is_longer : List Location → List Location → Bool
is_longer new old = nat_lt (length old) (length new)

-- whether the message takes memory: for an entry of a node that had none, or for a copy of entries
abbrev pub takes_memory : Locations → DirectoryMessage → Bool
takes_memory table (AddLocation id entry) = is_longer (entry_placed entry (entries_at table id)) (entries_at table id)
takes_memory table (RemoveLocation id node) = false
takes_memory table (Free id) = false
takes_memory table (EndJob node) = false
takes_memory table (Locate id node number) = is_longer (entries_at table id) []
