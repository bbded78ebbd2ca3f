-- The private cluster of one job: its store at each node, its own locations, and its own messages.
use Rattle.std.specs.Prelude.{ℕ, zero, suc, ◌==◌, bit_xor, Bool, true, false, ◌&&◌, if◌then◌else◌, List, [], ◌∷◌, ◌++◌, map, filter, slice_get, slice_set, Option, Some, None}
use Rattle.std.specs.Option.{option_map_or}
use Rattle.obj_id.specs.declared.messages.Location.{Location}
use Rattle.obj_id.specs.declared.messages.Endpoint.{Endpoint}
use Rattle.obj_id.specs.declared.messages.Endpoint.TheVariants.{Node, Directory}
use Rattle.obj_id.specs.declared.messages.Message.{Message}
use Rattle.obj_id.specs.declared.messages.Message.TheVariants as message
use Rattle.obj_id.specs.declared.messages.DirectoryMessage.{DirectoryMessage}
use Rattle.obj_id.specs.declared.messages.PeerMessage.{PeerMessage}
use Rattle.obj_id.specs.declared.messages.PeerMessage.TheVariants.{Pull, Chunk, NotHere}
use Rattle.obj_id.specs.declared.messages.Arrival.{Arrival}
use Rattle.obj_id.specs.declared.messages.Arrival.TheVariants as arrival
use Rattle.obj_id.specs.declared.commands.Reply.{Reply}
use Rattle.private_store.specs.declared.inputs.Input.{Input}
use Rattle.private_store.specs.declared.inputs.Input.TheVariants.{Call, Arrive}
use Rattle.private_store.specs.rules.Tables.{ById}
use Rattle.private_store.specs.rules.Private.{Post, Outcome, Store, private_outcome, store_after, no_store}
use Rattle.private_store.specs.rules.Directory.{locations_after, directory_posts}

-- a message that was sent
pub record Sent : Type 0 where
  pub from : Endpoint
  pub to : Endpoint
  pub message : Message

pub record Cluster : Type 0 where
  -- by node
  pub stores : List Store
  pub locations : ById (List Location)
  -- all messages ever sent, oldest first
  pub sent : List Sent

-- what the job is given: an input at a node, or a message that it sent
pub data ClusterInput : Type 0 where
  at_node : (node : ℕ) → Input → ClusterInput
  deliver : (from to : Endpoint) (m : ℕ) (damage : Bool) → ClusterInput

-- ---- messages

abbrev pub same_place : Endpoint → Endpoint → Bool
same_place (Node a) (Node b) = a == b
same_place Directory Directory = true
same_place _ _ = false

abbrev pub messages_between : Endpoint → Endpoint → List Sent → List Message
messages_between from to sent =
    map (λ s. s.message) (filter (λ s. same_place from s.from && same_place to s.to) sent)

-- the m-th message ever sent from one place to the other, from 1
abbrev pub message_at : Cluster → Endpoint → Endpoint → ℕ → Option Message
message_at cluster from to zero = None
message_at cluster from to (suc m) = slice_get (messages_between from to cluster.sent) m

-- the low bit of the first byte is turned
abbrev pub damaged_bytes : List ℕ → List ℕ
damaged_bytes [] = []
damaged_bytes (byte ∷ bytes) = bit_xor byte 1 ∷ bytes

abbrev pub damaged_peer : PeerMessage → PeerMessage
damaged_peer (Pull id number n digest indexes) = Pull id number n digest indexes
damaged_peer (Chunk id number index bytes) = Chunk id number index (damaged_bytes bytes)
damaged_peer (NotHere id number) = NotHere id number

-- damage on the way shows in chunks alone
abbrev pub damaged : Message → Message
damaged (message.ToDirectory m) = message.ToDirectory m
damaged (message.Located id number entries) = message.Located id number entries
damaged (message.ToPeer m) = message.ToPeer (damaged_peer m)

abbrev pub posted : Endpoint → List Post → List Sent
posted from posts = map (λ post. record { from = from; to = post.0; message = post.1 }) posts

-- what a node makes of a message: the directory sends locations, and other nodes all else
abbrev pub arrival_of : Endpoint → Message → Option Arrival
arrival_of Directory (message.Located id number entries) = Some (arrival.Located id number entries)
arrival_of (Node from) (message.ToPeer m) = Some (arrival.FromPeer from m)
arrival_of _ _ = None

-- ---- the step

-- what one input does to the cluster
pub record ClusterOutcome : Type 0 where
  pub cluster : Cluster
  -- of an input at a node
  pub outcome : Option Outcome

abbrev pub unmoved : Cluster → ClusterOutcome
unmoved cluster = record { cluster = cluster; outcome = None }

abbrev pub moved_at : Cluster → ℕ → Store → Outcome → ClusterOutcome
moved_at cluster node store o =
    record {
      cluster = record cluster { stores = slice_set cluster.stores node (store_after store o); sent = cluster.sent ++ posted (Node node) o.posts };
      outcome = Some o;
    }

-- the node's store takes the input, and what it sends is sent
abbrev pub input_at : Cluster → ℕ → Input → ClusterOutcome
input_at cluster node x =
    option_map_or (λ store. moved_at cluster node store (private_outcome node store x)) (slice_get cluster.stores node) (unmoved cluster)

abbrev pub directory_told_of : Cluster → DirectoryMessage → ClusterOutcome
directory_told_of cluster m =
    unmoved (record cluster { locations = locations_after cluster.locations m; sent = cluster.sent ++ posted Directory (directory_posts cluster.locations m) })

abbrev pub handed_to_directory : Cluster → Message → ClusterOutcome
handed_to_directory cluster (message.ToDirectory m) = directory_told_of cluster m
handed_to_directory cluster _ = unmoved cluster

-- the message arrives
abbrev pub handed_over : Cluster → Endpoint → Endpoint → Message → ClusterOutcome
handed_over cluster from (Node node) m =
    option_map_or (λ a. input_at cluster node (Arrive a)) (arrival_of from m) (unmoved cluster)
handed_over cluster from Directory m = handed_to_directory cluster m

-- one input of the cluster
abbrev pub cluster_step : Cluster → ClusterInput → ClusterOutcome
cluster_step cluster (at_node node x) = input_at cluster node x
cluster_step cluster (deliver from to m damage) =
    option_map_or (λ message. handed_over cluster from to (if damage then damaged message else message)) (message_at cluster from to m) (unmoved cluster)

-- ---- over a list of inputs

-- a reply to a command, with its node and session
pub record Response : Type 0 where
  pub node : ℕ
  pub session : ℕ
  pub reply : Reply (List ℕ)

abbrev pub response : ClusterInput → ClusterOutcome → List Response
response (at_node node (Call session c)) o =
    option_map_or (λ outcome. record { node = node; session = session; reply = outcome.reply } ∷ []) o.outcome []
response _ o = []

abbrev pub cluster_from : Cluster → List ClusterInput → Cluster
cluster_from cluster [] = cluster
cluster_from cluster (x ∷ xs) = cluster_from (cluster_step cluster x).cluster xs

abbrev pub responses_from : Cluster → List ClusterInput → List Response
responses_from cluster [] = []
responses_from cluster (x ∷ xs) = let o = cluster_step cluster x in response x o ++ responses_from o.cluster xs

abbrev pub stores_of : ℕ → ℕ → List Store
stores_of job zero = []
stores_of job (suc nodes) = no_store job ∷ stores_of job nodes

-- the cluster of a job that was never admitted anywhere
abbrev pub no_cluster : ℕ → ℕ → Cluster
no_cluster job nodes = record { stores = stores_of job nodes; locations = []; sent = [] }

-- the private run: the replies of the job's private cluster to these inputs
abbrev pub private_run : ℕ → ℕ → List ClusterInput → List Response
private_run job nodes xs = responses_from (no_cluster job nodes) xs
