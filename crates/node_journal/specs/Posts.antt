-- What a step sends, and what the directory makes of it.
use Rattle.std.specs.Prelude.{◌≡◌, ◌≢◌, ◌⊎◌, ◌++◌, ◌==◌, ◌&&◌, ℕ, Bool, false, List, [], Option, Some, None, IfSome, is_none, option_map}
use Rattle.std.specs.Option.{option_to_list, option_map_or}
use Rattle.std.specs.Vec.Iter.{into_iter_items}
use Rattle.obj_id.specs.declared.ids.JobNo.{JobNo}
use Rattle.obj_id.specs.Ids.{same_id}
use Rattle.obj_id.specs.declared.commands.Reply.{Reply}
use Rattle.obj_id.specs.declared.commands.Reply.TheVariants as reply
use Rattle.obj_id.specs.declared.messages.Arrival.{Arrival}
use Rattle.obj_id.specs.declared.messages.Arrival.TheVariants as arrival
use Rattle.obj_id.specs.declared.messages.PeerMessage.TheVariants as peer
use Rattle.obj_id.specs.declared.messages.Message.{Message}
use Rattle.obj_id.specs.declared.messages.Message.TheVariants as message
use Rattle.obj_id.specs.declared.messages.DirectoryMessage.{DirectoryMessage}
use Rattle.obj_id.specs.declared.messages.Endpoint.TheVariants as place
use Rattle.private_store.specs.declared.inputs.Judged.{Judged}
use Rattle.private_store.specs.declared.inputs.Judged.TheVariants as judged
use Rattle.private_store.specs.rules.Private.{Post}
use Rattle.private_store.specs.rules.Cluster.{arrival_of}
use Rattle.private_store.specs.rules.Directory.{directory_posts}
use Rattle.owner_directory.specs.Locations.{DirectoryRows, Applies, locations_of}
use Rattle.node_journal.specs.declared.posts.Mail.{Mail}
use Rattle.node_journal.specs.declared.posts.Posted.{Posted}

-- what is left of a mail
abbrev pub posts_left : {L : Type 0} → Mail L → List Post
posts_left mail = into_iter_items mail.rest

-- a posted message without where it comes from
abbrev pub post_of : {L : Type 0} → Posted L → Post
post_of posted = (posted.to, posted.message)

-- a mail gives its next message, as its sender's, or none is left
pub record DeliversPost {L : Type 0} (old : Mail L) (response : Option (Posted L)) (new : Mail L) : Type 0 where
  pub posts : posts_left old ≡ option_to_list (option_map post_of response) ++ posts_left new
  pub sender : IfSome response (λ p. (p.job ≡ old.job) × (p.from ≡ place.Node old.node) × (p.entry ≡ old.entry))
  pub same : (new.job ≡ old.job) × (new.node ≡ old.node) × (new.entry ≡ old.entry)

-- what a message tells the directory
abbrev pub directory_message_in : Message → Option DirectoryMessage
directory_message_in (message.ToDirectory m) = Some m
directory_message_in (message.Located id number entries) = None
directory_message_in (message.ToPeer m) = None

-- a message that isn't for the node of this number
abbrev pub IsAstray : {L : Type 0} → ℕ → Posted L → Type 0
IsAstray node posted = (posted.to ≢ place.Node node) ⊎ (arrival_of posted.from posted.message ≡ None)

-- a node makes something of the message
abbrev pub IsArrival : Option Arrival → Type 0
IsArrival o = (a : Arrival) × (o ≡ Some a)

-- whether a journal's word is of this message: of the same fetch, chunk and sender
abbrev pub is_post_of : Arrival → Judged → Bool
is_post_of (arrival.Located id number entries) (judged.Located i n source) = same_id id i && number == n
is_post_of (arrival.FromPeer from (peer.Pull id number size digest indexes)) (judged.Pull i n fits) = same_id id i && number == n
is_post_of (arrival.FromPeer from (peer.Chunk id number index bytes)) (judged.Chunk i n k f verdict) = same_id id i && (number == n && (index == k && from == f))
is_post_of (arrival.FromPeer from (peer.NotHere id number)) (judged.NotHere i n f) = same_id id i && (number == n && from == f)
is_post_of _ _ = false

-- whether the entry of a message with this answer has that word, or none if it is stale
abbrev pub is_entered : Arrival → Reply (List ℕ) → Option Judged → Bool
is_entered a reply.Ok was = option_map_or (is_post_of a) was false
is_entered a _ was = is_none was

-- a job's message passes through the directory, which answers it; one that isn't for it changes nothing
abbrev pub PassesOn : DirectoryRows → DirectoryRows → JobNo → Option DirectoryMessage → List Post → Type 0
PassesOn old new job (Some m) answers = Applies old new job m × (answers ≡ directory_posts (locations_of old job) m)
PassesOn old new job None answers = (new ≡ old) × (answers ≡ [])
