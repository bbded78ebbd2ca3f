-- The private store of one job at one node, and what one input does to it.
use Rattle.std.specs.Prelude.{ℕ, ◌+◌, ◌*◌, nat_lt, if◌then◌else◌, List, [], ◌∷◌, map, filter, flat_map, take, drop, Option, unwrap_or}
use Rattle.std.specs.Option.{option_map_or}
use Rattle.obj_id.specs.declared.ids.ObjectId.{ObjectId}
use Rattle.obj_id.specs.declared.works.DeviceKey.{DeviceKey}
use Rattle.obj_id.specs.declared.messages.Endpoint.{Endpoint}
use Rattle.obj_id.specs.declared.messages.Endpoint.TheVariants.{Node, Directory}
use Rattle.obj_id.specs.declared.messages.Message.{Message}
use Rattle.obj_id.specs.declared.messages.Message.TheVariants.{ToDirectory, ToPeer}
use Rattle.obj_id.specs.declared.messages.DirectoryMessage.{DirectoryMessage}
use Rattle.obj_id.specs.declared.messages.DirectoryMessage.TheVariants.{AddLocation, RemoveLocation, Free, EndJob, Locate}
use Rattle.obj_id.specs.declared.messages.PeerMessage.{PeerMessage}
use Rattle.obj_id.specs.declared.messages.PeerMessage.TheVariants.{Pull, Chunk, NotHere}
use Rattle.obj_id.specs.declared.messages.Arrival.TheVariants.{FromPeer}
use Rattle.obj_id.specs.declared.commands.Reply.{Reply}
use Rattle.private_store.specs.declared.inputs.Input.{Input}
use Rattle.private_store.specs.declared.inputs.Input.TheVariants.{Arrive}
use Rattle.private_store.specs.declared.inputs.Judged.{Judged}
use Rattle.private_store.specs.rules.Limits.{chunk_size}
use Rattle.private_store.specs.rules.Tables.{ById, at}
use Rattle.private_store.specs.rules.Shape.{Copy, Shape, Change, WorkInFlight, Fetch, Phase, pulling, Sending, add_location, remove_location, remove_source, free, end_job, locate, pull, chunks, not_here, unbegun}
use Rattle.private_store.specs.rules.Step.{step, order_after, is_used}
use Rattle.private_store.specs.rules.Contents.{Contents, View, bytes_at, digest_at, judge, contents_after, whole_reply, chunk_length}

-- ---- messages

-- a message, with the place that it is sent to
abbrev pub Post : Type 0
Post = Endpoint × Message

abbrev pub to_directory : DirectoryMessage → List Post
to_directory m = (Directory, ToDirectory m) ∷ []

abbrev pub to_peer : ℕ → PeerMessage → Post
to_peer node m = (Node node, ToPeer m)

-- one chunk of a copy of n bytes
abbrev pub chunk_of : List ℕ → ObjectId → ℕ → ℕ → ℕ → PeerMessage
chunk_of bytes id number n index = Chunk id number index (take (chunk_length n index) (drop (chunk_size * index) bytes))

-- the chunks that were asked for and that there are, in the order asked
abbrev pub chunks_asked : List ℕ → ObjectId → ℕ → ℕ → List ℕ → List PeerMessage
chunks_asked bytes id number n indexes = map (chunk_of bytes id number n) (filter (λ index. nat_lt (chunk_size * index) n) indexes)

-- the answer to a Pull, in chunks
abbrev pub chunk_posts : View → Input → List Post
chunk_posts view (Arrive (FromPeer from (Pull id number n digest indexes))) =
    map (to_peer from) (chunks_asked (bytes_at view.contents.bytes id) id number n indexes)
chunk_posts view _ = []

abbrev pub not_here_posts : Input → List Post
not_here_posts (Arrive (FromPeer from (Pull id number n digest indexes))) = to_peer from (NotHere id number) ∷ []
not_here_posts _ = []

-- a Pull for what is missing, to the fetch's source
abbrev pub pull_of : View → ObjectId → Copy → Fetch → Phase → List Post
pull_of view id copy fetch (pulling source missing) =
    to_peer source (Pull id fetch.number copy.length (digest_at view.contents.digests id) missing) ∷ []
pull_of view id copy fetch _ = []

abbrev pub pull_posts : View → ObjectId → List Post
pull_posts view id =
    option_map_or (λ copy. option_map_or (λ fetch. pull_of view id copy fetch fetch.phase) copy.fetch []) (at view.shape.copies id) []

abbrev pub length_at : Shape → ObjectId → ℕ
length_at store id = option_map_or (λ copy. copy.length) (at store.copies id) 0

-- the messages, by the node, the store after the step, and the input
abbrev pub posts_of : ℕ → View → Input → Sending → List Post
posts_of node view x (add_location id) =
    to_directory (AddLocation id (record { node = node; length = length_at view.shape id; digest = digest_at view.contents.digests id }))
posts_of node view x (remove_location id) = to_directory (RemoveLocation id node)
posts_of node view x (remove_source id source) = to_directory (RemoveLocation id source)
posts_of node view x (free id) = to_directory (Free id)
posts_of node view x end_job = to_directory (EndJob node)
posts_of node view x (locate id number) = to_directory (Locate id node number)
posts_of node view x (pull id) = pull_posts view id
posts_of node view x (chunks id) = chunk_posts view x
posts_of node view x (not_here id) = not_here_posts x

-- ---- the step

abbrev pub key_of : ℕ → ℕ → DeviceKey
key_of job number = record { job = record { 0 = job }; number = number }

-- the works that the step asked for
abbrev pub new_works : Shape → Shape → List WorkInFlight
new_works before after = filter (λ work. nat_lt before.works_asked work.number) after.works

-- what one input does to a store as its node shows it
pub record Outcome : Type 0 where
  pub view : View
  pub reply : Reply (List ℕ)
  pub posts : List Post
  pub works : List WorkInFlight
  pub erased : List DeviceKey
  -- the copy that it made most recently used
  pub used : Option ObjectId

abbrev pub view_after : ℕ → View → Input → Judged → Change → View
view_after node view x y c =
    record { shape = c.shape; order = order_after view.order c; contents = contents_after node view x y c.reply c.shape }

abbrev pub outcome : ℕ → View → Input → Judged → Change → Outcome
outcome node view x y c =
    let after = view_after node view x y c in
    record {
      view = after;
      reply = whole_reply view x c.reply;
      posts = flat_map (posts_of node after x) c.sent;
      works = new_works view.shape c.shape;
      erased = map (key_of view.shape.job) c.erased;
      used = c.used;
    }

-- the step of a store as its node shows it: judge the input, step without contents, fill them in
abbrev pub view_step : ℕ → View → Input → Outcome
view_step node view x = let y = judge node view x in outcome node view x y (step view.order view.shape y)

-- ---- with stamps

-- the private store: each copy's stamp is the count of inputs when it was last made most recently used
pub record Store : Type 0 where
  pub shape : Shape
  pub contents : Contents
  pub stamps : ById ℕ
  pub count : ℕ

-- an entry among others by rising stamp
abbrev pub placed : {K : Type 0} → K × ℕ → List (K × ℕ) → List (K × ℕ)
placed e [] = e ∷ []
placed e (f ∷ fs) = if nat_lt e.1 f.1 then e ∷ f ∷ fs else f ∷ placed e fs

abbrev pub stamps_sorted : {K : Type 0} → List (K × ℕ) → List (K × ℕ)
stamps_sorted [] = []
stamps_sorted (e ∷ es) = placed e (stamps_sorted es)

-- the order of use: by rising stamp
abbrev pub by_stamp : ById ℕ → List ObjectId
by_stamp stamps = map (λ e. e.0) (stamps_sorted stamps)

abbrev pub view_of : Store → View
view_of store = record { shape = store.shape; order = by_stamp store.stamps; contents = store.contents }

-- what was used has the count as its stamp, and the other copies keep theirs
abbrev pub restamped : {X : Type 0} → ℕ → Option ObjectId → ById ℕ → ById X → ById ℕ
restamped count used stamps copies =
    map (λ e. (e.0, if is_used used e.0 then count else unwrap_or (at stamps e.0) 0)) copies

abbrev pub stamps_after : Store → Outcome → ById ℕ
stamps_after store o = restamped store.count o.used store.stamps o.view.shape.copies

abbrev pub store_after : Store → Outcome → Store
store_after store o =
    record { shape = o.view.shape; contents = o.view.contents; stamps = stamps_after store o; count = store.count + 1 }

-- what one input does to the private store at a node: reply, messages, works and erased keys
abbrev pub private_outcome : ℕ → Store → Input → Outcome
private_outcome node store x = view_step node (view_of store) x

-- the private step: the store after one input
abbrev pub private_step : ℕ → Store → Input → Store
private_step node store x = store_after store (private_outcome node store x)

-- ---- over a list of inputs

abbrev pub no_contents : Contents
no_contents = record { bytes = []; digests = []; received = [] }

-- the private store of a job that was never admitted
abbrev pub no_store : ℕ → Store
no_store job = record { shape = unbegun job; contents = no_contents; stamps = []; count = 0 }

abbrev pub store_from : ℕ → Store → List Input → Store
store_from node store [] = store
store_from node store (x ∷ xs) = store_from node (private_step node store x) xs

abbrev pub private_replies : ℕ → Store → List Input → List (Reply (List ℕ))
private_replies node store [] = []
private_replies node store (x ∷ xs) =
    let o = private_outcome node store x in
    o.reply ∷ private_replies node (store_after store o) xs

-- the same as a node shows it
abbrev pub view_from : ℕ → View → List Input → View
view_from node view [] = view
view_from node view (x ∷ xs) = view_from node (view_step node view x).view xs

abbrev pub view_replies : ℕ → View → List Input → List (Reply (List ℕ))
view_replies node view [] = []
view_replies node view (x ∷ xs) =
    let o = view_step node view x in
    o.reply ∷ view_replies node o.view xs
