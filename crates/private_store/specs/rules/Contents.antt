-- The contents of one job's store, bytes and digests: what an input is once they were looked at, and
-- what they are after it.
use Rattle.std.specs.Prelude.{ℕ, ◌+◌, ◌-◌, ◌*◌, ◌==◌, min, Bool, true, false, not, ◌&&◌, if◌then◌else◌, List, [], ◌∷◌, ◌++◌, length, map, filter, find, take, drop, replicate, Option, Some, None, is_some, unwrap_or, option_map}
use Rattle.std.specs.Option.{option_map_or, option_and_then}
use Rattle.std.specs.Str.{bytes_eq}
use Rattle.sha2.specs.Sha256.{sha256}
use Rattle.obj_id.specs.declared.ids.ObjectId.{ObjectId}
use Rattle.obj_id.specs.declared.messages.Digest.{Digest}
use Rattle.obj_id.specs.declared.messages.Location.{Location}
use Rattle.obj_id.specs.declared.messages.PeerMessage.{PeerMessage}
use Rattle.obj_id.specs.declared.messages.PeerMessage.TheVariants as peer
use Rattle.obj_id.specs.declared.messages.Arrival.TheVariants as arrival
use Rattle.obj_id.specs.declared.commands.Command.{Command}
use Rattle.obj_id.specs.declared.commands.Command.TheVariants as command
use Rattle.obj_id.specs.declared.commands.Reply.{Reply}
use Rattle.obj_id.specs.declared.commands.Reply.TheVariants as reply
use Rattle.obj_id.specs.declared.works.DeviceAnswer.{DeviceAnswer}
use Rattle.obj_id.specs.declared.works.DeviceAnswer.TheVariants as device
use Rattle.private_store.specs.declared.inputs.Source.{Source}
use Rattle.private_store.specs.declared.inputs.WorkVerdict.{WorkVerdict}
use Rattle.private_store.specs.declared.inputs.WorkVerdict.TheVariants as work
use Rattle.private_store.specs.declared.inputs.ChunkVerdict.{ChunkVerdict}
use Rattle.private_store.specs.declared.inputs.ChunkVerdict.TheVariants as chunk
use Rattle.private_store.specs.declared.inputs.Input.{Input}
use Rattle.private_store.specs.declared.inputs.Input.TheVariants as input
use Rattle.private_store.specs.declared.inputs.Judged.{Judged}
use Rattle.private_store.specs.declared.inputs.Judged.TheVariants as judged
use Rattle.private_store.specs.rules.Limits.{chunk_size}
use Rattle.private_store.specs.rules.Tables.{ById, at, with_entry}
use Rattle.private_store.specs.rules.Shape.{Copy, Shape, Phase, locating, sized, pulling}
use Rattle.private_store.specs.rules.Copies.{was_sealed}
use Rattle.private_store.specs.rules.Events.{work_of, fetch_of, is_missing}

pub record Contents : Type 0 where
  -- of the resident copies
  pub bytes : ById (List ℕ)
  -- of the copies that were sealed, and of the fetches whose source is known
  pub digests : ById Digest
  -- of the objects that others granted
  pub received : ById (List ℕ)

-- a store as its node shows it: the order of use stands in place of stamps
pub record View : Type 0 where
  pub shape : Shape
  pub order : List ObjectId
  pub contents : Contents

abbrev pub bytes_at : ById (List ℕ) → ObjectId → List ℕ
bytes_at table id = unwrap_or (at table id) []

abbrev pub no_digest : Digest
no_digest = record { 0 = [] }

abbrev pub digest_at : ById Digest → ObjectId → Digest
digest_at table id = unwrap_or (at table id) no_digest

abbrev pub same_digest : Digest → Digest → Bool
same_digest a b = bytes_eq a.0 b.0

abbrev pub digest_of : List ℕ → Digest
digest_of bytes = record { 0 = sha256 bytes }

abbrev pub has_digest : List ℕ → Digest → Bool
has_digest bytes digest = same_digest (digest_of bytes) digest

-- the bytes with others in their place from the offset on
abbrev pub overwritten : List ℕ → ℕ → List ℕ → List ℕ
overwritten bytes offset new = take offset bytes ++ new ++ drop (offset + length new) bytes

-- ---- what is judged

-- the command, with the number of the bytes that it writes
abbrev pub without_payload : Command (List ℕ) → Command ℕ
without_payload (command.Create id kind n) = command.Create id kind n
without_payload (command.Write id offset bytes) = command.Write id offset (length bytes)
without_payload (command.Seal id) = command.Seal id
without_payload (command.Get id) = command.Get id
without_payload (command.Read id offset n) = command.Read id offset n
without_payload (command.Release id) = command.Release id
without_payload (command.Unpin id task) = command.Unpin id task
without_payload (command.Borrow id task) = command.Borrow id task
without_payload (command.GiveUp id task) = command.GiveUp id task
without_payload (command.Delete id) = command.Delete id
without_payload (command.EndTask task) = command.EndTask task
without_payload (command.Grant id target) = command.Grant id target
without_payload (command.Withdraw id target) = command.Withdraw id target
without_payload (command.Peek id offset n) = command.Peek id offset n
without_payload command.List = command.List
without_payload command.Usage = command.Usage
without_payload command.Leave = command.Leave

-- whether bytes that were read are the copy's own
abbrev pub is_read_back : View → ObjectId → List ℕ → Bool
is_read_back view id bytes =
    option_map_or (λ copy. length bytes == copy.length && has_digest bytes (digest_at view.contents.digests id)) (at view.shape.copies id) false

abbrev pub read_verdict : View → ObjectId → DeviceAnswer → WorkVerdict
read_verdict view id device.Done = work.Failed
read_verdict view id (device.Bytes bytes) = if is_read_back view id bytes then work.Fine else work.Damaged
read_verdict view id device.Failed = work.Failed

abbrev pub write_verdict : DeviceAnswer → WorkVerdict
write_verdict device.Failed = work.Failed
write_verdict _ = work.Fine

abbrev pub work_verdict : View → ℕ → DeviceAnswer → WorkVerdict
work_verdict view number answer =
    option_map_or (λ w. if w.writes then write_verdict answer else read_verdict view w.id answer) (work_of view.shape number) work.Failed

-- the bytes of the chunk of this index, in an object of n bytes
abbrev pub chunk_length : ℕ → ℕ → ℕ
chunk_length n index = min chunk_size (n - chunk_size * index)

-- the copy's bytes with the chunk in its place
abbrev pub with_chunk : View → ObjectId → ℕ → List ℕ → List ℕ
with_chunk view id index bytes = overwritten (bytes_at view.contents.bytes id) (chunk_size * index) bytes

-- a chunk that fills a gap: whether others are left, and else whether the digest is right
abbrev pub gap_verdict : View → ObjectId → ℕ → List ℕ → List ℕ → ChunkVerdict
gap_verdict view id index bytes [] =
    if has_digest (with_chunk view id index bytes) (digest_at view.contents.digests id) then chunk.Whole else chunk.Damaged
gap_verdict view id index bytes (_ ∷ _) = chunk.Part

abbrev pub pulled_verdict : View → ObjectId → ℕ → List ℕ → ℕ → Copy → Phase → ChunkVerdict
pulled_verdict view id index bytes from copy (pulling source missing) =
    if from == source && is_missing missing index && length bytes == chunk_length copy.length index
    then gap_verdict view id index bytes (filter (λ i. not (i == index)) missing)
    else chunk.Ignored
pulled_verdict view id index bytes from copy _ = chunk.Ignored

abbrev pub chunk_verdict : View → ObjectId → ℕ → ℕ → List ℕ → ℕ → ChunkVerdict
chunk_verdict view id number index bytes from =
    option_map_or (λ p. pulled_verdict view id index bytes from p.0 p.1.phase) (fetch_of view.shape id number) chunk.Ignored

-- whether a copy here was sealed with this length and digest, doomed or faulty as it may be
abbrev pub pull_matches : View → ObjectId → ℕ → Digest → Bool
pull_matches view id n digest =
    option_map_or (λ copy. was_sealed copy.state && copy.length == n && same_digest digest (digest_at view.contents.digests id)) (at view.shape.copies id) false

-- the first entry of another node
abbrev pub entry_elsewhere : ℕ → List Location → Option Location
entry_elsewhere node entries = find (λ entry. not (entry.node == node)) entries

abbrev pub source_in : ℕ → List Location → Option Source
source_in node entries =
    option_map (λ entry. record { node = entry.node; length = entry.length }) (entry_elsewhere node entries)

abbrev pub peer_arrival : View → ℕ → PeerMessage → Judged
peer_arrival view from (peer.Pull id number n digest indexes) = judged.Pull id number (pull_matches view id n digest)
peer_arrival view from (peer.Chunk id number index bytes) = judged.Chunk id number index from (chunk_verdict view id number index bytes from)
peer_arrival view from (peer.NotHere id number) = judged.NotHere id number from

-- the input at this node without its contents
abbrev pub judge : ℕ → View → Input → Judged
judge node view (input.Begin quota) = judged.Begin quota
judge node view (input.Requota quota) = judged.Requota quota
judge node view (input.Call session c) = judged.Call session (without_payload c)
judge node view (input.Answer number answer) = judged.Answer number (work_verdict view number answer)
judge node view (input.Arrive (arrival.Located id number entries)) = judged.Located id number (source_in node entries)
judge node view (input.Arrive (arrival.FromPeer from m)) = peer_arrival view from m
judge node view (input.Received id bytes grantor depth) = judged.Received id (length bytes) grantor depth
judge node view (input.Withdrawn id grantor depth) = judged.Withdrawn id grantor depth
judge node view input.End = judged.End

-- ---- what is kept

-- the bytes that the input brings for a copy of the job, if the store takes them
abbrev pub bytes_brought : View → Input → Judged → Reply ℕ → Option (ObjectId × List ℕ)
bytes_brought view (input.Call session (command.Write id offset bytes)) x reply.Ok = Some (id, overwritten (bytes_at view.contents.bytes id) offset bytes)
bytes_brought view (input.Answer number (device.Bytes bytes)) (judged.Answer _ work.Fine) response =
    option_and_then (λ w. if w.writes then None else Some (w.id, bytes)) (work_of view.shape number)
bytes_brought view (input.Arrive (arrival.FromPeer from (peer.Chunk id number index bytes))) (judged.Chunk _ _ _ _ chunk.Part) response =
    Some (id, with_chunk view id index bytes)
bytes_brought view (input.Arrive (arrival.FromPeer from (peer.Chunk id number index bytes))) (judged.Chunk _ _ _ _ chunk.Whole) response =
    Some (id, with_chunk view id index bytes)
bytes_brought view x y response = None

abbrev pub is_locating : Phase → Bool
is_locating locating = true
is_locating _ = false

-- the digest of a fetch whose source becomes known
abbrev pub digest_located : ℕ → View → ObjectId → ℕ → List Location → Option (ObjectId × Digest)
digest_located node view id number entries =
    option_and_then (λ p. if is_locating p.1.phase then option_map (λ entry. (id, entry.digest)) (entry_elsewhere node entries) else None)
    (fetch_of view.shape id number)

-- the digest that the input brings for a copy of the job, if the store takes it
abbrev pub digest_brought : ℕ → View → Input → Reply ℕ → Option (ObjectId × Digest)
digest_brought node view (input.Call session (command.Seal id)) reply.Ok = Some (id, digest_of (bytes_at view.contents.bytes id))
digest_brought node view (input.Arrive (arrival.Located id number entries)) response = digest_located node view id number entries
digest_brought node view x response = None

abbrev pub bytes_received : Input → Option (ObjectId × List ℕ)
bytes_received (input.Received id bytes grantor depth) = Some (id, bytes)
bytes_received _ = None

-- the table with what was brought
abbrev pub brought : {Y : Type 0} → ById Y → Option (ObjectId × Y) → ById Y
brought table o = option_map_or (λ e. with_entry table e.0 e.1) o table

abbrev pub is_sized : Phase → Bool
is_sized (sized _) = true
is_sized (pulling _ _) = true
is_sized _ = false

-- a fetch that failed has no digest any more
abbrev pub keeps_digest : Copy → Bool
keeps_digest copy = if was_sealed copy.state then true else option_map_or (λ fetch. is_sized fetch.phase) copy.fetch false

-- for the entries that pass the test, what the table has of them, or else the default
abbrev pub kept : {X Y : Type 0} → (X → Bool) → (X → Y) → ById Y → ById X → ById Y
kept test default table entries =
    map (λ e. (e.0, unwrap_or (at table e.0) (default e.1))) (filter (λ e. test e.1) entries)

-- each resident copy has its bytes, zeros where its extent is new, and each copy that was sealed, or
-- is fetched from a known source, its digest
abbrev pub contents_after : ℕ → View → Input → Judged → Reply ℕ → Shape → Contents
contents_after node view x y response after =
    record {
      bytes = kept (λ copy. is_some copy.offset) (λ copy. replicate copy.length 0) (brought view.contents.bytes (bytes_brought view x y response)) after.copies;
      digests = kept keeps_digest (λ copy. no_digest) (brought view.contents.digests (digest_brought node view x response)) after.copies;
      received = kept (λ seen. true) (λ seen. []) (brought view.contents.received (bytes_received x)) after.received;
    }

-- whether the input can bring the last bytes of a copy: a device answers, or a chunk comes
abbrev pub completes : Input → Bool
completes (input.Answer number answer) = true
completes (input.Arrive (arrival.FromPeer from (peer.Chunk id number index bytes))) = true
completes _ = false

-- ---- what is told

abbrev pub bytes_answered : View → Input → List ℕ
bytes_answered view (input.Call session (command.Read id offset n)) = take n (drop offset (bytes_at view.contents.bytes id))
bytes_answered view (input.Call session (command.Peek id offset n)) = take n (drop offset (bytes_at view.contents.received id))
bytes_answered view _ = []

-- the reply with its bytes; a store tells no one a work
abbrev pub whole_reply : View → Input → Reply ℕ → Reply (List ℕ)
whole_reply view x reply.Ok = reply.Ok
whole_reply view x (reply.Placed offset n) = reply.Placed offset n
whole_reply view x (reply.Got n) = reply.Got n
whole_reply view x (reply.Bytes n) = reply.Bytes (bytes_answered view x)
whole_reply view x (reply.List own granted) = reply.List own granted
whole_reply view x (reply.Usage usage) = reply.Usage usage
whole_reply view x (reply.Work work) = reply.NoWork
whole_reply view x reply.NoWork = reply.NoWork
whole_reply view x (reply.Refused refusal) = reply.Refused refusal
