-- Worked examples: fetches between nodes.
use Rattle.std.specs.Prelude.{◌≡◌, List, [], ◌∷◌, Some, refl, true, false}
use Rattle.sha2.specs.Sha256.{sha256, hash_after, digest_bytes, compress, rounds, schedule, first_words}
use Rattle.obj_id.specs.declared.commands.Command.TheVariants.{Create, Write, Seal, Get, Read, Delete}
use Rattle.obj_id.specs.declared.commands.Command.TheVariants as command
use Rattle.obj_id.specs.declared.commands.Reply.TheVariants.{Placed, Got, Bytes, Refused}
use Rattle.obj_id.specs.declared.commands.Reply.TheVariants as reply
use Rattle.obj_id.specs.declared.refusals.Refusal.TheVariants.{Absent, Pending, Damaged, Stale}
use Rattle.obj_id.specs.declared.commands.Kind.TheVariants.{Primary}
use Rattle.obj_id.specs.declared.messages.Endpoint.TheVariants.{Node, Directory}
use Rattle.obj_id.specs.declared.messages.Message.TheVariants.{ToDirectory, Located, ToPeer}
use Rattle.obj_id.specs.declared.messages.DirectoryMessage.TheVariants.{AddLocation, Locate}
use Rattle.obj_id.specs.declared.messages.PeerMessage.TheVariants.{Pull, Chunk, NotHere}
use Rattle.private_store.specs.declared.schedules.StepAnswer.TheVariants.{Response, HandedOver, NoMessage}
use Rattle.private_store.specs.declared.inputs.ChunkVerdict.TheVariants.{Part, Whole, Ignored}
use Rattle.private_store.specs.declared.inputs.Judged.{Judged}
use Rattle.private_store.specs.declared.inputs.Judged.TheVariants.{Begin, Call}
use Rattle.private_store.specs.declared.inputs.Judged.TheVariants as judged
use Rattle.private_store.specs.declared.schedules.Traced.{Traced}
use Rattle.private_store.specs.rules.Change.{checked, needing, sending, in_room}
use Rattle.private_store.specs.rules.Contents.{digest_of}
use Rattle.private_store.specs.rules.Replay.{unbegun_replay, answers_due}
use Rattle.private_store.specs.rules.Trace.{IsPrivate}
use Rattle.private_store.specs.rules.Shared.{AreSharedAnswers}
use Rattle.store_laws.proofs.ExampleWords.{zeros, object, admit, end, call, deliver}

-- an object is fetched from the node that has it
abbrev pub fetched : List Traced
fetched =
    admit 0 1 64 0 reply.Ok
    ∷ admit 1 1 64 0 reply.Ok
    ∷ call 0 1 1 (Create (object 1 1 1) Primary 20) (Placed 0 32)
    ∷ call 0 1 1 (Write (object 1 1 1) 19 (122 ∷ [])) reply.Ok
    ∷ call 0 1 1 (Seal (object 1 1 1)) reply.Ok
    ∷ deliver 1 (Node 0) Directory 1 false (HandedOver (ToDirectory (AddLocation (object 1 1 1) (record { node = 0; length = 20; digest = digest_of (0 ∷ 0 ∷ 0 ∷ 0 ∷ 0 ∷ 0 ∷ 0 ∷ 0 ∷ 0 ∷ 0 ∷ 0 ∷ 0 ∷ 0 ∷ 0 ∷ 0 ∷ 0 ∷ 0 ∷ 0 ∷ 0 ∷ 122 ∷ []) }))))
    ∷ call 1 1 1 (Get (object 1 1 1)) (Refused Pending)
    ∷ deliver 1 (Node 1) Directory 1 false (HandedOver (ToDirectory (Locate (object 1 1 1) 1 1)))
    ∷ deliver 1 Directory (Node 1) 1 false (HandedOver (Located (object 1 1 1) 1 (record { node = 0; length = 20; digest = digest_of (0 ∷ 0 ∷ 0 ∷ 0 ∷ 0 ∷ 0 ∷ 0 ∷ 0 ∷ 0 ∷ 0 ∷ 0 ∷ 0 ∷ 0 ∷ 0 ∷ 0 ∷ 0 ∷ 0 ∷ 0 ∷ 0 ∷ 122 ∷ []) } ∷ [])))
    ∷ call 1 1 1 (Get (object 1 1 1)) (Refused Pending)
    ∷ deliver 1 (Node 1) (Node 0) 1 false (HandedOver (ToPeer (Pull (object 1 1 1) 1 20 (digest_of (0 ∷ 0 ∷ 0 ∷ 0 ∷ 0 ∷ 0 ∷ 0 ∷ 0 ∷ 0 ∷ 0 ∷ 0 ∷ 0 ∷ 0 ∷ 0 ∷ 0 ∷ 0 ∷ 0 ∷ 0 ∷ 0 ∷ 122 ∷ [])) (0 ∷ []))))
    ∷ deliver 1 (Node 0) (Node 1) 1 false (HandedOver (ToPeer (Chunk (object 1 1 1) 1 0 (0 ∷ 0 ∷ 0 ∷ 0 ∷ 0 ∷ 0 ∷ 0 ∷ 0 ∷ 0 ∷ 0 ∷ 0 ∷ 0 ∷ 0 ∷ 0 ∷ 0 ∷ 0 ∷ 0 ∷ 0 ∷ 0 ∷ 122 ∷ []))))
    ∷ call 1 1 1 (Get (object 1 1 1)) (Got 20)
    ∷ call 1 1 1 (Read (object 1 1 1) 19 1) (Bytes (122 ∷ []))
    ∷ []

pub fetched-job_1 : IsPrivate 2 1 fetched
unfolding checked needing sending in_room sha256 hash_after digest_bytes compress rounds schedule first_words
fetched-job_1 = refl

pub fetched-shared : AreSharedAnswers 2 1048576 fetched
unfolding checked needing sending in_room sha256 hash_after digest_bytes compress rounds schedule first_words
fetched-shared = refl

-- a fetch that got other bytes is answered, and made again
abbrev pub damaged_fetch : List Traced
damaged_fetch =
    admit 0 1 64 0 reply.Ok
    ∷ admit 1 1 64 0 reply.Ok
    ∷ call 0 1 1 (Create (object 1 1 1) Primary 20) (Placed 0 32)
    ∷ call 0 1 1 (Write (object 1 1 1) 19 (122 ∷ [])) reply.Ok
    ∷ call 0 1 1 (Seal (object 1 1 1)) reply.Ok
    ∷ deliver 1 (Node 0) Directory 1 false (HandedOver (ToDirectory (AddLocation (object 1 1 1) (record { node = 0; length = 20; digest = digest_of (0 ∷ 0 ∷ 0 ∷ 0 ∷ 0 ∷ 0 ∷ 0 ∷ 0 ∷ 0 ∷ 0 ∷ 0 ∷ 0 ∷ 0 ∷ 0 ∷ 0 ∷ 0 ∷ 0 ∷ 0 ∷ 0 ∷ 122 ∷ []) }))))
    ∷ call 1 1 1 (Get (object 1 1 1)) (Refused Pending)
    ∷ deliver 1 (Node 1) Directory 1 false (HandedOver (ToDirectory (Locate (object 1 1 1) 1 1)))
    ∷ deliver 1 Directory (Node 1) 1 false (HandedOver (Located (object 1 1 1) 1 (record { node = 0; length = 20; digest = digest_of (0 ∷ 0 ∷ 0 ∷ 0 ∷ 0 ∷ 0 ∷ 0 ∷ 0 ∷ 0 ∷ 0 ∷ 0 ∷ 0 ∷ 0 ∷ 0 ∷ 0 ∷ 0 ∷ 0 ∷ 0 ∷ 0 ∷ 122 ∷ []) } ∷ [])))
    ∷ call 1 1 1 (Get (object 1 1 1)) (Refused Pending)
    ∷ deliver 1 (Node 1) (Node 0) 1 false (HandedOver (ToPeer (Pull (object 1 1 1) 1 20 (digest_of (0 ∷ 0 ∷ 0 ∷ 0 ∷ 0 ∷ 0 ∷ 0 ∷ 0 ∷ 0 ∷ 0 ∷ 0 ∷ 0 ∷ 0 ∷ 0 ∷ 0 ∷ 0 ∷ 0 ∷ 0 ∷ 0 ∷ 122 ∷ [])) (0 ∷ []))))
    ∷ deliver 1 (Node 0) (Node 1) 1 true (HandedOver (ToPeer (Chunk (object 1 1 1) 1 0 (1 ∷ 0 ∷ 0 ∷ 0 ∷ 0 ∷ 0 ∷ 0 ∷ 0 ∷ 0 ∷ 0 ∷ 0 ∷ 0 ∷ 0 ∷ 0 ∷ 0 ∷ 0 ∷ 0 ∷ 0 ∷ 0 ∷ 122 ∷ []))))
    ∷ call 1 1 1 (Get (object 1 1 1)) (Refused Damaged)
    ∷ call 1 1 1 (Get (object 1 1 1)) (Refused Pending)
    ∷ []

pub damaged_fetch-job_1 : IsPrivate 2 1 damaged_fetch
unfolding checked needing sending in_room sha256 hash_after digest_bytes compress rounds schedule first_words
damaged_fetch-job_1 = refl

pub damaged_fetch-shared : AreSharedAnswers 2 1048576 damaged_fetch
unfolding checked needing sending in_room sha256 hash_after digest_bytes compress rounds schedule first_words
damaged_fetch-shared = refl

-- an object that is nowhere
abbrev pub nothing_to_fetch : List Traced
nothing_to_fetch =
    admit 0 1 64 0 reply.Ok
    ∷ call 0 1 1 (Get (object 1 9 9)) (Refused Pending)
    ∷ deliver 1 (Node 0) Directory 1 false (HandedOver (ToDirectory (Locate (object 1 9 9) 0 1)))
    ∷ deliver 1 Directory (Node 0) 1 false (HandedOver (Located (object 1 9 9) 1 []))
    ∷ deliver 1 Directory (Node 0) 2 false NoMessage
    ∷ call 0 1 1 (Get (object 1 9 9)) (Refused Absent)
    ∷ []

pub nothing_to_fetch-job_1 : IsPrivate 1 1 nothing_to_fetch
unfolding checked needing sending in_room
nothing_to_fetch-job_1 = refl

pub nothing_to_fetch-shared : AreSharedAnswers 1 1048576 nothing_to_fetch
unfolding checked needing sending in_room
nothing_to_fetch-shared = refl

-- an object that its source has no longer
abbrev pub gone_at_the_source : List Traced
gone_at_the_source =
    admit 0 1 64 0 reply.Ok
    ∷ admit 1 1 64 0 reply.Ok
    ∷ call 0 1 1 (Create (object 1 1 1) Primary 16) (Placed 0 16)
    ∷ call 0 1 1 (Seal (object 1 1 1)) reply.Ok
    ∷ deliver 1 (Node 0) Directory 1 false (HandedOver (ToDirectory (AddLocation (object 1 1 1) (record { node = 0; length = 16; digest = digest_of (zeros 16) }))))
    ∷ call 0 1 1 (Delete (object 1 1 1)) reply.Ok
    ∷ call 1 1 1 (Get (object 1 1 1)) (Refused Pending)
    ∷ deliver 1 (Node 1) Directory 1 false (HandedOver (ToDirectory (Locate (object 1 1 1) 1 1)))
    ∷ deliver 1 Directory (Node 1) 1 false (HandedOver (Located (object 1 1 1) 1 (record { node = 0; length = 16; digest = digest_of (zeros 16) } ∷ [])))
    ∷ call 1 1 1 (Get (object 1 1 1)) (Refused Pending)
    ∷ deliver 1 (Node 1) (Node 0) 1 false (HandedOver (ToPeer (Pull (object 1 1 1) 1 16 (digest_of (zeros 16)) (0 ∷ []))))
    ∷ deliver 1 (Node 0) (Node 1) 1 false (HandedOver (ToPeer (NotHere (object 1 1 1) 1)))
    ∷ call 1 1 1 (Get (object 1 1 1)) (Refused Absent)
    ∷ call 1 1 1 (command.Usage) (reply.Usage (record { window = 64; window_used = 0; device = 0; device_used = 0; copies = 0; works = 0 }))
    ∷ end 1 1 reply.Ok
    ∷ deliver 1 (Node 0) (Node 1) 1 false (Response (Refused Stale))
    ∷ []

pub gone_at_the_source-job_1 : IsPrivate 2 1 gone_at_the_source
unfolding checked needing sending in_room
gone_at_the_source-job_1 = refl

pub gone_at_the_source-shared : AreSharedAnswers 2 1048576 gone_at_the_source
unfolding checked needing sending in_room
gone_at_the_source-shared = refl

-- an object of two chunks, without its bytes: the second chunk comes first, and again; the first is asked
-- for anew. What the two nodes' stores answer
abbrev serving : List Judged
serving =
    Begin (record { window = 131072; device = 0 })
    ∷ Call 1 (Create (object 1 1 1) Primary 65537)
    ∷ Call 1 (Write (object 1 1 1) 65536 1)
    ∷ Call 1 (Seal (object 1 1 1))
    ∷ judged.Pull (object 1 1 1) 1 true
    ∷ judged.Pull (object 1 1 1) 1 true
    ∷ []

pub two_chunks-served : answers_due (unbegun_replay 1) serving ≡ reply.Ok ∷ Placed 0 65552 ∷ reply.Ok ∷ reply.Ok ∷ reply.Ok ∷ reply.Ok ∷ []
unfolding checked needing sending in_room
two_chunks-served = refl

abbrev fetching : List Judged
fetching =
    Begin (record { window = 131072; device = 0 })
    ∷ Call 1 (Get (object 1 1 1))
    ∷ judged.Located (object 1 1 1) 1 (Some (record { node = 0; length = 65537 }))
    ∷ Call 1 (Get (object 1 1 1))
    ∷ judged.Chunk (object 1 1 1) 1 1 0 Part
    ∷ Call 1 (Get (object 1 1 1))
    ∷ judged.Chunk (object 1 1 1) 1 1 0 Ignored
    ∷ judged.Chunk (object 1 1 1) 1 0 0 Whole
    ∷ Call 1 (Get (object 1 1 1))
    ∷ Call 1 (Read (object 1 1 1) 65536 1)
    ∷ []

pub two_chunks-fetched : answers_due (unbegun_replay 1) fetching
    ≡ reply.Ok
    ∷ Refused Pending
    ∷ reply.Ok
    ∷ Refused Pending
    ∷ reply.Ok
    ∷ Refused Pending
    ∷ reply.Ok
    ∷ reply.Ok
    ∷ Got 65537
    ∷ reply.Bytes 1
    ∷ []
unfolding checked needing sending in_room
two_chunks-fetched = refl
