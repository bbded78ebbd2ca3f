-- Worked examples: spilling and restoring.
use Rattle.std.specs.Prelude.{List, [], ◌∷◌, refl, Some, None}
use Rattle.sha2.specs.Sha256.{sha256, hash_after, digest_bytes, compress, rounds, schedule, first_words}
use Rattle.obj_id.specs.declared.commands.Command.TheVariants.{Create, Write, Seal, Get, Read}
use Rattle.obj_id.specs.declared.commands.Command.TheVariants as command
use Rattle.obj_id.specs.declared.commands.Reply.TheVariants.{Placed, Got, Bytes, Refused}
use Rattle.obj_id.specs.declared.commands.Reply.TheVariants as reply
use Rattle.obj_id.specs.declared.refusals.Refusal.TheVariants.{Pending, DeviceFailed, Damaged, Busy, Stale}
use Rattle.obj_id.specs.declared.commands.Kind.TheVariants.{Primary}
use Rattle.obj_id.specs.declared.commands.CopyState.TheVariants.{Created, Sealed, Away}
use Rattle.obj_id.specs.declared.works.DeviceAnswer.TheVariants as device
use Rattle.obj_id.specs.declared.works.WorkKind.TheVariants as kind
use Rattle.private_store.specs.declared.schedules.Traced.{Traced}
use Rattle.private_store.specs.rules.Change.{checked, needing, sending, in_room}
use Rattle.private_store.specs.rules.Trace.{IsPrivate}
use Rattle.private_store.specs.rules.Shared.{AreSharedAnswers}
use Rattle.store_laws.proofs.ExampleWords.{zeros, object, admit, end, call, take, work, finish}

-- a sealed primary is spilled, and its room used
abbrev pub spilled : List Traced
spilled =
    admit 0 1 32 32 reply.Ok
    ∷ call 0 1 1 (Create (object 1 1 1) Primary 32) (Placed 0 32)
    ∷ call 0 1 1 (Seal (object 1 1 1)) reply.Ok
    ∷ call 0 1 1 (Create (object 1 1 2) Primary 16) (Refused Pending)
    ∷ call 0 1 1 (command.List) (reply.List (record { id = object 1 1 1; state = Sealed; kind = Primary; length = 32 } ∷ []) [])
    ∷ take 0 (work 1 1 kind.Write 1 32 (Some (zeros 32)))
    ∷ finish 0 1 1 device.Done reply.Ok
    ∷ call 0 1 1 (Create (object 1 1 2) Primary 16) (Placed 0 16)
    ∷ call 0 1 1 (command.List) (reply.List (record { id = object 1 1 1; state = Away; kind = Primary; length = 32 } ∷ record { id = object 1 1 2; state = Created; kind = Primary; length = 16 } ∷ []) [])
    ∷ call 0 1 1 (command.Usage) (reply.Usage (record { window = 32; window_used = 16; device = 32; device_used = 32; copies = 2; works = 0 }))
    ∷ []

pub spilled-job_1 : IsPrivate 1 1 spilled
unfolding checked needing sending in_room
spilled-job_1 = refl

pub spilled-shared : AreSharedAnswers 1 1048576 spilled
unfolding checked needing sending in_room
spilled-shared = refl

-- a spill that failed is answered once
abbrev pub failed_spill : List Traced
failed_spill =
    admit 0 1 32 32 reply.Ok
    ∷ call 0 1 1 (Create (object 1 1 1) Primary 32) (Placed 0 32)
    ∷ call 0 1 1 (Seal (object 1 1 1)) reply.Ok
    ∷ call 0 1 1 (Create (object 1 1 2) Primary 16) (Refused Pending)
    ∷ call 0 1 1 (command.List) (reply.List (record { id = object 1 1 1; state = Sealed; kind = Primary; length = 32 } ∷ []) [])
    ∷ take 0 (work 1 1 kind.Write 1 32 (Some (zeros 32)))
    ∷ finish 0 1 1 device.Failed reply.Ok
    ∷ call 0 1 1 (Create (object 1 1 2) Primary 16) (Refused DeviceFailed)
    ∷ call 0 1 1 (Create (object 1 1 2) Primary 16) (Refused Pending)
    ∷ take 0 (work 1 2 kind.Write 2 32 (Some (zeros 32)))
    ∷ []

pub failed_spill-job_1 : IsPrivate 1 1 failed_spill
unfolding checked needing sending in_room
failed_spill-job_1 = refl

pub failed_spill-shared : AreSharedAnswers 1 1048576 failed_spill
unfolding checked needing sending in_room
failed_spill-shared = refl

-- a restore that read other bytes is answered, and made again
abbrev pub damaged_restore : List Traced
damaged_restore =
    admit 0 1 32 64 reply.Ok
    ∷ call 0 1 1 (Create (object 1 1 1) Primary 32) (Placed 0 32)
    ∷ call 0 1 1 (Seal (object 1 1 1)) reply.Ok
    ∷ call 0 1 1 (Create (object 1 1 2) Primary 32) (Refused Pending)
    ∷ take 0 (work 1 1 kind.Write 1 32 (Some (zeros 32)))
    ∷ finish 0 1 1 device.Done reply.Ok
    ∷ call 0 1 1 (Create (object 1 1 2) Primary 32) (Placed 0 32)
    ∷ call 0 1 1 (Seal (object 1 1 2)) reply.Ok
    ∷ call 0 1 1 (Get (object 1 1 1)) (Refused Pending)
    ∷ take 0 (work 1 2 kind.Write 2 32 (Some (zeros 32)))
    ∷ finish 0 1 2 device.Done reply.Ok
    ∷ call 0 1 1 (Get (object 1 1 1)) (Refused Pending)
    ∷ take 0 (work 1 3 kind.Read 1 32 None)
    ∷ finish 0 1 3 (device.Bytes (1 ∷ zeros 31)) reply.Ok
    ∷ call 0 1 1 (Get (object 1 1 1)) (Refused Damaged)
    ∷ call 0 1 1 (Get (object 1 1 1)) (Refused Pending)
    ∷ take 0 (work 1 4 kind.Read 1 32 None)
    ∷ finish 0 1 4 (device.Bytes (zeros 32)) reply.Ok
    ∷ call 0 1 1 (Get (object 1 1 1)) (Got 32)
    ∷ []

pub damaged_restore-job_1 : IsPrivate 1 1 damaged_restore
unfolding checked needing sending in_room sha256 hash_after digest_bytes compress rounds schedule first_words
damaged_restore-job_1 = refl

pub damaged_restore-shared : AreSharedAnswers 1 1048576 damaged_restore
unfolding checked needing sending in_room sha256 hash_after digest_bytes compress rounds schedule first_words
damaged_restore-shared = refl

-- a device answer for a job that has ended is stale
abbrev pub late_answer : List Traced
late_answer =
    admit 0 1 32 32 reply.Ok
    ∷ call 0 1 1 (Create (object 1 1 1) Primary 32) (Placed 0 32)
    ∷ call 0 1 1 (Write (object 1 1 1) 0 (255 ∷ 255 ∷ 255 ∷ 255 ∷ [])) reply.Ok
    ∷ call 0 1 1 (Seal (object 1 1 1)) reply.Ok
    ∷ call 0 1 1 (Create (object 1 1 2) Primary 32) (Refused Pending)
    ∷ take 0 (work 1 1 kind.Write 1 32 (Some (255 ∷ 255 ∷ 255 ∷ 255 ∷ zeros 28)))
    ∷ end 0 1 reply.Ok
    ∷ admit 0 2 32 0 reply.Ok
    ∷ call 0 2 1 (Create (object 2 1 1) Primary 32) (Placed 0 32)
    ∷ finish 0 1 1 device.Done (Refused Stale)
    ∷ call 0 2 1 (Seal (object 2 1 1)) reply.Ok
    ∷ call 0 2 1 (Get (object 2 1 1)) (Got 32)
    ∷ call 0 2 1 (Read (object 2 1 1) 0 4) (Bytes (zeros 4))
    ∷ []

pub late_answer-job_1 : IsPrivate 1 1 late_answer
unfolding checked needing sending in_room
late_answer-job_1 = refl

pub late_answer-job_2 : IsPrivate 1 2 late_answer
unfolding checked needing sending in_room
late_answer-job_2 = refl

pub late_answer-shared : AreSharedAnswers 1 32 late_answer
unfolding checked needing sending in_room
late_answer-shared = refl

-- at most eight works are in flight, and all of the copies must fit the device quota
abbrev pub eight_works : List Traced
eight_works =
    admit 0 1 144 144 reply.Ok
    ∷ call 0 1 1 (Create (object 1 1 1) Primary 16) (Placed 0 16)
    ∷ call 0 1 1 (Seal (object 1 1 1)) reply.Ok
    ∷ call 0 1 1 (Create (object 1 1 2) Primary 16) (Placed 16 16)
    ∷ call 0 1 1 (Seal (object 1 1 2)) reply.Ok
    ∷ call 0 1 1 (Create (object 1 1 3) Primary 16) (Placed 32 16)
    ∷ call 0 1 1 (Seal (object 1 1 3)) reply.Ok
    ∷ call 0 1 1 (Create (object 1 1 4) Primary 16) (Placed 48 16)
    ∷ call 0 1 1 (Seal (object 1 1 4)) reply.Ok
    ∷ call 0 1 1 (Create (object 1 1 5) Primary 16) (Placed 64 16)
    ∷ call 0 1 1 (Seal (object 1 1 5)) reply.Ok
    ∷ call 0 1 1 (Create (object 1 1 6) Primary 16) (Placed 80 16)
    ∷ call 0 1 1 (Seal (object 1 1 6)) reply.Ok
    ∷ call 0 1 1 (Create (object 1 1 7) Primary 16) (Placed 96 16)
    ∷ call 0 1 1 (Seal (object 1 1 7)) reply.Ok
    ∷ call 0 1 1 (Create (object 1 1 8) Primary 16) (Placed 112 16)
    ∷ call 0 1 1 (Seal (object 1 1 8)) reply.Ok
    ∷ call 0 1 1 (Create (object 1 1 9) Primary 16) (Placed 128 16)
    ∷ call 0 1 1 (Seal (object 1 1 9)) reply.Ok
    ∷ call 0 1 1 (Create (object 1 1 10) Primary 144) (Refused Pending)
    ∷ call 0 1 1 (Create (object 1 1 10) Primary 144) (Refused Busy)
    ∷ call 0 1 1 (command.Usage) (reply.Usage (record { window = 144; window_used = 144; device = 144; device_used = 128; copies = 9; works = 8 }))
    ∷ take 0 (work 1 1 kind.Write 1 16 (Some (zeros 16)))
    ∷ finish 0 1 1 device.Done reply.Ok
    ∷ call 0 1 1 (Create (object 1 1 10) Primary 144) (Refused Pending)
    ∷ call 0 1 1 (command.Usage) (reply.Usage (record { window = 144; window_used = 144; device = 144; device_used = 144; copies = 9; works = 8 }))
    ∷ []

pub eight_works-job_1 : IsPrivate 1 1 eight_works
unfolding checked needing sending in_room
eight_works-job_1 = refl

pub eight_works-shared : AreSharedAnswers 1 1048576 eight_works
unfolding checked needing sending in_room
eight_works-shared = refl
