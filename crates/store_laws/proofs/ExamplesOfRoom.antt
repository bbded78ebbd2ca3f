-- Worked examples: windows, first fit, evictions, and what neighbours never show.
use Rattle.std.specs.Prelude.{List, [], ◌∷◌, refl}
use Rattle.obj_id.specs.declared.commands.Command.TheVariants.{Create, Write, Seal, Get, Read, Release, Delete}
use Rattle.obj_id.specs.declared.commands.Command.TheVariants as command
use Rattle.obj_id.specs.declared.commands.Reply.TheVariants.{Placed, Got, Bytes, Refused}
use Rattle.obj_id.specs.declared.commands.Reply.TheVariants as reply
use Rattle.obj_id.specs.declared.refusals.Refusal.TheVariants.{BadSize, Full, NoRoom}
use Rattle.obj_id.specs.declared.commands.Kind.TheVariants.{Primary, Secondary}
use Rattle.obj_id.specs.declared.commands.CopyState.TheVariants.{Created, Sealed}
use Rattle.private_store.specs.declared.schedules.Traced.{Traced}
use Rattle.private_store.specs.rules.Change.{checked, needing, sending, in_room}
use Rattle.private_store.specs.rules.Trace.{IsPrivate}
use Rattle.private_store.specs.rules.Shared.{AreSharedAnswers}
use Rattle.store_laws.proofs.ExampleWords.{zeros, object, admit, end, call}

-- one object is created, written, sealed, held, read and released
abbrev pub first_object : List Traced
first_object =
    admit 0 1 64 0 reply.Ok
    ∷ call 0 1 1 (Create (object 1 1 1) Primary 20) (Placed 0 32)
    ∷ call 0 1 1 (Write (object 1 1 1) 0 (72 ∷ 101 ∷ 108 ∷ 108 ∷ 111 ∷ [])) reply.Ok
    ∷ call 0 1 1 (Seal (object 1 1 1)) reply.Ok
    ∷ call 0 1 1 (Get (object 1 1 1)) (Got 20)
    ∷ call 0 1 1 (Read (object 1 1 1) 0 20) (Bytes (72 ∷ 101 ∷ 108 ∷ 108 ∷ 111 ∷ zeros 15))
    ∷ call 0 1 1 (Release (object 1 1 1)) reply.Ok
    ∷ []

pub first_object-job_1 : IsPrivate 1 1 first_object
unfolding checked needing sending in_room
first_object-job_1 = refl

pub first_object-shared : AreSharedAnswers 1 1048576 first_object
unfolding checked needing sending in_room
first_object-shared = refl

-- lengths that no object of the window has
abbrev pub refused_sizes : List Traced
refused_sizes =
    admit 0 1 64 0 reply.Ok
    ∷ call 0 1 1 (Create (object 1 1 1) Primary 0) (Refused BadSize)
    ∷ call 0 1 1 (Create (object 1 1 1) Primary 65) (Refused BadSize)
    ∷ call 0 1 1 (command.Usage) (reply.Usage (record { window = 64; window_used = 0; device = 0; device_used = 0; copies = 0; works = 0 }))
    ∷ []

pub refused_sizes-job_1 : IsPrivate 1 1 refused_sizes
unfolding checked needing sending in_room
refused_sizes-job_1 = refl

pub refused_sizes-shared : AreSharedAnswers 1 1048576 refused_sizes
unfolding checked needing sending in_room
refused_sizes-shared = refl

-- a window that is full
abbrev pub full_window : List Traced
full_window =
    admit 0 1 64 0 reply.Ok
    ∷ call 0 1 1 (Create (object 1 1 1) Primary 64) (Placed 0 64)
    ∷ call 0 1 1 (Create (object 1 1 2) Primary 1) (Refused Full)
    ∷ []

pub full_window-job_1 : IsPrivate 1 1 full_window
unfolding checked needing sending in_room
full_window-job_1 = refl

pub full_window-shared : AreSharedAnswers 1 1048576 full_window
unfolding checked needing sending in_room
full_window-shared = refl

-- gaps are used from the least offset on
abbrev pub first_fit : List Traced
first_fit =
    admit 0 1 64 0 reply.Ok
    ∷ call 0 1 1 (Create (object 1 1 1) Primary 16) (Placed 0 16)
    ∷ call 0 1 1 (Create (object 1 1 2) Primary 16) (Placed 16 16)
    ∷ call 0 1 1 (Create (object 1 1 3) Primary 16) (Placed 32 16)
    ∷ call 0 1 1 (Create (object 1 1 4) Primary 16) (Placed 48 16)
    ∷ call 0 1 1 (Delete (object 1 1 1)) reply.Ok
    ∷ call 0 1 1 (Delete (object 1 1 3)) reply.Ok
    ∷ call 0 1 1 (Create (object 1 1 5) Primary 32) (Refused Full)
    ∷ call 0 1 1 (Create (object 1 1 5) Primary 16) (Placed 0 16)
    ∷ []

pub first_fit-job_1 : IsPrivate 1 1 first_fit
unfolding checked needing sending in_room
first_fit-job_1 = refl

pub first_fit-shared : AreSharedAnswers 1 1048576 first_fit
unfolding checked needing sending in_room
first_fit-shared = refl

-- room is made with the own secondary, and never with a neighbour's
abbrev pub neighbours_secondary : List Traced
neighbours_secondary =
    admit 0 1 32 0 reply.Ok
    ∷ admit 0 2 32 0 reply.Ok
    ∷ call 0 2 1 (Create (object 2 1 1) Secondary 32) (Placed 0 32)
    ∷ call 0 2 1 (Seal (object 2 1 1)) reply.Ok
    ∷ call 0 1 1 (Create (object 1 1 1) Secondary 32) (Placed 0 32)
    ∷ call 0 1 1 (Seal (object 1 1 1)) reply.Ok
    ∷ call 0 1 1 (Create (object 1 1 2) Primary 32) (Placed 0 32)
    ∷ call 0 1 1 (command.List) (reply.List (record { id = object 1 1 2; state = Created; kind = Primary; length = 32 } ∷ []) [])
    ∷ call 0 2 1 (Get (object 2 1 1)) (Got 32)
    ∷ []

pub neighbours_secondary-job_1 : IsPrivate 1 1 neighbours_secondary
unfolding checked needing sending in_room
neighbours_secondary-job_1 = refl

pub neighbours_secondary-job_2 : IsPrivate 1 2 neighbours_secondary
unfolding checked needing sending in_room
neighbours_secondary-job_2 = refl

pub neighbours_secondary-shared : AreSharedAnswers 1 1048576 neighbours_secondary
unfolding checked needing sending in_room
neighbours_secondary-shared = refl

-- a held copy stays, though it was used less recently
abbrev pub held_copy : List Traced
held_copy =
    admit 0 1 64 0 reply.Ok
    ∷ call 0 1 1 (Create (object 1 1 1) Secondary 32) (Placed 0 32)
    ∷ call 0 1 1 (Seal (object 1 1 1)) reply.Ok
    ∷ call 0 1 1 (Create (object 1 1 2) Secondary 32) (Placed 32 32)
    ∷ call 0 1 1 (Seal (object 1 1 2)) reply.Ok
    ∷ call 0 1 1 (Get (object 1 1 1)) (Got 32)
    ∷ call 0 1 1 (Get (object 1 1 2)) (Got 32)
    ∷ call 0 1 1 (Release (object 1 1 2)) reply.Ok
    ∷ call 0 1 1 (Create (object 1 1 3) Primary 32) (Placed 32 32)
    ∷ call 0 1 1 (command.List) (reply.List (record { id = object 1 1 1; state = Sealed; kind = Secondary; length = 32 } ∷ record { id = object 1 1 3; state = Created; kind = Primary; length = 32 } ∷ []) [])
    ∷ []

pub held_copy-job_1 : IsPrivate 1 1 held_copy
unfolding checked needing sending in_room
held_copy-job_1 = refl

pub held_copy-shared : AreSharedAnswers 1 1048576 held_copy
unfolding checked needing sending in_room
held_copy-shared = refl

-- a new job sees zeros where an ended one had written
abbrev pub fresh_bytes : List Traced
fresh_bytes =
    admit 0 1 64 0 reply.Ok
    ∷ admit 0 2 64 0 (Refused NoRoom)
    ∷ call 0 1 1 (Create (object 1 1 1) Primary 64) (Placed 0 64)
    ∷ call 0 1 1 (Write (object 1 1 1) 0 (255 ∷ 255 ∷ 255 ∷ 255 ∷ [])) reply.Ok
    ∷ end 0 1 reply.Ok
    ∷ admit 0 2 64 0 reply.Ok
    ∷ call 0 2 1 (Create (object 2 1 1) Primary 4) (Placed 0 16)
    ∷ call 0 2 1 (Seal (object 2 1 1)) reply.Ok
    ∷ call 0 2 1 (Get (object 2 1 1)) (Got 4)
    ∷ call 0 2 1 (Read (object 2 1 1) 0 4) (Bytes (zeros 4))
    ∷ []

pub fresh_bytes-job_1 : IsPrivate 1 1 fresh_bytes
unfolding checked needing sending in_room
fresh_bytes-job_1 = refl

pub fresh_bytes-job_2 : IsPrivate 1 2 fresh_bytes
unfolding checked needing sending in_room
fresh_bytes-job_2 = refl

pub fresh_bytes-shared : AreSharedAnswers 1 64 fresh_bytes
unfolding checked needing sending in_room
fresh_bytes-shared = refl

-- the copy that was used least recently goes
abbrev pub least_recently_used : List Traced
least_recently_used =
    admit 0 1 48 0 reply.Ok
    ∷ call 0 1 1 (Create (object 1 1 1) Secondary 16) (Placed 0 16)
    ∷ call 0 1 1 (Seal (object 1 1 1)) reply.Ok
    ∷ call 0 1 1 (Create (object 1 1 2) Secondary 16) (Placed 16 16)
    ∷ call 0 1 1 (Seal (object 1 1 2)) reply.Ok
    ∷ call 0 1 1 (Create (object 1 1 3) Secondary 16) (Placed 32 16)
    ∷ call 0 1 1 (Seal (object 1 1 3)) reply.Ok
    ∷ call 0 1 1 (Get (object 1 1 1)) (Got 16)
    ∷ call 0 1 1 (Release (object 1 1 1)) reply.Ok
    ∷ call 0 1 1 (Create (object 1 1 4) Primary 16) (Placed 16 16)
    ∷ call 0 1 1 (Create (object 1 1 5) Primary 32) (Refused Full)
    ∷ call 0 1 1 (command.List) (reply.List (record { id = object 1 1 1; state = Sealed; kind = Secondary; length = 16 } ∷ record { id = object 1 1 3; state = Sealed; kind = Secondary; length = 16 } ∷ record { id = object 1 1 4; state = Created; kind = Primary; length = 16 } ∷ []) [])
    ∷ []

pub least_recently_used-job_1 : IsPrivate 1 1 least_recently_used
unfolding checked needing sending in_room
least_recently_used-job_1 = refl

pub least_recently_used-shared : AreSharedAnswers 1 1048576 least_recently_used
unfolding checked needing sending in_room
least_recently_used-shared = refl
