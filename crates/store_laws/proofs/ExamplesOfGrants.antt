-- Worked examples: grants, withdrawals, and objects that are handed on.
use Rattle.std.specs.Prelude.{List, [], ◌∷◌, refl}
use Rattle.obj_id.specs.declared.commands.Command.TheVariants.{Create, Write, Seal, Get, Delete, EndTask, Grant, Withdraw, Peek}
use Rattle.obj_id.specs.declared.commands.Command.TheVariants as command
use Rattle.obj_id.specs.declared.commands.Reply.TheVariants.{Placed, Bytes, Refused}
use Rattle.obj_id.specs.declared.commands.Reply.TheVariants as reply
use Rattle.obj_id.specs.declared.refusals.Refusal.TheVariants.{NotAdmitted, BadId, Exists, OutOfBounds, Granted, NotGranted, TooMany, NotResident}
use Rattle.obj_id.specs.declared.commands.Kind.TheVariants.{Primary}
use Rattle.private_store.specs.declared.schedules.Traced.{Traced}
use Rattle.private_store.specs.rules.Change.{checked, needing, sending, in_room}
use Rattle.private_store.specs.rules.Trace.{IsPrivate}
use Rattle.private_store.specs.rules.Shared.{AreSharedAnswers}
use Rattle.store_laws.proofs.ExampleWords.{zeros, task, job, object, admit, call}

-- foreign ids are refused alike; a grant shows an object, also to a job that comes later
abbrev pub granted : List Traced
granted =
    admit 0 1 64 0 reply.Ok
    ∷ admit 0 2 64 0 reply.Ok
    ∷ call 0 1 1 (Create (object 1 1 1) Primary 4) (Placed 0 16)
    ∷ call 0 2 1 (Get (object 1 1 1)) (Refused NotGranted)
    ∷ call 0 2 1 (Peek (object 1 1 1) 0 1) (Refused NotGranted)
    ∷ call 0 2 1 (Get (object 1 9 9)) (Refused NotGranted)
    ∷ call 0 2 1 (Peek (object 1 9 9) 0 1) (Refused NotGranted)
    ∷ call 0 1 1 (Write (object 1 1 1) 0 (97 ∷ 98 ∷ 99 ∷ 100 ∷ [])) reply.Ok
    ∷ call 0 1 1 (Seal (object 1 1 1)) reply.Ok
    ∷ call 0 1 1 (Grant (object 1 1 1) (job 2)) reply.Ok
    ∷ call 0 2 1 (Peek (object 1 1 1) 0 4) (Bytes (97 ∷ 98 ∷ 99 ∷ 100 ∷ []))
    ∷ call 0 1 1 (Delete (object 1 1 1)) (Refused Granted)
    ∷ call 0 1 1 (Withdraw (object 1 1 1) (job 2)) reply.Ok
    ∷ call 0 2 1 (Peek (object 1 1 1) 0 4) (Refused NotGranted)
    ∷ call 0 1 1 (Grant (object 1 1 1) (job 9)) reply.Ok
    ∷ call 0 9 1 (command.Usage) (Refused NotAdmitted)
    ∷ admit 0 9 64 0 reply.Ok
    ∷ call 0 9 1 (Peek (object 1 1 1) 0 4) (Bytes (97 ∷ 98 ∷ 99 ∷ 100 ∷ []))
    ∷ []

pub granted-job_1 : IsPrivate 1 1 granted
unfolding checked needing sending in_room
granted-job_1 = refl

pub granted-job_2 : IsPrivate 1 2 granted
unfolding checked needing sending in_room
granted-job_2 = refl

pub granted-job_9 : IsPrivate 1 9 granted
unfolding checked needing sending in_room
granted-job_9 = refl

pub granted-shared : AreSharedAnswers 1 1048576 granted
unfolding checked needing sending in_room
granted-shared = refl

-- the limits of grants, and what the end of a task does to them
abbrev pub many_grants : List Traced
many_grants =
    admit 0 2 64 0 reply.Ok
    ∷ admit 0 1 64 0 (Refused Exists)
    ∷ admit 0 3 64 0 reply.Ok
    ∷ call 0 2 1 (Create (object 2 1 1) Primary 4) (Placed 0 16)
    ∷ call 0 2 1 (Grant (object 2 1 1) (job 3)) (Refused NotResident)
    ∷ call 0 2 1 (Seal (object 2 1 1)) reply.Ok
    ∷ call 0 2 1 (Grant (object 2 1 1) (job 2)) (Refused BadId)
    ∷ call 0 2 1 (Grant (object 2 1 1) (job 3)) reply.Ok
    ∷ call 0 2 1 (Grant (object 2 1 1) (job 4)) reply.Ok
    ∷ call 0 2 1 (Grant (object 2 1 1) (job 5)) reply.Ok
    ∷ call 0 2 1 (Grant (object 2 1 1) (job 6)) reply.Ok
    ∷ call 0 2 1 (Grant (object 2 1 1) (job 7)) reply.Ok
    ∷ call 0 2 1 (Grant (object 2 1 1) (job 8)) reply.Ok
    ∷ call 0 2 1 (Grant (object 2 1 1) (job 9)) reply.Ok
    ∷ call 0 2 1 (Grant (object 2 1 1) (job 10)) reply.Ok
    ∷ call 0 2 1 (Grant (object 2 1 1) (job 11)) reply.Ok
    ∷ call 0 2 1 (Grant (object 2 1 1) (job 12)) reply.Ok
    ∷ call 0 2 1 (Grant (object 2 1 1) (job 13)) reply.Ok
    ∷ call 0 2 1 (Grant (object 2 1 1) (job 14)) reply.Ok
    ∷ call 0 2 1 (Grant (object 2 1 1) (job 15)) reply.Ok
    ∷ call 0 2 1 (Grant (object 2 1 1) (job 16)) reply.Ok
    ∷ call 0 2 1 (Grant (object 2 1 1) (job 17)) reply.Ok
    ∷ call 0 2 1 (Grant (object 2 1 1) (job 18)) reply.Ok
    ∷ call 0 2 1 (Grant (object 2 1 1) (job 19)) reply.Ok
    ∷ call 0 2 1 (Grant (object 2 1 1) (job 20)) reply.Ok
    ∷ call 0 2 1 (Grant (object 2 1 1) (job 21)) reply.Ok
    ∷ call 0 2 1 (Grant (object 2 1 1) (job 22)) reply.Ok
    ∷ call 0 2 1 (Grant (object 2 1 1) (job 23)) reply.Ok
    ∷ call 0 2 1 (Grant (object 2 1 1) (job 24)) reply.Ok
    ∷ call 0 2 1 (Grant (object 2 1 1) (job 25)) reply.Ok
    ∷ call 0 2 1 (Grant (object 2 1 1) (job 26)) reply.Ok
    ∷ call 0 2 1 (Grant (object 2 1 1) (job 27)) reply.Ok
    ∷ call 0 2 1 (Grant (object 2 1 1) (job 28)) reply.Ok
    ∷ call 0 2 1 (Grant (object 2 1 1) (job 29)) reply.Ok
    ∷ call 0 2 1 (Grant (object 2 1 1) (job 30)) reply.Ok
    ∷ call 0 2 1 (Grant (object 2 1 1) (job 31)) reply.Ok
    ∷ call 0 2 1 (Grant (object 2 1 1) (job 32)) reply.Ok
    ∷ call 0 2 1 (Grant (object 2 1 1) (job 33)) reply.Ok
    ∷ call 0 2 1 (Grant (object 2 1 1) (job 34)) reply.Ok
    ∷ call 0 2 1 (Grant (object 2 1 1) (job 35)) reply.Ok
    ∷ call 0 2 1 (Grant (object 2 1 1) (job 36)) reply.Ok
    ∷ call 0 2 1 (Grant (object 2 1 1) (job 37)) reply.Ok
    ∷ call 0 2 1 (Grant (object 2 1 1) (job 38)) reply.Ok
    ∷ call 0 2 1 (Grant (object 2 1 1) (job 39)) reply.Ok
    ∷ call 0 2 1 (Grant (object 2 1 1) (job 40)) reply.Ok
    ∷ call 0 2 1 (Grant (object 2 1 1) (job 41)) reply.Ok
    ∷ call 0 2 1 (Grant (object 2 1 1) (job 42)) reply.Ok
    ∷ call 0 2 1 (Grant (object 2 1 1) (job 43)) reply.Ok
    ∷ call 0 2 1 (Grant (object 2 1 1) (job 44)) reply.Ok
    ∷ call 0 2 1 (Grant (object 2 1 1) (job 45)) reply.Ok
    ∷ call 0 2 1 (Grant (object 2 1 1) (job 46)) reply.Ok
    ∷ call 0 2 1 (Grant (object 2 1 1) (job 47)) reply.Ok
    ∷ call 0 2 1 (Grant (object 2 1 1) (job 48)) reply.Ok
    ∷ call 0 2 1 (Grant (object 2 1 1) (job 49)) reply.Ok
    ∷ call 0 2 1 (Grant (object 2 1 1) (job 50)) reply.Ok
    ∷ call 0 2 1 (Grant (object 2 1 1) (job 51)) reply.Ok
    ∷ call 0 2 1 (Grant (object 2 1 1) (job 52)) reply.Ok
    ∷ call 0 2 1 (Grant (object 2 1 1) (job 53)) reply.Ok
    ∷ call 0 2 1 (Grant (object 2 1 1) (job 54)) reply.Ok
    ∷ call 0 2 1 (Grant (object 2 1 1) (job 55)) reply.Ok
    ∷ call 0 2 1 (Grant (object 2 1 1) (job 56)) reply.Ok
    ∷ call 0 2 1 (Grant (object 2 1 1) (job 57)) reply.Ok
    ∷ call 0 2 1 (Grant (object 2 1 1) (job 58)) reply.Ok
    ∷ call 0 2 1 (Grant (object 2 1 1) (job 59)) reply.Ok
    ∷ call 0 2 1 (Grant (object 2 1 1) (job 60)) reply.Ok
    ∷ call 0 2 1 (Grant (object 2 1 1) (job 61)) reply.Ok
    ∷ call 0 2 1 (Grant (object 2 1 1) (job 62)) reply.Ok
    ∷ call 0 2 1 (Grant (object 2 1 1) (job 63)) reply.Ok
    ∷ call 0 2 1 (Grant (object 2 1 1) (job 64)) reply.Ok
    ∷ call 0 2 1 (Grant (object 2 1 1) (job 65)) reply.Ok
    ∷ call 0 2 1 (Grant (object 2 1 1) (job 66)) reply.Ok
    ∷ call 0 2 1 (Grant (object 2 1 1) (job 67)) (Refused TooMany)
    ∷ call 0 2 1 (Grant (object 2 1 1) (job 3)) (Refused Exists)
    ∷ call 0 3 1 (Peek (object 2 1 1) 0 4) (Bytes (zeros 4))
    ∷ call 0 3 1 (Peek (object 2 1 1) 0 5) (Refused OutOfBounds)
    ∷ call 0 3 1 (command.List) (reply.List [] (record { id = object 2 1 1; length = 4; depth = 1 } ∷ []))
    ∷ call 0 2 1 (EndTask (task 1)) reply.Ok
    ∷ call 0 3 1 (Peek (object 2 1 1) 0 4) (Refused NotGranted)
    ∷ []

pub many_grants-job_1 : IsPrivate 1 1 many_grants
unfolding checked needing sending in_room
many_grants-job_1 = refl

pub many_grants-job_2 : IsPrivate 1 2 many_grants
unfolding checked needing sending in_room
many_grants-job_2 = refl

pub many_grants-job_3 : IsPrivate 1 3 many_grants
unfolding checked needing sending in_room
many_grants-job_3 = refl

pub many_grants-shared : AreSharedAnswers 1 1048576 many_grants
unfolding checked needing sending in_room
many_grants-shared = refl

-- an object is handed on to depth 3, and a withdrawal ends what hangs on it
abbrev pub handed_on : List Traced
handed_on =
    admit 0 1 64 0 reply.Ok
    ∷ admit 0 2 64 0 reply.Ok
    ∷ admit 0 3 64 0 reply.Ok
    ∷ admit 0 4 64 0 reply.Ok
    ∷ admit 0 5 64 0 reply.Ok
    ∷ call 0 1 1 (Create (object 1 1 1) Primary 4) (Placed 0 16)
    ∷ call 0 1 1 (Write (object 1 1 1) 0 (97 ∷ 98 ∷ 99 ∷ 100 ∷ [])) reply.Ok
    ∷ call 0 1 1 (Seal (object 1 1 1)) reply.Ok
    ∷ call 0 1 1 (Grant (object 1 1 1) (job 2)) reply.Ok
    ∷ call 0 2 1 (Grant (object 1 1 1) (job 3)) reply.Ok
    ∷ call 0 3 1 (Grant (object 1 1 1) (job 1)) (Refused BadId)
    ∷ call 0 3 1 (Grant (object 1 1 1) (job 4)) reply.Ok
    ∷ call 0 4 1 (Peek (object 1 1 1) 0 4) (Bytes (97 ∷ 98 ∷ 99 ∷ 100 ∷ []))
    ∷ call 0 4 1 (command.List) (reply.List [] (record { id = object 1 1 1; length = 4; depth = 3 } ∷ []))
    ∷ call 0 4 1 (Grant (object 1 1 1) (job 5)) (Refused TooMany)
    ∷ call 0 5 1 (Grant (object 1 1 1) (job 2)) (Refused NotGranted)
    ∷ call 0 1 1 (Withdraw (object 1 1 1) (job 2)) reply.Ok
    ∷ call 0 3 1 (Peek (object 1 1 1) 0 4) (Refused NotGranted)
    ∷ call 0 4 1 (Peek (object 1 1 1) 0 4) (Refused NotGranted)
    ∷ call 0 2 1 (Withdraw (object 1 1 1) (job 3)) (Refused NotGranted)
    ∷ []

pub handed_on-job_1 : IsPrivate 1 1 handed_on
unfolding checked needing sending in_room
handed_on-job_1 = refl

pub handed_on-job_2 : IsPrivate 1 2 handed_on
unfolding checked needing sending in_room
handed_on-job_2 = refl

pub handed_on-job_3 : IsPrivate 1 3 handed_on
unfolding checked needing sending in_room
handed_on-job_3 = refl

pub handed_on-job_4 : IsPrivate 1 4 handed_on
unfolding checked needing sending in_room
handed_on-job_4 = refl

pub handed_on-job_5 : IsPrivate 1 5 handed_on
unfolding checked needing sending in_room
handed_on-job_5 = refl

pub handed_on-shared : AreSharedAnswers 1 1048576 handed_on
unfolding checked needing sending in_room
handed_on-shared = refl

-- the first grantor is answered the same where no one hands on
abbrev pub not_handed_on : List Traced
not_handed_on =
    admit 0 1 64 0 reply.Ok
    ∷ admit 0 2 64 0 reply.Ok
    ∷ call 0 1 1 (Create (object 1 1 1) Primary 4) (Placed 0 16)
    ∷ call 0 1 1 (Write (object 1 1 1) 0 (97 ∷ 98 ∷ 99 ∷ 100 ∷ [])) reply.Ok
    ∷ call 0 1 1 (Seal (object 1 1 1)) reply.Ok
    ∷ call 0 1 1 (Grant (object 1 1 1) (job 2)) reply.Ok
    ∷ call 0 1 1 (Withdraw (object 1 1 1) (job 2)) reply.Ok
    ∷ []

pub not_handed_on-job_1 : IsPrivate 1 1 not_handed_on
unfolding checked needing sending in_room
not_handed_on-job_1 = refl

pub not_handed_on-job_2 : IsPrivate 1 2 not_handed_on
unfolding checked needing sending in_room
not_handed_on-job_2 = refl

pub not_handed_on-shared : AreSharedAnswers 1 1048576 not_handed_on
unfolding checked needing sending in_room
not_handed_on-shared = refl

-- a job with two grants keeps the object until both have ended
abbrev pub two_grants : List Traced
two_grants =
    admit 0 1 64 0 reply.Ok
    ∷ admit 0 2 64 0 reply.Ok
    ∷ admit 0 3 64 0 reply.Ok
    ∷ admit 0 4 64 0 reply.Ok
    ∷ admit 0 5 64 0 reply.Ok
    ∷ call 0 1 1 (Create (object 1 1 1) Primary 4) (Placed 0 16)
    ∷ call 0 1 1 (Write (object 1 1 1) 0 (97 ∷ 98 ∷ 99 ∷ 100 ∷ [])) reply.Ok
    ∷ call 0 1 1 (Seal (object 1 1 1)) reply.Ok
    ∷ call 0 1 1 (Grant (object 1 1 1) (job 2)) reply.Ok
    ∷ call 0 2 1 (Grant (object 1 1 1) (job 3)) reply.Ok
    ∷ call 0 1 1 (Grant (object 1 1 1) (job 3)) reply.Ok
    ∷ call 0 1 1 (Withdraw (object 1 1 1) (job 3)) reply.Ok
    ∷ call 0 3 1 (Peek (object 1 1 1) 0 4) (Bytes (97 ∷ 98 ∷ 99 ∷ 100 ∷ []))
    ∷ call 0 3 1 (command.List) (reply.List [] (record { id = object 1 1 1; length = 4; depth = 2 } ∷ []))
    ∷ call 0 1 1 (Withdraw (object 1 1 1) (job 2)) reply.Ok
    ∷ call 0 3 1 (Peek (object 1 1 1) 0 4) (Refused NotGranted)
    ∷ []

pub two_grants-job_1 : IsPrivate 1 1 two_grants
unfolding checked needing sending in_room
two_grants-job_1 = refl

pub two_grants-job_2 : IsPrivate 1 2 two_grants
unfolding checked needing sending in_room
two_grants-job_2 = refl

pub two_grants-job_3 : IsPrivate 1 3 two_grants
unfolding checked needing sending in_room
two_grants-job_3 = refl

pub two_grants-job_4 : IsPrivate 1 4 two_grants
unfolding checked needing sending in_room
two_grants-job_4 = refl

pub two_grants-job_5 : IsPrivate 1 5 two_grants
unfolding checked needing sending in_room
two_grants-job_5 = refl

pub two_grants-shared : AreSharedAnswers 1 1048576 two_grants
unfolding checked needing sending in_room
two_grants-shared = refl
