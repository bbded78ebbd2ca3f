-- Worked examples: owners, borrowers and the end of a task.
use Rattle.std.specs.Prelude.{List, [], ◌∷◌, refl}
use Rattle.obj_id.specs.declared.commands.Command.TheVariants.{Create, Seal, Get, Read, Release, Unpin, Borrow, GiveUp, Delete, EndTask}
use Rattle.obj_id.specs.declared.commands.Command.TheVariants as command
use Rattle.obj_id.specs.declared.commands.Reply.TheVariants.{Placed, Got, Bytes, Refused}
use Rattle.obj_id.specs.declared.commands.Reply.TheVariants as reply
use Rattle.obj_id.specs.declared.refusals.Refusal.TheVariants.{Exists, Absent, Gone, NotOwner}
use Rattle.obj_id.specs.declared.commands.Kind.TheVariants.{Primary}
use Rattle.private_store.specs.declared.schedules.Traced.{Traced}
use Rattle.private_store.specs.rules.Change.{checked, needing, sending, in_room}
use Rattle.private_store.specs.rules.Trace.{IsPrivate}
use Rattle.private_store.specs.rules.Shared.{AreSharedAnswers}
use Rattle.store_laws.proofs.ExampleWords.{zeros, task, object, admit, call}

-- an object goes when neither its owner nor a borrower keeps it
abbrev pub owner_and_borrower : List Traced
owner_and_borrower =
    admit 0 1 64 0 reply.Ok
    ∷ call 0 1 1 (Create (object 1 1 1) Primary 16) (Placed 0 16)
    ∷ call 0 1 1 (Seal (object 1 1 1)) reply.Ok
    ∷ call 0 1 1 (Unpin (object 1 1 1) (task 2)) (Refused NotOwner)
    ∷ call 0 1 1 (Borrow (object 1 1 1) (task 2)) reply.Ok
    ∷ call 0 1 1 (Unpin (object 1 1 1) (task 1)) reply.Ok
    ∷ call 0 1 1 (command.Usage) (reply.Usage (record { window = 64; window_used = 16; device = 0; device_used = 0; copies = 1; works = 0 }))
    ∷ call 0 1 1 (GiveUp (object 1 1 1) (task 2)) reply.Ok
    ∷ call 0 1 1 (command.Usage) (reply.Usage (record { window = 64; window_used = 0; device = 0; device_used = 0; copies = 0; works = 0 }))
    ∷ call 0 1 1 (EndTask (task 1)) reply.Ok
    ∷ call 0 1 1 (Get (object 1 1 1)) (Refused Gone)
    ∷ []

pub owner_and_borrower-job_1 : IsPrivate 1 1 owner_and_borrower
unfolding checked needing sending in_room
owner_and_borrower-job_1 = refl

pub owner_and_borrower-shared : AreSharedAnswers 1 1048576 owner_and_borrower
unfolding checked needing sending in_room
owner_and_borrower-shared = refl

-- a deleted copy stays while it is held
abbrev pub doomed_while_held : List Traced
doomed_while_held =
    admit 0 1 64 0 reply.Ok
    ∷ call 0 1 1 (Create (object 1 1 1) Primary 16) (Placed 0 16)
    ∷ call 0 1 1 (Seal (object 1 1 1)) reply.Ok
    ∷ call 0 1 1 (Get (object 1 1 1)) (Got 16)
    ∷ call 0 1 1 (Delete (object 1 1 1)) reply.Ok
    ∷ call 0 1 1 (Get (object 1 1 1)) (Refused Absent)
    ∷ call 0 1 1 (Create (object 1 1 1) Primary 16) (Refused Exists)
    ∷ call 0 1 1 (Read (object 1 1 1) 0 1) (Bytes (zeros 1))
    ∷ call 0 1 1 (Release (object 1 1 1)) reply.Ok
    ∷ call 0 1 1 (command.Usage) (reply.Usage (record { window = 64; window_used = 0; device = 0; device_used = 0; copies = 0; works = 0 }))
    ∷ []

pub doomed_while_held-job_1 : IsPrivate 1 1 doomed_while_held
unfolding checked needing sending in_room
doomed_while_held-job_1 = refl

pub doomed_while_held-shared : AreSharedAnswers 1 1048576 doomed_while_held
unfolding checked needing sending in_room
doomed_while_held-shared = refl

-- a task that has ended borrows nothing, and an id may be used again
abbrev pub ended_tasks : List Traced
ended_tasks =
    admit 0 1 64 0 reply.Ok
    ∷ call 0 1 1 (Create (object 1 1 1) Primary 16) (Placed 0 16)
    ∷ call 0 1 1 (Borrow (object 1 1 1) (task 2)) reply.Ok
    ∷ call 0 1 1 (Borrow (object 1 1 1) (task 2)) (Refused Exists)
    ∷ call 0 1 1 (EndTask (task 2)) reply.Ok
    ∷ call 0 1 1 (GiveUp (object 1 1 1) (task 2)) (Refused Absent)
    ∷ call 0 1 1 (EndTask (task 2)) (Refused Gone)
    ∷ call 0 1 1 (Borrow (object 1 1 1) (task 2)) (Refused Gone)
    ∷ call 0 1 1 (Unpin (object 1 1 1) (task 1)) reply.Ok
    ∷ call 0 1 1 (command.Usage) (reply.Usage (record { window = 64; window_used = 0; device = 0; device_used = 0; copies = 0; works = 0 }))
    ∷ call 0 1 1 (Create (object 1 1 1) Primary 16) (Placed 0 16)
    ∷ []

pub ended_tasks-job_1 : IsPrivate 1 1 ended_tasks
unfolding checked needing sending in_room
ended_tasks-job_1 = refl

pub ended_tasks-shared : AreSharedAnswers 1 1048576 ended_tasks
unfolding checked needing sending in_room
ended_tasks-shared = refl
