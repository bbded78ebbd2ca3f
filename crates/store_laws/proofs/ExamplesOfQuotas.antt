-- Worked examples: the operator changes quotas.
use Rattle.std.specs.Prelude.{List, [], ◌∷◌, refl}
use Rattle.obj_id.specs.declared.commands.Command.TheVariants.{Create, Delete}
use Rattle.obj_id.specs.declared.commands.Command.TheVariants as command
use Rattle.obj_id.specs.declared.commands.Reply.TheVariants.{Placed, Refused}
use Rattle.obj_id.specs.declared.commands.Reply.TheVariants as reply
use Rattle.obj_id.specs.declared.refusals.Refusal.TheVariants.{NotAdmitted, BadSize, Full, NoRoom}
use Rattle.obj_id.specs.declared.commands.Kind.TheVariants.{Primary}
use Rattle.private_store.specs.declared.schedules.Traced.{Traced}
use Rattle.private_store.specs.rules.Change.{checked, needing, sending, in_room}
use Rattle.private_store.specs.rules.Trace.{IsPrivate}
use Rattle.private_store.specs.rules.Shared.{AreSharedAnswers}
use Rattle.store_laws.proofs.ExampleWords.{object, admit, quota, call}

-- a window shrinks to what is used and grows where memory is free
abbrev pub changed_quota : List Traced
changed_quota =
    admit 0 1 64 0 reply.Ok
    ∷ admit 0 2 32 0 reply.Ok
    ∷ quota 0 1 80 0 (Refused NoRoom)
    ∷ call 0 1 1 (Create (object 1 1 1) Primary 16) (Placed 0 16)
    ∷ call 0 1 1 (Create (object 1 1 2) Primary 16) (Placed 16 16)
    ∷ quota 0 1 16 0 (Refused Full)
    ∷ call 0 1 1 (Delete (object 1 1 2)) reply.Ok
    ∷ quota 0 1 16 0 reply.Ok
    ∷ call 0 1 1 (command.Usage) (reply.Usage (record { window = 16; window_used = 16; device = 0; device_used = 0; copies = 1; works = 0 }))
    ∷ call 0 1 1 (Create (object 1 1 3) Primary 17) (Refused BadSize)
    ∷ quota 0 2 64 0 reply.Ok
    ∷ call 0 2 1 (command.Usage) (reply.Usage (record { window = 64; window_used = 0; device = 0; device_used = 0; copies = 0; works = 0 }))
    ∷ quota 0 1 48 0 reply.Ok
    ∷ call 0 1 1 (Create (object 1 1 3) Primary 17) (Placed 16 32)
    ∷ quota 0 7 64 0 (Refused NotAdmitted)
    ∷ []

pub changed_quota-job_1 : IsPrivate 1 1 changed_quota
unfolding checked needing sending in_room
changed_quota-job_1 = refl

pub changed_quota-job_2 : IsPrivate 1 2 changed_quota
unfolding checked needing sending in_room
changed_quota-job_2 = refl

pub changed_quota-shared : AreSharedAnswers 1 128 changed_quota
unfolding checked needing sending in_room
changed_quota-shared = refl
