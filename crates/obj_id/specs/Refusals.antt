-- The refusals' numbers and names.
use Rattle.std.specs.Prelude.{ℕ, List, [], ◌∷◌, codes}
use Rattle.obj_id.specs.declared.refusals.Refusal.{Refusal}
use Rattle.obj_id.specs.declared.refusals.Failure.{Failure}
use Rattle.obj_id.specs.declared.refusals.Failure.TheVariants.{Refused, Memory}
use Rattle.obj_id.specs.declared.refusals.Refusal.TheVariants.{NotAdmitted, BadId, Exists, Absent, NotSealed, AlreadySealed, BadSize, OutOfBounds, Full, Pending, NotHeld, Granted, NotGranted, DeviceFailed, Damaged, Busy, TooMany, Gone, NoMemory, Malformed, NoRoom, NotOwner, NotResident, Stale}

abbrev pub number_of : Refusal → ℕ
number_of NotAdmitted = 1
number_of BadId = 2
number_of Exists = 3
number_of Absent = 4
number_of NotSealed = 5
number_of AlreadySealed = 6
number_of BadSize = 7
number_of OutOfBounds = 8
number_of Full = 9
number_of Pending = 10
number_of NotHeld = 11
number_of Granted = 12
number_of NotGranted = 13
number_of DeviceFailed = 14
number_of Damaged = 15
number_of Busy = 16
number_of TooMany = 17
number_of Gone = 18
number_of NoMemory = 19
number_of Malformed = 20
number_of NoRoom = 21
number_of NotOwner = 22
number_of NotResident = 23
number_of Stale = 24

-- the name's bytes
abbrev pub name_of : Refusal → List ℕ
name_of NotAdmitted = codes "NotAdmitted"
name_of BadId = codes "BadId"
name_of Exists = codes "Exists"
name_of Absent = codes "Absent"
name_of NotSealed = codes "NotSealed"
name_of AlreadySealed = codes "AlreadySealed"
name_of BadSize = codes "BadSize"
name_of OutOfBounds = codes "OutOfBounds"
name_of Full = codes "Full"
name_of Pending = codes "Pending"
name_of NotHeld = codes "NotHeld"
name_of Granted = codes "Granted"
name_of NotGranted = codes "NotGranted"
name_of DeviceFailed = codes "DeviceFailed"
name_of Damaged = codes "Damaged"
name_of Busy = codes "Busy"
name_of TooMany = codes "TooMany"
name_of Gone = codes "Gone"
name_of NoMemory = codes "NoMemory"
name_of Malformed = codes "Malformed"
name_of NoRoom = codes "NoRoom"
name_of NotOwner = codes "NotOwner"
name_of NotResident = codes "NotResident"
name_of Stale = codes "Stale"

-- all of them, in the order of their numbers
abbrev pub all_refusals : List Refusal
all_refusals = NotAdmitted ∷ BadId ∷ Exists ∷ Absent ∷ NotSealed ∷ AlreadySealed ∷ BadSize ∷ OutOfBounds ∷ Full ∷ Pending ∷ NotHeld ∷ Granted ∷ NotGranted ∷ DeviceFailed ∷ Damaged ∷ Busy ∷ TooMany ∷ Gone ∷ NoMemory ∷ Malformed ∷ NoRoom ∷ NotOwner ∷ NotResident ∷ Stale ∷ []

-- how a failure is told: want of memory is a refusal too
abbrev pub refusal_of : Failure → Refusal
refusal_of (Refused r) = r
refusal_of (Memory m) = NoMemory
