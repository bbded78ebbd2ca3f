-- One job's store at one node without contents: what stands where, and no byte of it.
use Rattle.std.specs.Prelude.{ℕ, Bool, false, List, [], Option}
use Rattle.obj_id.specs.declared.ids.TaskNo.{TaskNo}
use Rattle.obj_id.specs.declared.ids.ObjectId.{ObjectId}
use Rattle.obj_id.specs.declared.commands.Kind.{Kind}
use Rattle.obj_id.specs.declared.commands.CopyState.{CopyState}
use Rattle.obj_id.specs.declared.works.Quota.{Quota}
use Rattle.private_store.specs.declared.faults.Fault.{Fault}
use Rattle.private_store.specs.declared.faults.FetchFault.{FetchFault}
use Rattle.obj_id.specs.declared.commands.Reply.{Reply}
use Rattle.private_store.specs.rules.Tables.{ById}

-- how far a fetch is: its source isn't known; known, and its bytes not asked for; the indexes of
-- the chunks that are missing; or over, with what the next Get answers
pub data Phase : Type 0 where
  locating : Phase
  sized : (source : ℕ) → Phase
  pulling : (source : ℕ) (missing : List ℕ) → Phase
  failed : FetchFault → Phase

pub record Fetch : Type 0 where
  pub number : ℕ
  pub phase : Phase

-- a copy of an object
pub record Copy : Type 0 where
  pub state : CopyState
  pub kind : Kind
  -- the object's bytes; of a fetch that isn't sized, 0
  pub length : ℕ
  -- where its extent begins, if it is resident
  pub offset : Option ℕ
  -- whether the owner task keeps it
  pub pinned : Bool
  -- in the order in which they came
  pub borrowers : List TaskNo
  -- how many holds each session has, by rising session
  pub holds : List (ℕ × ℕ)
  -- the number of the write that put its bytes on the device
  pub backed : Option ℕ
  -- whether it goes as soon as nothing keeps it
  pub doomed : Bool
  -- of a restore, what the next Get answers
  pub fault : Option Fault
  pub fetch : Option Fetch

-- a device work in flight
pub record WorkInFlight : Type 0 where
  pub number : ℕ
  pub id : ObjectId
  -- whether it spills, and else restores
  pub writes : Bool

-- a grant that this job gave, and of another job's object the grantor of the grant that it hangs on
pub record GrantGiven : Type 0 where
  pub id : ObjectId
  pub target : ℕ
  pub parent : Option ℕ

-- a grant that was given to this job
pub record GrantTaken : Type 0 where
  pub grantor : ℕ
  pub depth : ℕ

-- an object of another job that this job may peek at
pub record Seen : Type 0 where
  pub length : ℕ
  -- the standing grants, oldest first
  pub grants : List GrantTaken

pub data Life : Type 0 where
  not_begun live ended : Life

pub record Shape : Type 0 where
  pub job : ℕ
  pub life : Life
  pub quota : Quota
  pub copies : ById Copy
  -- in the order asked
  pub works : List WorkInFlight
  -- the last number that a work had
  pub works_asked : ℕ
  -- the last number that a fetch had
  pub fetches_begun : ℕ
  -- whether a spill failed since room was last refused for it
  pub spill_failed : Bool
  -- in the order in which they ended
  pub ended_tasks : List TaskNo
  -- in the order given
  pub given : List GrantGiven
  -- what others granted
  pub received : ById Seen

-- the store of a job that was never admitted here
abbrev pub unbegun : ℕ → Shape
unbegun job =
    record {
      job = job;
      life = not_begun;
      quota = record { window = 0; device = 0 };
      copies = [];
      works = [];
      works_asked = 0;
      fetches_begun = 0;
      spill_failed = false;
      ended_tasks = [];
      given = [];
      received = [];
    }

-- a message to be sent, before its contents are filled in
pub data Sending : Type 0 where
  -- of the copy here
  add_location remove_location free : ObjectId → Sending
  -- of the copy at a source that has none
  remove_source : ObjectId → (source : ℕ) → Sending
  end_job : Sending
  locate : ObjectId → (number : ℕ) → Sending
  pull : ObjectId → Sending
  -- the answers to a Pull
  chunks not_here : ObjectId → Sending

-- what one input does
pub record Change : Type 0 where
  pub shape : Shape
  pub reply : Reply ℕ
  pub sent : List Sending
  -- the copy that it made most recently used
  pub used : Option ObjectId
  -- the numbers of the device keys that are to be erased, in order of id
  pub erased : List ℕ
