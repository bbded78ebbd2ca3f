-- What may happen to a copy that stays, a line each. Commands and events say which of it happens, and when.
use Rattle.std.specs.Prelude.{ℕ, zero, suc, ◌+◌, ◌-◌, ◌/◌, ◌==◌, true, false, not, if◌then◌else◌, List, [], ◌∷◌, ◌++◌, filter, Option, Some, None}
use Rattle.std.specs.Ordering.{nat_cmp}
use Rattle.std.specs.FinMap.{put}
use Rattle.obj_id.specs.declared.ids.TaskNo.{TaskNo}
use Rattle.obj_id.specs.declared.commands.CopyState.TheVariants.{Sealed, Restoring, Away}
use Rattle.obj_id.specs.Ids.{same_task}
use Rattle.private_store.specs.declared.inputs.Source.{Source}
use Rattle.private_store.specs.declared.inputs.WorkVerdict.{WorkVerdict}
use Rattle.private_store.specs.declared.inputs.WorkVerdict.TheVariants as work
use Rattle.private_store.specs.declared.faults.Fault.{Fault}
use Rattle.private_store.specs.declared.faults.FetchFault.{FetchFault}
use Rattle.private_store.specs.declared.faults.Fault.TheVariants as restore_fault
use Rattle.private_store.specs.declared.faults.FetchFault.TheVariants as fetch_fault
use Rattle.private_store.specs.rules.Limits.{chunk_size}
use Rattle.private_store.specs.rules.Shape.{Copy, Fetch, sized, pulling, failed}

pub data Mark : Type 0 where
  -- it is immutable from now on
  sealed : Mark
  -- the session has n holds of it
  held : (session n : ℕ) → Mark
  -- its owner task keeps it no longer
  unpinned : Mark
  -- the task refers to it, or no longer
  borrowed given_up : TaskNo → Mark
  -- it goes as soon as nothing keeps it
  doomed : Mark
  -- its extent is another's: its bytes are on the device alone
  evicted : Mark
  -- the write under this number put its bytes on the device
  backed : (number : ℕ) → Mark
  -- it has an extent again, and its bytes are asked for
  restoring : (offset : ℕ) → Mark
  -- they were read
  restored : Mark
  -- they weren't: it is away again
  lost : Fault → Mark
  -- the fault of its last restore was answered
  fault_told : Mark
  -- its fetch has a source and a length, or there is no copy anywhere
  located : Fetch → Option Source → Mark
  -- its fetch has an extent, and all chunks are asked for
  pulled : Fetch → (offset source : ℕ) → Mark
  -- these chunks are missing still
  lacking : Fetch → (source : ℕ) (missing : List ℕ) → Mark
  -- none is
  brought : Mark
  -- its fetch is over without a copy, for the next Get to tell why
  fetch_failed : Fetch → FetchFault → Mark

-- the holds of the other sessions
abbrev pub without_session : List (ℕ × ℕ) → ℕ → List (ℕ × ℕ)
without_session holds session = filter (λ e. not (e.0 == session)) holds

-- n holds of the session, where none means no entry
abbrev pub with_holds : Copy → ℕ → ℕ → Copy
with_holds copy session n =
    record copy { holds = if n == 0 then without_session copy.holds session else put nat_cmp session n copy.holds }

abbrev pub without_borrower : Copy → TaskNo → Copy
without_borrower copy task = record copy { borrowers = filter (λ t. not (same_task task t)) copy.borrowers }

-- the numbers from start on, n of them
abbrev pub counted : ℕ → ℕ → List ℕ
counted start zero = []
counted start (suc n) = start ∷ counted (start + 1) n

-- how many chunks n bytes have
abbrev pub chunk_count : ℕ → ℕ
chunk_count n = (n + (chunk_size - 1)) / chunk_size

-- the copy after it
abbrev pub marked : Mark → Copy → Copy
marked sealed copy = record copy { state = Sealed }
marked (held session n) copy = with_holds copy session n
marked unpinned copy = record copy { pinned = false }
marked (borrowed task) copy = record copy { borrowers = copy.borrowers ++ task ∷ [] }
marked (given_up task) copy = without_borrower copy task
marked doomed copy = record copy { doomed = true }
marked evicted copy = record copy { state = Away; offset = None }
marked (backed number) copy = record copy { backed = Some number }
marked (restoring offset) copy = record copy { state = Restoring; offset = Some offset }
marked restored copy = record copy { state = Sealed }
marked (lost fault) copy = record copy { state = Away; offset = None; fault = Some fault }
marked fault_told copy = record copy { fault = None }
marked (located fetch (Some source)) copy = record copy { length = source.length; fetch = Some (record fetch { phase = sized source.node }) }
marked (located fetch None) copy = record copy { fetch = Some (record fetch { phase = failed fetch_fault.Absent }) }
marked (pulled fetch offset source) copy =
    record copy { offset = Some offset; fetch = Some (record fetch { phase = pulling source (counted 0 (chunk_count copy.length)) }) }
marked (lacking fetch source missing) copy = record copy { fetch = Some (record fetch { phase = pulling source missing }) }
marked brought copy = record copy { state = Sealed; fetch = None }
marked (fetch_failed fetch fault) copy = record copy { offset = None; fetch = Some (record fetch { phase = failed fault }) }

-- what the answer of its read makes of it
abbrev pub read_mark : WorkVerdict → Mark
read_mark work.Fine = restored
read_mark work.Failed = lost restore_fault.DeviceFailed
read_mark work.Damaged = lost restore_fault.Damaged
