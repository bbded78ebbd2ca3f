-- What is said of device calls that failed, and when.
use Rattle.std.specs.Prelude.{ℕ, ◌+◌, ◌-◌, ◌^◌, min, nat_le, ◌==◌, Bool, true, if◌then◌else◌, List, [], ◌++◌, codes, decimal, Option, Some, None}
use Rattle.std.specs.Time.{instant_nanos}
use Rattle.std.specs.declared.time.Instant.{Instant}
use Rattle.obj_id.specs.declared.works.DeviceKey.{DeviceKey}
use Rattle.program_lines.specs.declared.failed_calls.DeviceCall.{DeviceCall}
use Rattle.program_lines.specs.declared.failed_calls.DeviceCall.TheVariants.{Write, Read, Erase}
use Rattle.program_lines.specs.declared.failed_calls.SaidCalls.{SaidCalls}

abbrev pub call_text : DeviceCall → List ℕ
call_text Write = codes "write"
call_text Read = codes "read"
call_text Erase = codes "erase"

-- how many that failed since the last line have none
abbrev pub unsaid_text : ℕ → List ℕ
unsaid_text unsaid = if unsaid == 0 then [] else codes " (and " ++ decimal unsaid ++ codes " more since the last line)"

-- the line of a call that failed at a node, without its line feed
abbrev pub failed_text : ℕ → DeviceKey → DeviceCall → List ℕ → ℕ → List ℕ
failed_text node key call reason unsaid =
    codes "store: node " ++ decimal node ++ codes ": job " ++ decimal key.job.0 ++ codes ": work " ++ decimal key.number ++ codes ": "
    ++ call_text call ++ codes " failed: " ++ reason ++ unsaid_text unsaid

-- whether a line may be written now: none was, or the last one a second ago at least
abbrev pub is_due : Option Instant → Instant → Bool
is_due None now = true
is_due (Some last) now = nat_le (instant_nanos last + 1_000_000_000) (instant_nanos now)

-- so many more have no line; the count stays at its last value
abbrev pub with_unsaid : ℕ → SaidCalls → SaidCalls
with_unsaid more said = record said { unsaid = min (said.unsaid + more) (2 ^ 64 - 1) }

-- after a call that failed now: its line is the last one, or it is one more that has none
abbrev pub after_failure : SaidCalls → Instant → SaidCalls
after_failure said now = if is_due said.last now then record { last = Some now; unsaid = 0 } else with_unsaid 1 said

-- how many have no line, if this call gets one
abbrev pub due_unsaid : SaidCalls → Instant → Option ℕ
due_unsaid said now = if is_due said.last now then Some said.unsaid else None
