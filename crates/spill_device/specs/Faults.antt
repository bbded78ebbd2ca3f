-- How a device counts the calls that failed.
use Rattle.std.specs.Prelude.{ℕ, ◌+◌, ◌-◌, ◌^◌, min, Result, Ok, Err}
use Rattle.spill_device.specs.declared.DeviceFault.{DeviceFault}
use Rattle.spill_device.specs.declared.DeviceFault.TheVariants.{Failed, NoMemory}

-- the last value of a count
abbrev pub last_count : ℕ
last_count = 2 ^ 64 - 1

-- one failure more; a count stays at its last value
abbrev pub next_count : ℕ → ℕ
next_count n = min (n + 1) last_count

-- the count after a call: one more where it failed, and the same after any other answer
abbrev pub count_after : {T : Type 0} → Result T DeviceFault → ℕ → ℕ
count_after (Ok _) n = n
count_after (Err NoMemory) n = n
count_after (Err Failed) n = next_count n
