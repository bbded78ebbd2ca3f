-- A device that fails one call.
use Rattle.std.specs.Prelude.{◌≡◌, ℕ, ◌==◌, ◌+◌, ◌-◌, min, Result, Err}
use Rattle.spill_device.specs.Faults.{last_count}
use Rattle.std.specs.Bool.{MatchBool}
use Rattle.spill_device.specs.declared.DeviceFault.{DeviceFault}
use Rattle.spill_device.specs.declared.DeviceFault.TheVariants.{Failed}
use Rattle.spill_device.specs.declared.faulty.FaultyDevice.{FaultyDevice}

-- a call fails without reaching the device beneath where its turn has come, and passes to it else
abbrev pub FailsOrPasses : {D T : Type 0} → (D → Result T DeviceFault → D → Type 0) → FaultyDevice D → Result T DeviceFault → FaultyDevice D → Type 0
FailsOrPasses passes old result new =
    MatchBool (old.turns == 1) ((result ≡ Err Failed) × (new.inner ≡ old.inner)) (passes old.inner result new.inner) × (new.turns ≡ old.turns - 1)

-- the count of failures: those of the device beneath, and its own
abbrev pub failures_with : ℕ → ℕ → ℕ
failures_with own beneath = min (beneath + own) last_count
