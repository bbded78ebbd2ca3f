-- Keys that a device erases one after another.
use Rattle.std.specs.Prelude.{ℕ, List, Result}
use Rattle.obj_id.specs.declared.works.DeviceKey.{DeviceKey}
use Rattle.spill_device.specs.declared.DeviceFault.{DeviceFault}
use Rattle.node_housekeeping.specs.DeviceCalls.{AreErased}

-- with the keys that are left they are all
abbrev pub GoesOn : {D : Type 0} → (D → DeviceKey → Result (Unit {0}) DeviceFault → D → Type 0) → D → List DeviceKey → D → List DeviceKey → Type 0
GoesOn {D} erases old keys now left = (new : D) → AreErased erases now left new → AreErased erases old keys new
