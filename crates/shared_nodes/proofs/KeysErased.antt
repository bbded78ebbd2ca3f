-- Keys that steps gave out, erased one after another.
use Rattle.std.proofs.Common.{List, [], ◌∷◌, ◌++◌, Result, subst}
use Rattle.obj_id.specs.declared.works.DeviceKey.{DeviceKey}
use Rattle.spill_device.specs.declared.DeviceFault.{DeviceFault}
use Rattle.node_housekeeping.specs.DeviceCalls.{AreErased}
use Rattle.shared_nodes.specs.Erasing.{keys_in}

-- with what is left they are all
abbrev pub GoesOn : {D E : Type 0} → (D → DeviceKey → Result (Unit {0}) DeviceFault → D → Type 0) → (E → List DeviceKey) → D → List E → D → List E → Type 0
GoesOn {D} erases keys old given now left = (new : D) → AreErased erases now (keys_in keys left) new → AreErased erases old (keys_in keys given) new

pub erased_then : {D : Type 0} (erases : D → DeviceKey → Result (Unit {0}) DeviceFault → D → Type 0) (first then : List DeviceKey) (old between new : D) → AreErased erases old first between → AreErased erases between then new → AreErased erases old (first ++ then) new
erased_then erases [] then old between new same erased = subst (λ d. AreErased erases d then new) same erased
erased_then erases (key ∷ first) then old between new (next, went, is, rest) erased = (next, went, is, erased_then erases first then next between new rest erased)
