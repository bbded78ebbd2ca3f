-- The device keys that a step gives to be erased, as a list.
use Rattle.std.specs.Prelude.{List, [], ◌∷◌}
use Rattle.obj_id.specs.declared.works.DeviceKey.{DeviceKey}
use Rattle.row_steps.specs.declared.outcome.Erase.{Erase}
use Rattle.row_steps.specs.declared.outcome.Erase.TheVariants.{NoKey, One, Many}

abbrev pub keys_of : Erase → List DeviceKey
keys_of NoKey = []
keys_of (One key) = key ∷ []
keys_of (Many keys) = keys
