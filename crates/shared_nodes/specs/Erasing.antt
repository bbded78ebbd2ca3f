-- Keys that steps gave out.
use Rattle.std.specs.Prelude.{List, [], ◌∷◌, ◌++◌}
use Rattle.obj_id.specs.declared.works.DeviceKey.{DeviceKey}

-- all that these gave out, in order
abbrev pub keys_in : {E : Type 0} → (E → List DeviceKey) → List E → List DeviceKey
keys_in keys [] = []
keys_in keys (e ∷ given) = keys e ++ keys_in keys given
