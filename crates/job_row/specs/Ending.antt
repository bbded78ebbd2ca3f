-- The device keys that the end of a job leaves to be erased.
use Rattle.std.specs.Prelude.{List, flat_map, Option, option_map, option_to_list}
use Rattle.std.specs.Option.{option_and_then}
use Rattle.obj_id.specs.declared.ids.ObjectId.{ObjectId}
use Rattle.obj_id.specs.declared.works.DeviceKey.{DeviceKey}
use Rattle.private_store.specs.rules.Tables.{at}
use Rattle.private_store.specs.rules.Private.{key_of}
use Rattle.job_row.specs.Row.{Row}

-- of a copy that is backed
abbrev pub key_at : Row → ObjectId → Option DeviceKey
key_at row id = option_and_then (λ kept. option_map (key_of row.job) kept.copy.backed) (at row.copies id)

-- of those of these copies that are
abbrev pub keys_backed : Row → List ObjectId → List DeviceKey
keys_backed row ids = flat_map (λ id. option_to_list (key_at row id)) ids
