-- A device over files.
use Rattle.std.specs.Prelude.{ℕ, ◌++◌, ◌<◌, ◌^◌, List, codes, decimal}
use Rattle.obj_id.specs.declared.works.DeviceKey.{DeviceKey}

-- the name of the folder that the files lie in, and how many calls failed
pub record Folder : Type 0 where
  pub name : List ℕ
  pub failures : ℕ

-- both numbers of a key fit their types
abbrev pub IsKey : DeviceKey → Type 0
IsKey key = (key.job.0 < 2 ^ 32) × (key.number < 2 ^ 64)

-- the path of a key's file: `FOLDER/JOB.NUMBER`
abbrev pub file_path : List ℕ → DeviceKey → List ℕ
file_path folder key = folder ++ codes "/" ++ decimal key.job.0 ++ codes "." ++ decimal key.number
