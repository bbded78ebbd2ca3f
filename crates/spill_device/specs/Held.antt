-- What a device in memory holds.
use Rattle.std.specs.Prelude.{◌≡◌, ℕ, ◌==◌, Bool, false, true, if◌then◌else◌, List, length, Option, Some, None, Result, Ok, Err}
use Rattle.std.specs.Map.{lookup}
use Rattle.std.specs.Ordering.{nat_cmp, ordering_then, is_eq}
use Rattle.std.specs.declared.cmp.Ordering.{Ordering}
use Rattle.obj_id.specs.declared.works.DeviceKey.{DeviceKey}
use Rattle.spill_device.specs.Faults.{next_count}
use Rattle.spill_device.specs.declared.DeviceFault.{DeviceFault}
use Rattle.spill_device.specs.declared.DeviceFault.TheVariants.{Failed, NoMemory}

-- the bytes under each key, by rising key, and how many calls failed
pub record Held : Type 0 where
  pub stored : List (DeviceKey × List ℕ)
  pub failures : ℕ

-- by job, then number
abbrev pub key_cmp : DeviceKey → DeviceKey → Ordering
key_cmp a b = ordering_then (nat_cmp a.job.0 b.job.0) (nat_cmp a.number b.number)

abbrev pub same_device_key : DeviceKey → DeviceKey → Bool
same_device_key a b = is_eq (key_cmp a b)

-- the bytes under the key
abbrev pub held_bytes_at : Held → DeviceKey → Option (List ℕ)
held_bytes_at held key = lookup (same_device_key key) held.stored

-- whether there are so many bytes under the key
abbrev pub holds : Held → DeviceKey → ℕ → Bool
holds held key len = elim (held_bytes_at held key) [ None ↦ false | Some bytes ↦ length bytes == len ]

-- what is under one key has become this, and no other key's bytes have changed
pub record Becomes (old : Held) (key : DeviceKey) (now : Option (List ℕ)) (new : Held) : Type 0 where
  pub bytes : (other : DeviceKey) → held_bytes_at new other ≡ (if same_device_key key other then now else held_bytes_at old other)
  pub failures : new.failures ≡ old.failures

-- a write puts the bytes under the key; without memory it changes nothing
abbrev pub WritesKey : Held → DeviceKey → List ℕ → Result (Unit {0}) DeviceFault → Held → Type 0
WritesKey old key bytes (Ok _) new = Becomes old key (Some bytes) new
WritesKey old key bytes (Err Failed) new = ⊥
WritesKey old key bytes (Err NoMemory) new = new ≡ old

-- a read gives what is under the key; it fails only where there is nothing of that length
abbrev pub ReadsKey : Held → DeviceKey → ℕ → Result (List ℕ) DeviceFault → Held → Type 0
ReadsKey old key len (Ok bytes) new = (held_bytes_at old key ≡ Some bytes) × (length bytes ≡ len) × (new ≡ old)
ReadsKey old key len (Err Failed) new = (holds old key len ≡ false) × (new ≡ record old { failures = next_count old.failures })
ReadsKey old key len (Err NoMemory) new = (holds old key len ≡ true) × (new ≡ old)

-- an erase leaves nothing under the key, whether or not something was there
abbrev pub Erases : Held → DeviceKey → Result (Unit {0}) DeviceFault → Held → Type 0
Erases old key (Ok _) new = Becomes old key None new
Erases old key (Err _) new = ⊥
