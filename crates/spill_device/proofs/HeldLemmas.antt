-- What lies under a key.
use Rattle.std.proofs.Common.{◌≡◌, ℕ, Bool, true, false, ◌==◌, List, length, Option, Some, None, ap, ◌∙◌}
use Rattle.obj_id.specs.declared.works.DeviceKey.{DeviceKey}
use Rattle.spill_device.specs.Held.{Held, held_bytes_at, holds}

-- bytes of the length that is asked for
pub holds_bytes : (held : Held) (key : DeviceKey) (len : ℕ) (bytes : List ℕ) → held_bytes_at held key ≡ Some bytes → (length bytes == len) ≡ true → holds held key len ≡ true
holds_bytes held key len bytes at long =
    ap (λ (o : Option (List ℕ)). elim o as (λ _. Bool) [ None ↦ false | Some b ↦ length b == len ]) at ∙ long
