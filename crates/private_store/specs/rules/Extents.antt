-- Extents of a window, and first fit.
use Rattle.std.specs.Prelude.{ℕ, zero, suc, ◌+◌, ◌*◌, ◌/◌, nat_lt, nat_le, Bool, true, false, ◌&&◌, ◌||◌, List, Option, Some, None}
use Rattle.std.specs.List.{list_all}
use Rattle.obj_id.specs.declared.works.Extent.{Extent}
use Rattle.private_store.specs.rules.Limits.{longest_object}

-- n bytes in whole units of 16
abbrev pub rounded : ℕ → ℕ
rounded n = 16 * ((n + 15) / 16)

-- whether an object of n bytes may be in a window
abbrev pub is_size : ℕ → ℕ → Bool
is_size window n = nat_lt 0 n && nat_le n longest_object && nat_le (rounded n) window

abbrev pub end_of : Extent → ℕ
end_of e = e.offset + e.length

-- no byte lies in both
abbrev pub is_apart : Extent → Extent → Bool
is_apart a b = nat_le (end_of a) b.offset || nat_le (end_of b) a.offset

-- whether n bytes, rounded up, lie within the window at the offset and meet no extent
abbrev pub is_free : List Extent → ℕ → ℕ → ℕ → Bool
is_free extents window n offset =
    let new : Extent = record { offset = offset; length = rounded n } in
    nat_le (end_of new) window && list_all (is_apart new) extents

-- the least of k offsets, in steps of 16 from this one on, at which n bytes are free
abbrev pub first_from : List Extent → ℕ → ℕ → ℕ → ℕ → Option ℕ
first_from extents window n offset zero = None
first_from extents window n offset (suc k) =
    elim (is_free extents window n offset) [
      | true ↦ Some offset
      | false ↦ first_from extents window n (offset + 16) k
    ]

-- first fit: the least multiple of 16 at which n bytes are free
abbrev pub first : List Extent → ℕ → ℕ → Option ℕ
first extents window n = first_from extents window n 0 (window / 16 + 1)
