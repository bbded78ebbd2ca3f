-- Places that extents leave, one after the other.
use Rattle.std.specs.Prelude.{◌≡◌, ℕ, ◌%◌, ◌^◌, ◌<◌, ◌≤◌, Bool, true, false, not, List, ◌++◌, filter, filter_map, is_some, length, take}
use Rattle.std.specs.List.{list_all}
use Rattle.obj_id.specs.declared.works.Extent.{Extent}
use Rattle.obj_id.specs.declared.ids.ObjectId.{ObjectId}
use Rattle.private_store.specs.rules.Extents.{is_apart}
use Rattle.private_store.specs.rules.Tables.{ById, is_among}
use Rattle.private_store.specs.rules.Shape.{Copy, Shape}
use Rattle.private_store.specs.rules.Copies.{extent_of}
use Rattle.private_store.specs.rules.Room.{offset_without}

-- whether n bytes at the offset meet nothing of the extent
abbrev pub is_apart_at : Extent → ℕ → ℕ → Bool
is_apart_at e n offset = is_apart (record { offset = offset; length = n }) e

-- n bytes at the offset meet no extent
abbrev pub AreApart : List Extent → ℕ → ℕ → Type 0
AreApart extents offset n = list_all (is_apart (record { offset = offset; length = n })) extents ≡ true

-- whole units, and as many as reach the end, as far as a window may reach
pub record IsEnd (end units : ℕ) : Type 0 where
  pub whole : units % 16 ≡ 0
  pub near : units ≤ 2 ^ 33
  pub past : (o : ℕ) → o < end → o < 2 ^ 33 → o < units
  pub least : (o : ℕ) → o % 16 ≡ 0 → o < units → o < end

-- the end is past the offset, and at no multiple of 16 between do n bytes meet nothing
pub record IsPastMet (extents : List Extent) (offset n end : ℕ) : Type 0 where
  pub whole : end % 16 ≡ 0
  pub near : end ≤ 2 ^ 33
  pub past : offset < end
  pub met : (o : ℕ) → offset ≤ o → o < end → o % 16 ≡ 0 → list_all (is_apart (record { offset = o; length = n })) extents ≡ false

-- the extents of the copies but for those that are out
abbrev pub extents_left : List ObjectId → ById Copy → List Extent
extents_left out copies = filter_map (λ e. extent_of e.1) (filter (λ e. not (is_among out e.0)) copies)

-- whether n bytes have room without those that are out and these
abbrev pub is_room_without : Shape → ℕ → List ObjectId → List ObjectId → Bool
is_room_without store n out ids = is_some (offset_without store n (out ++ ids))

-- for n bytes to have room fewer than `least` of the ids are too few, and the first `most` are enough
pub record IsBracket (store : Shape) (n : ℕ) (out ids : List ObjectId) (least most : ℕ) : Type 0 where
  pub rising : least ≤ most
  pub within : most ≤ length ids
  pub enough : is_room_without store n out (take most ids) ≡ true
  pub few : (j : ℕ) → j < least → is_room_without store n out (take j ids) ≡ false
